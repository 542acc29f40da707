-- Pairs of ends, by their places in two lists.
use Rattle.std.proofs.Common.{◌≡◌, ℕ, ◌<◌, ◌≤◌, ◌+◌, true, false, List, length, get_or, set, refl, ap, sym, subst, ◌∙◌, arith, below_more, ⊎_elim}
use Rattle.std.specs.Prelude.{nat_eq}
use Rattle.std.proofs.lemmas.Bool.{eqb-true, cases_Bool}
use Rattle.std.proofs.lemmas.Grind.{common_steps}
use Rattle.std.proofs.lemmas.List.{get_or-set_same}
use Rattle.page_model.specs.declared.request.Request.{Request}
use Rattle.page_model.specs.declared.verdict.Verdict.{Verdict}
use Rattle.share_rings.specs.declared.gather.Meeting.{Meeting}
use Rattle.share_rings.specs.declared.gather.Meeting.TheVariants.{Running, Undrained, Met}
use Rattle.share_rings.specs.declared.merger_end.MergerEnd.{MergerEnd}
use Rattle.share_rings.specs.declared.closed_port.ClosedPort.{ClosedPort}
use Rattle.share_rings.specs.Closing.{has_closed, last_closed}
use Rattle.share_rings.specs.Ends.{PairName, closed_sent, closed_got, closed_name, closed_view, end_taken, end_given, end_free, end_name, end_view}
use Rattle.share_rings.specs.Meet.{MeetingIs}
use Rattle.merge_machine.specs.Kept.{closed_names, end_names, closed_views, end_views}
use Rattle.merge_machine.specs.Meets.{MeetWhereClosed, MeetWhereClosedAt, KnownAt, KnownBelow, NoFewerFree}
use Rattle.merge_machine.proofs.Lists.{maps_at, maps_length}

where_closed : (m : Meeting) (sent taken : List Request) (given got : List Verdict) → MeetingIs m sent taken given got → has_closed given ≡ true → has_closed got ≡ true → (taken ≡ sent) × (got ≡ given)
where_closed Running sent taken given got h g t = cc
where_closed Undrained sent taken given got h g t = cc
where_closed Met sent taken given got h g t = (h.2, h.3)

-- all that an end shows
abbrev View : Type 0 → Type 0
View A = PairName A × (List Request × List Verdict) × ℕ

module _ {A : Type 0} where
  -- the pairs stay pairs, whatever their rings have come to
  pub still_pair : (ports0 ports : List (ClosedPort A)) (ends0 ends : List (MergerEnd A)) (i : ℕ) (p : ClosedPort A) (e : MergerEnd A) → closed_names ports0 ≡ end_names ends0 → closed_views ports ≡ closed_views ports0 → end_views ends ≡ end_views ends0
      → i < length ends → p ≡ get_or ports i p → e ≡ get_or ends i e → closed_name p ≡ end_name e
  still_pair ports0 ports ends0 ends i p e names pv ev l pis eis =
      let le = maps_length end_view end_view ends ends0 ev in
      let lp = maps_length closed_view closed_view ports ports0 pv in
      let ln = maps_length closed_name end_name ports0 ends0 names in
      let a = ap (λ (v : View A). v.0) (maps_at closed_view closed_view ports ports0 i p p pv (omega arith)) in
      let b = maps_at closed_name end_name ports0 ends0 i p e names (omega arith) in
      let c = ap (λ (v : View A). v.0) (maps_at end_view end_view ends ends0 i e e ev l) in
      ap closed_name pis ∙ (a ∙ (b ∙ (sym c ∙ sym (ap end_name eis))))

  -- a meeting is about the ends as they were at the beginning
  met_at : (p q : ClosedPort A) (e f : MergerEnd A) (m : Meeting) → closed_view p ≡ closed_view q → end_view e ≡ end_view f → MeetingIs m (closed_sent p) (end_taken e) (end_given e) (closed_got p)
      → has_closed (closed_got p) ≡ last_closed (closed_got p) → MeetWhereClosedAt q f
  met_at p q e f m pv ev met last =
      let sent : closed_sent p ≡ closed_sent q = ap (λ (v : View A). v.1.0) pv in
      let got : closed_got p ≡ closed_got q = ap (λ (v : View A). v.1.1) pv in
      let taken : end_taken e ≡ end_taken f = ap (λ (v : View A). v.1.0) ev in
      let given : end_given e ≡ end_given f = ap (λ (v : View A). v.1.1) ev in (
        ap has_closed (sym got) ∙ (last ∙ ap last_closed got),
        (λ hg ht.
            let w = where_closed m (closed_sent p) (end_taken e) (end_given e) (closed_got p) met (ap has_closed given ∙ hg) (ap has_closed got ∙ ht) in
            (sym taken ∙ (w.0 ∙ sent), sym got ∙ (w.1 ∙ given))),
      )

  -- one pair more has met
  pub met_more : (ports0 ports : List (ClosedPort A)) (ends0 ends : List (MergerEnd A)) (i : ℕ) (p : ClosedPort A) (e : MergerEnd A) (m : Meeting) → closed_names ports0 ≡ end_names ends0 → closed_views ports ≡ closed_views ports0
      → end_views ends ≡ end_views ends0 → i < length ends → p ≡ get_or ports i p → e ≡ get_or ends i e → MeetingIs m (closed_sent p) (end_taken e) (end_given e) (closed_got p) → has_closed (closed_got p) ≡ last_closed (closed_got p)
      → MeetWhereClosed ports0 ends0 i → MeetWhereClosed ports0 ends0 (i + 1)
  met_more ports0 ports ends0 ends i p e m names pv ev l pis eis met last all k q f below =
      let le = maps_length end_view end_view ends ends0 ev in
      let lp = maps_length closed_view closed_view ports ports0 pv in
      let ln = maps_length closed_name end_name ports0 ends0 names in
      below_more (λ j. MeetWhereClosedAt (get_or ports0 j q) (get_or ends0 j f)) i (λ j low. all j q f low)
      (met_at p (get_or ports0 i q) e (get_or ends0 i f) m
      (ap closed_view pis ∙ maps_at closed_view closed_view ports ports0 i p q pv (omega arith))
      (ap end_view eis ∙ maps_at end_view end_view ends ends0 i e f ev l)
      met last)
      k below

  -- one pair more knows what is in its rings
  pub known_more : (ports : List (ClosedPort A)) (ends : List (MergerEnd A)) (i : ℕ) (p : ClosedPort A) (e : MergerEnd A) → i < length ports → i < length ends → KnownAt p e → KnownBelow ports ends i → KnownBelow (set ports i p) (set ends i e) (i + 1)
  known_more ports ends i p e lp le here all k q f below =
      below_more (λ j. KnownAt (get_or (set ports i p) j q) (get_or (set ends i e) j f)) i
      (λ j low.
      let a : get_or (set ports i p) j q ≡ get_or ports j q = grind (arith, common_steps) in
      let b : get_or (set ends i e) j f ≡ get_or ends j f = grind (arith, common_steps) in
      rw (a, b) (all j q f low))
      (rw (get_or-set_same ports i p q lp, get_or-set_same ends i e f le) here)
      k below

  -- one end more has looked for free slots
  pub free_more : (ends0 ends : List (MergerEnd A)) (i : ℕ) (e f : MergerEnd A) → length ends ≡ length ends0 → e ≡ get_or ends i e → end_free e ≤ end_free f → NoFewerFree ends0 ends → NoFewerFree ends0 (set ends i f)
  free_more ends0 ends i e f same at more all k d below =
      ⊎_elim
      (λ (hit : nat_eq i k ≡ true).
      let is : i ≡ k = eqb-true i k hit in
      let low : k < length ends = omega (arith, below, same) in
      let here : e ≡ get_or ends k d = subst (λ j. e ≡ get_or ends j e) is at ∙ maps_at (λ x. x) (λ x. x) ends ends k e d refl low in
      let there : get_or (set ends i f) k d ≡ f = subst (λ j. get_or (set ends j f) k d ≡ f) (sym is) (get_or-set_same ends k f d low) in
      omega (arith, all k d below, ap end_free here, ap end_free there, more))
      (λ (miss : nat_eq i k ≡ false).
      let other : get_or (set ends i f) k d ≡ get_or ends k d = grind (arith, common_steps) in
      omega (arith, all k d below, ap end_free other))
      (cases_Bool (nat_eq i k))
