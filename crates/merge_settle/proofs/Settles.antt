-- When all pairs have met.
use Rattle.std.proofs.Common.{◌≡◌, ℕ, ◌<◌, true, false, not, Option, None, Some, List, [], ◌∷◌, length, get_or, map, refl, ap, sym, ◌∙◌, arith}
use Rattle.std.specs.List.{position}
use Rattle.page_model.specs.Pages.{State}
use Rattle.page_model.specs.Journal.{asked, answers}
use Rattle.page_model.specs.declared.request.Entry.{Entry}
use Rattle.page_model.specs.declared.request.Request.{Request}
use Rattle.page_model.specs.declared.verdict.Verdict.{Verdict}
use Rattle.page_model.proofs.Journals.{length-answers}
use Rattle.share_rings.specs.declared.merger_end.MergerEnd.{MergerEnd}
use Rattle.share_rings.specs.declared.closed_port.ClosedPort.{ClosedPort}
use Rattle.share_rings.specs.Closing.{is_close, is_closed, has_close, has_closed, last_closed, last_passes, front}
use Rattle.share_rings.specs.Ends.{PairName, closed_sent, closed_got, closed_name, closed_view, end_taken, end_given, end_name, end_view}
use Rattle.share_rings.proofs.Fronts.{any_is_last, beside_front}
use Rattle.merge_machine.specs.Kept.{Keeps, closed_names, end_names, closed_views, end_views}
use Rattle.merge_machine.specs.Meets.{MeetWhereClosed, is_unclosed}
use Rattle.merge_settle.specs.Settling.{SettlesGuest, is_running, is_undrained, running_fault, undrained_fault, first_fault}
use Rattle.merge_machine.proofs.Lists.{maps_at, maps_length, position_views, position_alike, none_passes, some_of}

-- all that an end shows
abbrev View : Type 0 → Type 0
View A = PairName A × (List Request × List Verdict) × ℕ

module _ {A : Type 0} where
  -- the same guest is the least that runs
  pub running_views : (xs ys : List (MergerEnd A)) → end_views ys ≡ end_views xs → position is_running ys ≡ position is_running xs
  running_views xs ys e = position_views end_view (λ (v : View A). not (has_closed v.1.1)) ys xs e

  -- once a pair has met, its port's `Closed` stands last where it was got
  pub undrained_views : (ports now : List (ClosedPort A)) (ends : List (MergerEnd A)) → closed_names ports ≡ end_names ends → MeetWhereClosed ports ends (length ends) → closed_views now ≡ closed_views ports → position is_unclosed now ≡ position is_undrained ports
  undrained_views ports now ends names met views =
      let n = maps_length closed_name end_name ports ends names in
      position_views closed_view (λ (v : View A). not (last_closed v.1.1)) now ports views
      ∙ position_alike is_unclosed is_undrained ports (λ i p low. ap not (sym (met i p (some_of ends (omega (arith, low, n))) (omega (arith, low, n))).0))

  -- a guest is settled whose pair has met, once the merger's end kept its part of the journal
  pub settled_at : (hash : ℕ → List ℕ → ℕ) (machine : State) (journal : List Entry) (i : ℕ) (p : ClosedPort A) (e : MergerEnd A) → end_taken e ≡ asked i journal → end_given e ≡ answers hash machine i journal
      → end_taken e ≡ closed_sent p → closed_got p ≡ end_given e → last_closed (closed_got p) ≡ true → SettlesGuest hash machine journal i p
  settled_at hash machine journal i p e taken given t v drained =
      let sent : closed_sent p ≡ asked i journal = sym t ∙ taken in let got : closed_got p ≡ answers hash machine i journal = v ∙ given in record {
        sent = sent;
        got = got;
        each = ap length got ∙ (length-answers hash machine i journal ∙ sym (ap length sent));
        close_last = sym (any_is_last is_close (closed_sent p) p.once) ∙ p.shut;
        close_once = p.once;
        closed_last = drained;
        closed_once = ap (λ (vs : List Verdict). has_closed (front vs)) v ∙ beside_front is_closed is_close (end_given e) (end_taken e) e.answered e.once;
      }

  -- a port that shows the same is settled alike
  pub settles_views : (hash : ℕ → List ℕ → ℕ) (machine : State) (journal : List Entry) (i : ℕ) (p q : ClosedPort A) → closed_view q ≡ closed_view p → SettlesGuest hash machine journal i p → SettlesGuest hash machine journal i q
  settles_views hash machine journal i p q e s =
      let sent : closed_sent q ≡ closed_sent p = ap (λ (v : View A). v.1.0) e in let got : closed_got q ≡ closed_got p = ap (λ (v : View A). v.1.1) e in record {
        sent = sent ∙ s.sent;
        got = got ∙ s.got;
        each = ap length got ∙ (s.each ∙ sym (ap length sent));
        close_last = ap (last_passes is_close) sent ∙ s.close_last;
        close_once = ap (λ (rs : List Request). has_close (front rs)) sent ∙ s.close_once;
        closed_last = ap last_closed got ∙ s.closed_last;
        closed_once = ap (λ (vs : List Verdict). has_closed (front vs)) got ∙ s.closed_once;
      }

  -- the headline: what each guest sent and got is what the journal has of it
  pub all_settled : (hash : ℕ → List ℕ → ℕ) (machine : State) (journal : List Entry) (ports now : List (ClosedPort A)) (ends : List (MergerEnd A)) → closed_names ports ≡ end_names ends → Keeps hash machine ends journal
      → MeetWhereClosed ports ends (length ends) → position is_running ends ≡ None → position is_undrained ports ≡ None → closed_views now ≡ closed_views ports
      → (i : ℕ) (d : ClosedPort A) → i < length now → SettlesGuest hash machine journal i (get_or now i d)
  all_settled hash machine journal ports now ends names k met running undrained views i d l =
      let same = maps_length closed_view closed_view now ports views in
      let n = maps_length closed_name end_name ports ends names in
      let e = some_of ends (omega arith) in
      let m = met i d e (omega arith) in
      let given : not (has_closed (end_given (get_or ends i e))) ≡ false = none_passes is_running ends i e running (omega arith) in
      let got : not (has_closed (closed_got (get_or ports i d))) ≡ false = none_passes is_undrained ports i d undrained (omega arith) in
      let g : has_closed (end_given (get_or ends i e)) ≡ true = grind arith in
      let has : has_closed (closed_got (get_or ports i d)) ≡ true = grind arith in
      let last : last_closed (closed_got (get_or ports i d)) ≡ true = sym m.0 ∙ has in
      let w = m.1 g has in let h = k i e (omega arith) in
      let there = maps_at closed_view closed_view now ports i d d views l in
      settles_views hash machine journal i (get_or ports i d) (get_or now i d) there
      (settled_at hash machine journal i (get_or ports i d) (get_or ends i e) h.0 h.1 w.0 w.1 last)

-- lists with equal images under f have equal images under any function of f
seen_through : {X Y Z : Type 0} (f : X → Y) (h : Y → Z) (xs ys : List X) → map f xs ≡ map f ys → map (λ x. h (f x)) xs ≡ map (λ x. h (f x)) ys
seen_through f h [] [] e = refl
seen_through f h [] (y ∷ ys) e = cc
seen_through f h (x ∷ xs) [] e = cc
seen_through f h (x ∷ xs) (y ∷ ys) e =
    let first : f x ≡ f y = cc in
    let rest : map f xs ≡ map f ys = cc in
    ap (λ z. z ∷ map (λ x. h (f x)) xs) (ap h first) ∙ ap (λ zs. h (f y) ∷ zs) (seen_through f h xs ys rest)

module _ {A : Type 0} where
  -- ports and ends of one machine are so still where they show what they showed
  pub still_paired : (ports0 ports : List (ClosedPort A)) (ends0 ends : List (MergerEnd A)) → closed_names ports0 ≡ end_names ends0 → closed_views ports ≡ closed_views ports0 → end_views ends ≡ end_views ends0 → closed_names ports ≡ end_names ends
  still_paired ports0 ports ends0 ends names pv ev =
      seen_through closed_view (λ (v : View A). v.0) ports ports0 pv ∙ (names ∙ sym (seen_through end_view (λ (v : View A). v.0) ends ends0 ev))

-- no fault, and so none of either kind
pub no_fault : (running undrained : Option ℕ) → running_fault running (undrained_fault undrained) ≡ None → (running ≡ None) × (undrained ≡ None)
no_fault None None e = (refl, refl)
no_fault None (Some i) e = cc
no_fault (Some i) undrained e = cc

module _ {A : Type 0} where
  -- the fault that is found after the meeting is that of ends and ports as they were before
  pub fault_found : (ports now shown : List (ClosedPort A)) (ends ends' seen : List (MergerEnd A)) → closed_names ports ≡ end_names ends → MeetWhereClosed ports ends (length ends) → closed_views now ≡ closed_views ports → end_views ends' ≡ end_views ends
      → seen ≡ ends' → shown ≡ now → running_fault (position is_running seen) (undrained_fault (position is_unclosed shown)) ≡ first_fault ends ports
  fault_found ports now shown ends ends' seen names met pv ev es ps =
      let running : position is_running seen ≡ position is_running ends = ap (position is_running) es ∙ running_views ends ends' ev in
      let undrained : position is_unclosed shown ≡ position is_undrained ports = ap (position is_unclosed) ps ∙ undrained_views ports now ends names met pv in
      ap (λ o. running_fault o (undrained_fault (position is_unclosed shown))) running
      ∙ ap (λ o. running_fault (position is_running ends) (undrained_fault o)) undrained
