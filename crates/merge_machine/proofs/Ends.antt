-- One end of the merger's list is replaced.
use Rattle.std.proofs.Common.{◌≡◌, ℕ, ◌<◌, true, false, List, [], ◌∷◌, ◌++◌, length, get_or, set, ap, sym, subst, ◌∙◌, arith, ⊎_elim}
use Rattle.std.specs.Prelude.{nat_eq}
use Rattle.std.proofs.lemmas.Grind.{common_steps}
use Rattle.std.proofs.lemmas.Bool.{eqb-true, cases_Bool}
use Rattle.std.proofs.lemmas.List.{get_or-set_same}
use Rattle.page_model.specs.Pages.{State}
use Rattle.page_model.specs.Steps.{step}
use Rattle.page_model.specs.Replay.{state_after}
use Rattle.page_model.specs.Journal.{asked, answers}
use Rattle.page_model.specs.declared.request.Request.{Request}
use Rattle.page_model.specs.declared.request.Entry.{Entry}
use Rattle.page_model.specs.declared.verdict.Verdict.{Verdict}
use Rattle.page_model.proofs.Journals.{asked_hit, asked_miss, answers_hit, answers_miss, length-answers, state_after-append}
use Rattle.share_rings.specs.declared.merger_end.MergerEnd.{MergerEnd}
use Rattle.share_rings.specs.Closing.{is_close}
use Rattle.share_rings.specs.Ends.{PairName, end_taken, end_given, end_view}
use Rattle.merge_machine.specs.Kept.{Keeps, end_views}
use Rattle.merge_machine.proofs.Lists.{last_at, maps_at, maps_length}

module _ {A : Type 0} (hash : ℕ → List ℕ → ℕ) (machine : State) where
  pub keeps_here : (ends : List (MergerEnd A)) (journal : List Entry) (g : ℕ) (e : MergerEnd A) → Keeps hash machine ends journal → g < length ends → e ≡ get_or ends g e → (end_taken e ≡ asked g journal) × (end_given e ≡ answers hash machine g journal)
  keeps_here ends journal g e k l at =
      let P : MergerEnd A → Type 0 = λ x. (end_taken x ≡ asked g journal) × (end_given x ≡ answers hash machine g journal) in subst P (sym at) (k g e l)

  -- one more entry, taken and answered
  pub keeps_done : (ends : List (MergerEnd A)) (journal : List Entry) (g : ℕ) (r : Request) (e : MergerEnd A) → Keeps hash machine ends journal → g < length ends
      → end_taken e ≡ asked g journal ++ r ∷ [] → end_given e ≡ answers hash machine g journal ++ (step hash (state_after hash machine journal) g r).verdict ∷ []
      → Keeps hash machine (set ends g e) (journal ++ record { guest = g; request = r } ∷ [])
  keeps_done ends journal g r e k l t v i d below =
      let entry : Entry = record { guest = g; request = r } in
      ⊎_elim
      (λ (hit : nat_eq g i ≡ true).
      let is : g ≡ i = eqb-true g i hit in
      let P : ℕ → Type 0 = λ j. (end_taken (get_or (set ends g e) j d) ≡ asked j (journal ++ entry ∷ [])) × (end_given (get_or (set ends g e) j d) ≡ answers hash machine j (journal ++ entry ∷ [])) in
      let hit' : nat_eq g g ≡ true = grind arith in
      subst P is (rw (get_or-set_same ends g e d l, asked_hit g journal entry hit', answers_hit hash machine g journal entry hit') (t, v)))
      (λ (miss : nat_eq g i ≡ false).
      let other : get_or (set ends g e) i d ≡ get_or ends i d = grind (arith, common_steps) in
      let below' : i < length ends = grind (arith, common_steps) in
      rw (other, asked_miss i journal entry miss, answers_miss hash machine i journal entry miss) (k i d below'))
      (cases_Bool (nat_eq g i))

module _ {A : Type 0} where
  -- ends that show the same keep the same
  pub keeps_views : (hash : ℕ → List ℕ → ℕ) (machine : State) (journal : List Entry) (xs ys : List (MergerEnd A)) → end_views ys ≡ end_views xs → Keeps hash machine xs journal → Keeps hash machine ys journal
  keeps_views hash machine journal xs ys e k i d l =
      let n = maps_length end_view end_view ys xs e in
      let at = maps_at end_view end_view ys xs i d d e l in
      let h = k i d (omega arith) in
      (ap (λ (v : PairName A × (List Request × List Verdict) × ℕ). v.1.0) at ∙ h.0, ap (λ (v : PairName A × (List Request × List Verdict) × ℕ). v.1.1) at ∙ h.1)

-- the request that was taken last is the first without a verdict
pub next_unanswered : (hash : ℕ → List ℕ → ℕ) (machine : State) (journal : List Entry) (g : ℕ) (r : Request) (taken : List Request) (given : List Verdict) → taken ≡ asked g journal ++ r ∷ [] → given ≡ answers hash machine g journal
    → (length given < length taken) × ((d : Request) → is_close r ≡ is_close (get_or taken (length given) d))
next_unanswered hash machine journal g r taken given t v =
    let same : length (answers hash machine g journal) ≡ length (asked g journal) = length-answers hash machine g journal in (
      rw (t, v) (grind (arith, common_steps)),
      (λ d. rw (t, v, same) (ap is_close (last_at (asked g journal) r d))),
    )

-- the state after one more entry
pub state_after_push : (hash : ℕ → List ℕ → ℕ) (machine : State) (journal : List Entry) (g : ℕ) (r : Request) → state_after hash machine (journal ++ record { guest = g; request = r } ∷ []) ≡ (step hash (state_after hash machine journal) g r).state
unfolding state_after
state_after_push hash machine journal g r = state_after-append hash machine journal (record { guest = g; request = r } ∷ [])
