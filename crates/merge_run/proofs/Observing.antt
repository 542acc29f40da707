-- What an observer has kept, as its run goes on.
use Rattle.std.proofs.Common.{◌≡◌, ◌≤◌, ℕ, List, [], ◌∷◌, ◌++◌, inl, inr, refl, length, ap, sym, subst, ◌∙◌, arith}
use Rattle.std.proofs.lemmas.List.Elements.{All-nil, All-cons, All-head, All-tail}
use Rattle.std.specs.Prelude.{All, ◌⊎◌}
use Rattle.page_model.specs.Pages.{State, totals}
use Rattle.page_model.specs.Parts.{Totals}
use Rattle.page_model.specs.declared.request.Entry.{Entry}
use Rattle.merge_machine.specs.Machines.{opening, IsReplayOf}
use Rattle.merge_run.specs.Fronts.{IsOfFront, AreOfFronts}
use Rattle.merge_run.specs.Observed.{Observes}
use Rattle.merge_run.specs.Showings.{GrowsBy}
use Rattle.merge_run.proofs.Fronts.{are_of_longer, counts_all, with_whole}
use Rattle.merge_run.proofs.Showings.{shown_once, shown_then}

module _ (hash : ℕ → List ℕ → ℕ) where
  -- fronts of the journal before a round are fronts of the one after it
  pub fronts_next : {served : ℕ} (machine machine' : State) (journal journal' : List Entry) (kept : List Totals) → machine' ≡ machine → GrowsBy served journal journal' → AreOfFronts hash machine journal kept → AreOfFronts hash machine' journal' kept
  fronts_next machine machine' journal journal' kept same grows fronts =
      subst (λ m. AreOfFronts hash m journal' kept) (sym same) (subst (λ es. AreOfFronts hash machine es kept) (sym grows.entries) (are_of_longer hash machine journal grows.more kept fronts))

  -- no report that was kept is of more entries than the machine has
  none_later : (s : State) (journal : List Entry) (kept : List Totals) → IsReplayOf hash s journal → AreOfFronts hash (opening s) journal kept → All (λ r. r.entries ≤ s.entries) kept
  none_later s journal [] replayed fronts = All-nil (λ (r : Totals). r.entries ≤ s.entries)
  none_later s journal (r ∷ kept) replayed fronts =
      let P = IsOfFront hash (opening s) journal in
      let first = All-head P r kept fronts in
      All-cons (λ (x : Totals). x.entries ≤ s.entries) r kept (omega (arith, first.0, counts_all hash s journal replayed)) (none_later s journal kept replayed (All-tail P r kept fronts))

  pub none_later_than : (s : State) (journal : List Entry) (kept : List Totals) (report : Totals) → report ≡ totals s.entries s.guests → IsReplayOf hash s journal → AreOfFronts hash (opening s) journal kept → All (λ r. r.entries ≤ report.entries) kept
  none_later_than s journal kept report is replayed fronts = rw is (none_later s journal kept replayed fronts)

  -- whether the report was kept or not
  fronts_kept : (s : State) (journal : List Entry) (before after : List Totals) (report : Totals) → report ≡ totals s.entries s.guests → IsReplayOf hash s journal → AreOfFronts hash (opening s) journal before → ((after ≡ before) ⊎ (after ≡ before ++ report ∷ []))
      → AreOfFronts hash (opening s) journal after
  fronts_kept s journal before after report is replayed fronts (inl same) = subst (AreOfFronts hash (opening s) journal) (sym same) fronts
  fronts_kept s journal before after report is replayed fronts (inr more) =
      subst (AreOfFronts hash (opening s) journal) (sym (more ∙ ap (λ (x : Totals). before ++ x ∷ []) is)) (with_whole hash s journal before replayed fronts)

  -- before the first report
  pub fronts_fresh : (machine : State) (journal : List Entry) (kept : List Totals) → kept ≡ [] → AreOfFronts hash machine journal kept
  fronts_fresh machine journal kept none = subst (AreOfFronts hash machine journal) (sym none) (All-nil (IsOfFront hash machine journal))

  -- it was shown the report of the whole journal, after a round
  pub observes_once : {O : Type 0} (name : O → ℕ) (kept : O → List Totals) (becomes : O → Totals → ℕ → O → Type 0) (before after : O) (machine s : State) (served : ℕ) (journal journal' : List Entry) (report : Totals)
      → report ≡ totals s.entries s.guests → IsReplayOf hash s journal' → opening s ≡ machine → GrowsBy served journal journal' → AreOfFronts hash machine journal (kept before)
      → name after ≡ name before → ((kept after ≡ kept before) ⊎ (kept after ≡ kept before ++ report ∷ [])) → becomes before report served after
      → Observes name kept becomes hash before after (opening s) (length journal) journal'
  observes_once name kept becomes before after machine s served journal journal' report is replayed same grows fronts named keeps called =
      let now = fronts_next machine (opening s) journal journal' (kept before) same grows fronts in
      record {
        same = named;
        fronts = fronts_kept s journal' (kept before) (kept after) report is replayed now keeps;
        shown = shown_once hash becomes before after s served journal journal' report is replayed grows called;
      }

  -- before anything was served
  pub observes_nothing : {O : Type 0} (name : O → ℕ) (kept : O → List Totals) (becomes : O → Totals → ℕ → O → Type 0) (o : O) (machine : State) (journal : List Entry) → AreOfFronts hash machine journal (kept o) → Observes name kept becomes hash o o machine (length journal) journal
  observes_nothing name kept becomes o machine journal fronts = record { same = refl; fronts = fronts; shown = record { showings = []; calls = refl; along = refl } }

  -- it observed a part of the run, and then the part after it
  pub observes_then : {O : Type 0} (name : O → ℕ) (kept : O → List Totals) (becomes : O → Totals → ℕ → O → Type 0) (first middle last : O) (machine machine' : State) (from served : ℕ) (journal journal' : List Entry)
      → machine' ≡ machine → GrowsBy served journal journal' → Observes name kept becomes hash first middle machine from journal → Observes name kept becomes hash middle last machine' (length journal) journal'
      → Observes name kept becomes hash first last machine' from journal'
  observes_then name kept becomes first middle last machine machine' from served journal journal' same grows before after =
      record {
        same = after.same ∙ before.same;
        fronts = after.fronts;
        shown = shown_then hash becomes first middle last machine machine' from served journal journal' same grows before.shown after.shown;
      }
