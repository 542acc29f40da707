-- What stays true of published reports as a merger goes on, and publishing the report of a whole journal.
use Rattle.std.proofs.lemmas.List.Elements.{All-head, All-tail}
use Rattle.std.specs.Prelude.{All}
use Rattle.std.proofs.Common.{◌≡◌, ◌≤◌, length, arith, ℕ, List, [], ◌∷◌, ◌++◌, Result, Ok, Err, MatchResult, ap, sym, subst, ◌∙◌}
use Rattle.page_model.specs.Pages.{State, totals}
use Rattle.page_model.specs.Parts.{Totals}
use Rattle.page_model.specs.declared.request.Entry.{Entry}
use Rattle.page_model.specs.declared.hashing.HashFunction.{Ghosts}
use Rattle.merge_machine.specs.Machines.{opening, IsReplayOf}
use Rattle.merge_machine.specs.Rounds.{Rounds, IsFullForAll}
use Rattle.merge_machine.specs.Same.{SameMachine}
use Rattle.merge_machine.specs.Steps.{Steps, IsFull}
use Rattle.merge_machine.specs.View.{journal_of, machine_of}
use Rattle.merge_machine.specs.declared.merger.JournalFull.{JournalFull}
use Rattle.merge_machine.specs.declared.merger.Merger.{Merger}
use Rattle.merge_machine.specs.declared.merger.Step.{Step}
use Rattle.merge_machine.specs.declared.merger.Step.TheVariants.{Ended, Blocked, Idle, Done}
use Rattle.watched_machine.specs.Lists.{published}
use Rattle.watched_machine.specs.Reports.{last_of}
use Rattle.watched_machine.specs.Published.{Publishes}
use Rattle.watched_machine.specs.declared.publisher.PublishFault.{PublishFault}
use Rattle.watched_machine.specs.declared.publisher.Publisher.{Publisher}
use Rattle.watched_machine.specs.declared.told.Told.{Told}
use Rattle.merge_run.specs.Fronts.{IsOfFront, AreOfFronts}
use Rattle.merge_run.proofs.Fronts.{are_of_longer, counts_all, with_whole}

-- whether it was published or refused, each published report is that of a front
pub fronts_after : {A : Type 0} (hash : ℕ → List ℕ → ℕ) (s : State) (journal : List Entry) (before after : Publisher A) (r : Totals) (answer : Result Told PublishFault)
    → IsReplayOf hash s journal → r ≡ totals s.entries s.guests → AreOfFronts hash (opening s) journal (published before)
    → MatchResult answer (Publishes before after r) (λ _. published after ≡ published before) → AreOfFronts hash (opening s) journal (published after)
fronts_after hash s journal before after r (Ok told) replayed is fronts answered =
    subst (AreOfFronts hash (opening s) journal) (sym (answered.list ∙ ap (λ (x : Totals). published before ++ x ∷ []) is)) (with_whole hash s journal (published before) replayed fronts)
fronts_after hash s journal before after r (Err refused) replayed is fronts answered = subst (AreOfFronts hash (opening s) journal) (sym answered) fronts

-- no report of a front counts more entries than the journal has
last_no_later : (hash : ℕ → List ℕ → ℕ) (machine : State) (journal : List Entry) (reports : List Totals) → AreOfFronts hash machine journal reports → (last_of reports).entries ≤ length journal
last_no_later hash machine journal [] h = omega arith
last_no_later hash machine journal (r ∷ []) h = (All-head (IsOfFront hash machine journal) r [] h).0
last_no_later hash machine journal (r ∷ s ∷ reports) h = last_no_later hash machine journal (s ∷ reports) (All-tail (IsOfFront hash machine journal) r (s ∷ reports) h)

pub not_older : (hash : ℕ → List ℕ → ℕ) (s : State) (journal : List Entry) (reports : List Totals) → IsReplayOf hash s journal → AreOfFronts hash (opening s) journal reports → (last_of reports).entries ≤ s.entries
not_older hash s journal reports replayed h = omega (arith, last_no_later hash (opening s) journal reports h, counts_all hash s journal replayed)

-- a journal that stays, or gets longer, keeps the reports of its fronts
pub fronts_stay : (hash : ℕ → List ℕ → ℕ) (machine machine' : State) (journal journal' : List Entry) (reports : List Totals)
    → machine' ≡ machine → journal' ≡ journal → AreOfFronts hash machine journal reports → AreOfFronts hash machine' journal' reports
fronts_stay hash machine machine' journal journal' reports same stays fronts =
    subst (λ m. AreOfFronts hash m journal' reports) (sym same) (subst (λ es. AreOfFronts hash machine es reports) (sym stays) fronts)

pub fronts_grow : (hash : ℕ → List ℕ → ℕ) (machine machine' : State) (journal journal' more : List Entry) (reports : List Totals)
    → machine' ≡ machine → journal' ≡ journal ++ more → AreOfFronts hash machine journal reports → AreOfFronts hash machine' journal' reports
fronts_grow hash machine machine' journal journal' more reports same grows fronts =
    fronts_stay hash machine machine' (journal ++ more) journal' reports same grows (are_of_longer hash machine journal more reports fronts)

module _ {H A : Type 0} {ghosts : Ghosts H} where
  -- after a step
  pub fronts_stepped : (hash : ℕ → List ℕ → ℕ) (guest : ℕ) (old new : Merger H A ghosts) (reports : List Totals) (answer : Result Step JournalFull)
      → MatchResult answer (λ did. Steps hash guest old new did) (λ full. IsFull guest old new) → SameMachine old new
      → AreOfFronts hash (machine_of old) (journal_of old) reports → AreOfFronts hash (machine_of new) (journal_of new) reports
  fronts_stepped hash guest old new reports (Ok Ended) h same fronts = fronts_stay hash _ _ _ _ reports same.machine h.does.2.0 fronts
  fronts_stepped hash guest old new reports (Ok Blocked) h same fronts = fronts_stay hash _ _ _ _ reports same.machine h.does.6.0 fronts
  fronts_stepped hash guest old new reports (Ok Idle) h same fronts = fronts_stay hash _ _ _ _ reports same.machine h.does.5.0 fronts
  fronts_stepped hash guest old new reports (Ok Done) h same fronts = fronts_grow hash _ _ _ _ _ reports same.machine h.does.2.journal fronts
  fronts_stepped hash guest old new reports (Err full) h same fronts = fronts_stay hash _ _ _ _ reports same.machine h.same.0 fronts

  -- after a round
  pub fronts_after_round : (hash : ℕ → List ℕ → ℕ) (limit : ℕ) (old new : Merger H A ghosts) (reports : List Totals) (answer : Result ℕ JournalFull)
      → MatchResult answer (λ done. Rounds hash limit done old new) (λ full. IsFullForAll old new) → SameMachine old new
      → AreOfFronts hash (machine_of old) (journal_of old) reports → AreOfFronts hash (machine_of new) (journal_of new) reports
  fronts_after_round hash limit old new reports (Ok done) h same fronts = fronts_grow hash _ _ _ _ h.entries reports same.machine h.journal fronts
  fronts_after_round hash limit old new reports (Err full) h same fronts = fronts_stay hash _ _ _ _ reports same.machine h.same.0 fronts

-- a bound of all reports is one of the last
pub last_within : (n : ℕ) (reports : List Totals) → All (λ r. r.entries ≤ n) reports → (last_of reports).entries ≤ n
last_within n [] h = omega arith
last_within n (r ∷ []) h = All-head (λ (x : Totals). x.entries ≤ n) r [] h
last_within n (r ∷ s ∷ reports) h = last_within n (s ∷ reports) (All-tail (λ (x : Totals). x.entries ≤ n) r (s ∷ reports) h)
