-- What a run shows its observer.
use Rattle.std.specs.Prelude.{◌≡◌, ℕ, ◌+◌, ◌≤◌, List, [], ◌∷◌, ◌++◌, length, take}
use Rattle.page_model.specs.Pages.{State}
use Rattle.page_model.specs.Parts.{Totals}
use Rattle.page_model.specs.declared.request.Entry.{Entry}
use Rattle.merge_run.specs.declared.rounds.TheConstants.{LIMIT}
use Rattle.merge_run.specs.Fronts.{report_after}

-- a report that was shown, and how many requests were served since the showing before it, or since the run began
pub record Showing : Type 0 where
  pub report : Totals
  pub served : ℕ

-- the most requests that are served between two showings
abbrev pub round_limit : ℕ
round_limit = LIMIT

-- So many entries were served before the showing. At most a round's more were served by then, and the report is that of the
-- replay of them all.
pub record IsShownNext (hash : ℕ → List ℕ → ℕ) (machine : State) (journal : List Entry) (before : ℕ) (s : Showing) : Type 0 where
  pub few : s.served ≤ round_limit
  pub front : before + s.served ≤ length journal
  pub report : s.report ≡ report_after hash machine (take (before + s.served) journal)

-- These are all showings while the journal grew from its first entries to the whole: each is shown next after the one before
-- it, and nothing was served after the last.
abbrev pub ShownAllAlong : (ℕ → List ℕ → ℕ) → State → List Entry → ℕ → List Showing → Type 0
ShownAllAlong hash machine journal before [] = before ≡ length journal
ShownAllAlong hash machine journal before (s ∷ later) = IsShownNext hash machine journal before s
    × ShownAllAlong hash machine journal (before + s.served) later

-- the observer was called with these showings, in order and with no others, and became the other
abbrev pub BecomesBy : {O : Type 0} → (O → Totals → ℕ → O → Type 0) → O → List Showing → O → Type 0
BecomesBy becomes o [] after = after ≡ o
BecomesBy becomes o (s ∷ later) after = (next : _) × becomes o s.report s.served next × BecomesBy becomes next later after

-- the observer was shown the run all along, from the moment at which the journal had so many entries
pub record WasShown {O : Type 0} (becomes : O → Totals → ℕ → O → Type 0) (hash : ℕ → List ℕ → ℕ) (before after : O) (machine : State)
    (from : ℕ) (journal : List Entry) : Type 0 where
  pub showings : List Showing
  pub calls : BecomesBy becomes before showings after
  pub along : ShownAllAlong hash machine journal from showings

-- a round served so many requests, at most its limit: they are the journal's new entries
pub record GrowsBy (served : ℕ) (before after : List Entry) : Type 0 where
  pub more : List Entry
  pub count : length more ≡ served
  pub few : served ≤ round_limit
  pub entries : after ≡ before ++ more
