-- Calls for many pages at once, for held pages and for looks are calls of a history, page by page.
use Rattle.std.specs.Prelude.{◌≡◌, ℕ, true, false, List, Option, Some, slice_get}
use Rattle.page_lender.specs.declared.order.Outcome.{Outcome}
use Rattle.window_events.specs.Windows.{Mappings, is_bare}
use Rattle.window_events.specs.declared.page.Page.{Page}
use Rattle.page_lender.specs.Calls.{IsDone}
use Rattle.window_pages.specs.Changed.{Lends}
use Rattle.window_pages.specs.Known.{no_bars}
use Rattle.window_pages.specs.Lives.{WasDetached}
use Rattle.window_pages.specs.declared.counts.PartCounts.{PartCounts}
use Rattle.window_pages.specs.declared.page.WindowPage.{WindowPage}
use Rattle.window_tables.specs.Changes.{IsNow}
use Rattle.window_tables.specs.declared.changes.Change.{Change}
use Rattle.window_tables.specs.declared.changes.Change.TheVariants.{Covered, Uncovered, GivenUp, Unmapped, Left, Detached}
use Rattle.page_looks.specs.Steps.{Came}
use Rattle.page_looks.specs.declared.finds.step.FindOutcome.{FindOutcome}
use Rattle.page_looks.specs.declared.finds.step.FindStep.{FindStep}
use Rattle.page_looks.specs.declared.finds.step.Sight.{Sight}
use Rattle.page_holds.specs.Steps.{Took}
use Rattle.lending_laws.specs.Histories.{Calls, Pending}

-- the page shows no frame itself
abbrev pub ShowsNone : ℕ → Mappings → Type 0
ShowsNone p w = (x : Page) → slice_get w.pages p ≡ Some x → is_bare x.view ≡ false

-- what is noted is so: memory is put at a page's place, or its content is given up, only where it shows no frame
abbrev pub IsTruly : Change → ℕ → Mappings → Type 0
IsTruly (Covered frame) p w = Unit {0}
IsTruly (Uncovered moved) p w = ShowsNone p w
IsTruly GivenUp p w = ShowsNone p w
IsTruly Unmapped p w = ShowsNone p w
IsTruly Left p w = Unit {0}
IsTruly Detached p w = ⊥

-- A page of a range of which something is noted changes by a call of a history. That all are detached is the end of a lender.
abbrev pub EachNoteIsACall : Type 0
EachNoteIsACall =
    (change : Change) (behind p : ℕ) (w : Mappings) (old new : WindowPage) (pending : Pending) (page : Page) → IsNow change behind old new → slice_get w.pages p ≡ Some page →
    IsTruly change p w → Calls p w old pending new pending

-- One of which it is noted that its lender is gone was detached.
abbrev pub EachIsDetached : Type 0
EachIsDetached = (behind i : ℕ) (pages : List WindowPage) (old new : WindowPage) → IsNow Detached behind old new → slice_get pages i ≡ Some old → WasDetached i pages new

-- What a step of a hold takes is the outcome of the page's order, or the page stays.
pub data IsToldOrStays (outcome : Option Outcome) (old new : WindowPage) : Type 0 where
  told : (its : Outcome) (part after : PartCounts) → outcome ≡ Some its → Lends (IsDone its) no_bars old new part after → IsToldOrStays outcome old new
  stays : new ≡ old → IsToldOrStays outcome old new

abbrev pub EachStepTells : Type 0
EachStepTells = (outcome : Option Outcome) (old new : WindowPage) (part after : PartCounts) → Took outcome old new part after → IsToldOrStays outcome old new

-- A page changes by two calls, one after the other.
pub record ChangesByTwo (p : ℕ) (w : Mappings) (pending : Pending) (old new : WindowPage) : Type 0 where
  pub middle : WindowPage
  pub first : Calls p w old pending middle pending
  pub second : Calls p w middle pending new pending

-- What comes of a step of a look changes the page by calls of a history, if a copy that was found is one.
abbrev pub EachLookIsCalls : Type 0
EachLookIsCalls =
    (step : FindStep) (sight : Sight) (outcome : FindOutcome) (next : FindStep) (old new : WindowPage) (part after : PartCounts) (p : ℕ) (w : Mappings) (pending : Pending) (page : Page) →
    Came step sight outcome next old new part after → slice_get w.pages p ≡ Some page → (outcome.is_own ≡ true → is_bare page.view ≡ false) → ChangesByTwo p w pending old new
