-- What is done next with a page that is held, and what comes of it.
use Rattle.std.specs.Prelude.{◌≡◌, Bool, true, false, if◌then◌else◌, Option, Some, None}
use Rattle.page_lender.specs.Decisions.{waiting}
use Rattle.page_lender.specs.declared.belief.Belief.{Belief}
use Rattle.page_lender.specs.declared.belief.Belief.TheVariants.{Private, Chosen, Copied, Turning, Shown, Leaving}
use Rattle.page_lender.specs.declared.belief.Stage.{Stage}
use Rattle.page_lender.specs.declared.belief.Stage.TheVariants.{Ready, Held, Equal, LettingGo}
use Rattle.page_lender.specs.declared.belief.Target.{Target}
use Rattle.page_lender.specs.declared.belief.Target.TheVariants.{Frame, Zeros}
use Rattle.page_lender.specs.declared.order.Outcome.{Outcome}
use Rattle.page_lender.specs.declared.order.Outcome.TheVariants.{Done, Unknown, Refused as NotDone}
use Rattle.page_lender.specs.Calls.{IsDone}
use Rattle.window_pages.specs.Bytes.{known_of}
use Rattle.window_pages.specs.Changed.{Lends}
use Rattle.window_pages.specs.Known.{no_bars, takes}
use Rattle.window_pages.specs.declared.counts.PartCounts.{PartCounts}
use Rattle.window_pages.specs.declared.page.KnownPage.{KnownPage}
use Rattle.window_pages.specs.declared.page.WindowPage.{WindowPage}
use Rattle.page_holds.specs.declared.place.HeldPlace.{HeldPlace}
use Rattle.page_holds.specs.declared.place.HeldPlace.TheVariants.{Free, Guarded, Aside, Replaced}
use Rattle.page_holds.specs.declared.place.HoldStep.{HoldStep}
use Rattle.page_holds.specs.declared.place.HoldStep.TheVariants.{Over, Compare, CompareZeros, Map, GiveBack, PutBack, EndWatch}
use Rattle.page_holds.specs.declared.place.Taking.{Taking}
use Rattle.page_holds.specs.declared.place.Taking.TheVariants.{Refused as NotTaken, Watched, Guarded as TakenGuarded, Aside as TakenAside}

-- what came of the order to hold a page
abbrev pub outcome_of : Taking → Outcome
outcome_of NotTaken = NotDone
outcome_of Watched = Unknown
outcome_of TakenGuarded = Done
outcome_of TakenAside = Done

-- and where the page's memory is then
abbrev pub place_of : Taking → HeldPlace
place_of NotTaken = Free
place_of Watched = Guarded
place_of TakenGuarded = Guarded
place_of TakenAside = Aside

-- the page is to be held
abbrev pub is_ready : Stage → Bool
is_ready Ready = true
is_ready Held = false
is_ready Equal = false
is_ready LettingGo = false

abbrev pub is_to_hold : Belief → Bool
is_to_hold Private = false
is_to_hold Chosen = false
is_to_hold Copied = false
is_to_hold (Turning stage target) = is_ready stage
is_to_hold (Shown slot n homing) = false
is_to_hold (Leaving slot) = false

-- the outcome that is taken when a hold begins
abbrev pub asks_for : Belief → Taking → Option Outcome
asks_for belief taking = if is_to_hold belief then Some (outcome_of taking) else None

-- what is done next with a page that isn't to be shown, or was mapped
abbrev pub parted : HeldPlace → HoldStep
parted Free = Over
parted Guarded = EndWatch
parted Aside = PutBack
parted Replaced = EndWatch

-- with one that was found to be zeros
abbrev pub zeros_parted : HeldPlace → HoldStep
zeros_parted Free = Over
zeros_parted Guarded = GiveBack
zeros_parted Aside = EndWatch
zeros_parted Replaced = EndWatch

-- with one that was held
abbrev pub compared : Target → HoldStep
compared (Frame slot n) = Compare
compared Zeros = CompareZeros

-- with one that was found equal to its target
abbrev pub shown_step : Target → HeldPlace → HoldStep
shown_step (Frame slot n) place = Map
shown_step Zeros place = zeros_parted place

-- with one that has come so far on its way to a target
abbrev pub step_at : Stage → Target → HeldPlace → HoldStep
step_at Ready target place = parted place
step_at Held target place = compared target
step_at Equal target place = shown_step target place
step_at LettingGo target place = parted place

-- with a page of which this is believed
abbrev pub step_of : Belief → HeldPlace → HoldStep
step_of Private place = parted place
step_of Chosen place = parted place
step_of Copied place = parted place
step_of (Turning stage target) place = step_at stage target place
step_of (Shown slot n homing) place = parted place
step_of (Leaving slot) place = parted place

-- where the memory is of a page for which threads may wait still: if nothing is at its place, zeros come there
abbrev pub still_watched : HeldPlace → HeldPlace
still_watched Free = Free
still_watched Guarded = Guarded
still_watched Aside = Replaced
still_watched Replaced = Replaced

-- where the memory is after a step that was done, or wasn't
abbrev pub place_after : HoldStep → HeldPlace → Bool → HeldPlace
place_after Over place is_done = place
place_after Compare place is_done = place
place_after CompareZeros place is_done = place
place_after Map place true = Replaced
place_after Map place false = place
place_after GiveBack place true = Replaced
place_after GiveBack place false = place
place_after PutBack place true = Guarded
place_after PutBack place false = place
place_after EndWatch place true = Free
place_after EndWatch place false = still_watched place

abbrev pub said : Bool → Outcome
said true = Done
said false = NotDone

-- what a step says of the page's order, of which this is believed: a page is let go, and its memory given back, once the watch has ended
abbrev pub outcome_for : HoldStep → Belief → Bool → Option Outcome
outcome_for Over belief is_done = None
outcome_for Compare belief is_done = Some (said is_done)
outcome_for CompareZeros belief is_done = Some (said is_done)
outcome_for Map belief is_done = Some (said is_done)
outcome_for GiveBack belief true = None
outcome_for GiveBack belief false = Some NotDone
outcome_for PutBack belief true = None
outcome_for PutBack belief false = if waiting belief then Some NotDone else None
outcome_for EndWatch belief is_done = if waiting belief then Some (said is_done) else None

-- an order of the page is open that can have this outcome
abbrev pub is_taken : Option Outcome → KnownPage → Bool
is_taken None page = false
is_taken (Some outcome) page = takes outcome page

-- The outcome is taken exactly if there is one, and an order of the page is open that can have it. Else nothing changes.
pub record Took (outcome : Option Outcome) (old new : WindowPage) (part part_new : PartCounts) : Type 0 where
  pub done : (its : Outcome) → outcome ≡ Some its → takes its (known_of old) ≡ true → Lends (IsDone its) no_bars old new part part_new
  pub page : is_taken outcome (known_of old) ≡ false → new ≡ old
  pub counts : is_taken outcome (known_of old) ≡ false → part_new ≡ part
