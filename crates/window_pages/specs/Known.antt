-- What is known of a page, and what calls do to it.
use Rattle.std.specs.Prelude.{ℕ, ◌+◌, ◌*◌, ◌%◌, ◌^◌, Bool, true, false, not, ◌&&◌, ◌||◌, if◌then◌else◌, is_some}
use Rattle.page_lender.specs.Decisions.{account, due, is_outcome, shows}
use Rattle.page_lender.specs.declared.bars.Bars.{Bars}
use Rattle.page_lender.specs.declared.belief.Belief.{Belief}
use Rattle.page_lender.specs.declared.belief.Belief.TheVariants.{Private, Chosen, Copied, Turning, Shown, Leaving}
use Rattle.page_lender.specs.declared.belief.Homing.{Homing}
use Rattle.page_lender.specs.declared.belief.Homing.TheVariants.{Off, InPlace, Elsewhere}
use Rattle.page_lender.specs.declared.belief.Stage.TheVariants.{Ready}
use Rattle.page_lender.specs.declared.belief.Target.TheVariants.{Zeros}
use Rattle.page_lender.specs.declared.order.Outcome.{Outcome}
use Rattle.page_lender.specs.declared.page.PageLender.{PageLender}
use Rattle.page_lender.specs.Packing.{slot_in, frame_in}
use Rattle.window_pages.specs.declared.facts.WindowFacts.{WindowFacts}
use Rattle.window_pages.specs.declared.page.KnownPage.{KnownPage}
use Rattle.window_pages.specs.declared.page.PageNotes.{PageNotes}

-- the host has given a slot for the page, and it isn't known that it has it no more
abbrev pub has_slot : Belief → Bool
has_slot belief = is_some (account belief)

-- it shows a frame of a lender that is gone
abbrev pub shows_past : KnownPage → Bool
shows_past page = page.over && page.same

-- it was given back as zeros, and has no memory since
abbrev pub is_given_back : KnownPage → Bool
is_given_back page = not page.over && page.same

-- its memory may be a private copy over a frame
abbrev pub may_be_copy : KnownPage → Bool
may_be_copy page = page.over && not (shows page.belief) && not (shows_past page)

-- what keeps it from being lent
abbrev pub bars_of : WindowFacts → KnownPage → Bars
bars_of facts page = record {
  called = facts.called;
  pinned = facts.pinned || (facts.may_pin && may_be_copy page);
  inherited = facts.inherited;
  locked = facts.locked;
  left = page.out || facts.leaves;
  ended = facts.ended;
}

-- its lender
abbrev pub lender_of : WindowFacts → KnownPage → PageLender
lender_of facts page = record { belief = page.belief; ordered = page.ordered; bars = bars_of facts page }

-- nothing is known of its content any more
abbrev pub forgotten : PageNotes → PageNotes
forgotten notes = record notes { looks = 0; asks = 0; seen = false }

-- a slot and a frame take the place of its fingerprint
abbrev pub kept_by : Belief → PageNotes → PageNotes
kept_by belief notes = record notes { fingerprint = if has_slot belief then slot_in belief + frame_in belief * 2 ^ 32 else notes.fingerprint }

-- what is stored of notes while this is believed
abbrev pub stored : Belief → ℕ → PageNotes → PageNotes
stored belief before notes = record notes {
  fingerprint = if has_slot belief then before else notes.fingerprint;
  clue = notes.clue % 32768;
  looks = notes.looks % 4;
  asks = notes.asks % 4;
}

abbrev pub no_bars : Bars
no_bars = record { called = false; pinned = false; inherited = false; locked = false; left = false; ended = false }

-- an order of the page is open that can have this outcome
abbrev pub takes : Outcome → KnownPage → Bool
takes outcome page = page.ordered && is_outcome (due page.belief) outcome

-- what is believed of a page once it is chosen: to be lent, or to be given back if it is zeros
abbrev pub chosen_as : Bool → Belief
chosen_as true = Turning Ready Zeros
chosen_as false = Chosen

-- its notes with this clue
abbrev pub clued : ℕ → PageNotes → PageNotes
clued clue notes = record notes { clue = clue % 32768 }

-- it is to get a copy of its own where it is
abbrev pub is_in_place : Homing → Bool
is_in_place Off = false
is_in_place InPlace = true
is_in_place Elsewhere = false

abbrev pub homes_in_place : Belief → Bool
homes_in_place Private = false
homes_in_place Chosen = false
homes_in_place Copied = false
homes_in_place (Turning stage target) = false
homes_in_place (Shown slot n homing) = is_in_place homing
homes_in_place (Leaving slot) = false

-- a page over a frame has to stay where it is: it is to get its copy there, or it has one that a device may hold
abbrev pub stays : WindowFacts → Bool → KnownPage → Bool
stays facts is_copy page = homes_in_place page.belief || (is_copy && (facts.pinned || facts.may_pin))
