-- Pages that are held, so that they come to show their frames, or zeros.
use Rattle.std.specs.Prelude.{◌≡◌, ℕ, Bool, true, false, not, ◌&&◌, if◌then◌else◌, List, slice_index_or}
use Rattle.lend_steps.specs.Copies.{ChosenFor, can_choose, facts_in}
use Rattle.lend_steps.specs.Lists.{Deed, Told}
use Rattle.lend_steps.specs.Releases.{is_hold}
use Rattle.look_tasks.specs.Rooms.{fits}
use Rattle.page_lender.specs.Calls.{IsOrdered}
use Rattle.page_lender.specs.declared.belief.Belief.{Belief}
use Rattle.page_lender.specs.declared.belief.Belief.TheVariants.{Private, Chosen, Copied, Turning, Shown, Leaving}
use Rattle.page_lender.specs.declared.belief.Stage.{Stage}
use Rattle.page_lender.specs.declared.belief.Stage.TheVariants.{Ready, Held, Equal, LettingGo}
use Rattle.page_lender.specs.declared.belief.Target.{Target}
use Rattle.page_lender.specs.declared.belief.Target.TheVariants.{Frame, Zeros}
use Rattle.page_lender.specs.declared.order.Order.{Order}
use Rattle.page_lender.specs.declared.order.Outcome.TheVariants.{Refused}
use Rattle.page_looks.specs.Idle.{asked_last}
use Rattle.page_looks.specs.Notes.{Notes, looks_of}
use Rattle.page_looks.specs.declared.parts.part.Part.{Part}
use Rattle.window_pages.specs.Bytes.{known_of, notes_of}
use Rattle.window_pages.specs.Changed.{Lends}
use Rattle.window_pages.specs.Known.{bars_of}
use Rattle.window_pages.specs.declared.counts.PartCounts.{PartCounts}
use Rattle.window_pages.specs.declared.facts.WindowFacts.{WindowFacts}
use Rattle.window_pages.specs.declared.page.WindowPage.{WindowPage}
use Rattle.window_tables.specs.Mappings.{is_whole}
use Rattle.window_tables.specs.Ranges.{has_pages}
use Rattle.window_tables.specs.Rooms.{zeros_more}
use Rattle.window_tables.specs.declared.facts.TableFacts.{TableFacts}

-- the target is a frame
abbrev pub is_frame : Target → Bool
is_frame (Frame slot number) = true
is_frame Zeros = false

-- nothing was done yet on the way to a target
abbrev pub is_begin : Stage → Bool
is_begin Ready = true
is_begin Held = false
is_begin Equal = false
is_begin LettingGo = false

-- the page has its loan, and isn't held yet
abbrev pub has_loan : Belief → Bool
has_loan Private = false
has_loan Chosen = false
has_loan Copied = false
has_loan (Turning stage target) = is_begin stage && is_frame target
has_loan (Shown slot frame homing) = false
has_loan (Leaving slot) = false

-- a page may be held that has its loan, and of which no order is open
abbrev pub can_hold : WindowPage → Bool
can_hold page = not (known_of page).ordered && has_loan (known_of page).belief

-- A page that may be held gets its order. Exactly if that is to hold it, and its part is split, the order stays open, and the answer is 1. Else it is
-- refused. Nothing becomes of another page.
pub data ToHold (facts : WindowFacts) (is_split : Bool) (answer : ℕ) (old new : WindowPage) (part part_new : PartCounts) : Type 0 where
  is_ordered : (order : Order) → can_hold old ≡ true → Lends (IsOrdered order) (bars_of facts (known_of old)) old new part part_new
      → (is_split && is_hold order) ≡ true → answer ≡ 1 → ToHold facts is_split answer old new part part_new
  is_refused : (order : Order) (between : WindowPage) (part_between : PartCounts) → can_hold old ≡ true
      → Lends (IsOrdered order) (bars_of facts (known_of old)) old between part part_between → (is_split && is_hold order) ≡ false
      → Told Refused between new part_between part_new → answer ≡ 0 → ToHold facts is_split answer old new part part_new
  is_passed_by : can_hold old ≡ false → answer ≡ 0 → new ≡ old → part_new ≡ part → ToHold facts is_split answer old new part part_new

-- The same of the page at a place of a list.
abbrev pub HoldsAt : TableFacts → List ℕ → ℕ → List Part → List ℕ → ℕ → Deed
HoldsAt table pins lead wholes numbers n = ToHold (facts_in table pins numbers n) (not (is_whole lead wholes (slice_index_or numbers n 0)))

-- A page that can be chosen is to be given back, and gets its order, if there is room for zeros in its place, or else is crowded out, and is asked about
-- as seldom as any. The answer is 1 if it is to be held, 4 if it is crowded out, and else 0. Nothing becomes of another page.
pub data ToGiveBack (facts : WindowFacts) (is_split has_room : Bool) (answer : ℕ) (old new : WindowPage) (part part_new : PartCounts) : Type 0 where
  is_given_back : (order : Order) → can_choose facts is_split old ≡ true → has_room ≡ true → ChosenFor (Turning Ready Zeros) facts order old new part part_new
      → answer ≡ (if is_hold order then 1 else 0) → ToGiveBack facts is_split has_room answer old new part part_new
  is_crowded_out : can_choose facts is_split old ≡ true → has_room ≡ false → answer ≡ 4
      → Notes (asked_last (looks_of old)) (notes_of old).seen old new part part_new → ToGiveBack facts is_split has_room answer old new part part_new
  is_kept : can_choose facts is_split old ≡ false → answer ≡ 0 → new ≡ old → part_new ≡ part → ToGiveBack facts is_split has_room answer old new part part_new

-- windows may take the mappings for zeros in place of the page at a place, where so many of so many are taken
abbrev pub has_room_for_zeros : ℕ → ℕ → ℕ → List Part → List WindowPage → ℕ → Bool
has_room_for_zeros most taken lead wholes pages place = has_pages place 1 pages && fits most taken (zeros_more lead wholes pages place 1)

-- The same of the page at a place of a list.
abbrev pub GivesBackAt : TableFacts → List ℕ → ℕ → ℕ → List Part → List ℕ → ℕ → ℕ → List WindowPage → Deed
GivesBackAt table pins most lead wholes numbers n taken now =
    ToGiveBack (facts_in table pins numbers n) (not (is_whole lead wholes (slice_index_or numbers n 0)))
    (has_room_for_zeros most taken lead wholes now (slice_index_or numbers n 0))
