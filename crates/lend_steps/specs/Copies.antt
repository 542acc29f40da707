-- Pages that are copied to the lender's buffer.
use Rattle.std.specs.Prelude.{◌≡◌, ℕ, Bool, true, false, not, ◌&&◌, ◌||◌, nat_eq, nat_lt, if◌then◌else◌, List, slice_index_or}
use Rattle.lend_steps.specs.Lists.{Deed, Told}
use Rattle.lend_steps.specs.declared.copies.Check.{Check}
use Rattle.lend_steps.specs.declared.copies.CopyOutcome.{CopyOutcome}
use Rattle.page_lender.specs.Calls.{IsChosen, IsOrdered, is_free}
use Rattle.page_lender.specs.declared.belief.Belief.{Belief}
use Rattle.page_lender.specs.declared.belief.Belief.TheVariants.{Chosen}
use Rattle.page_lender.specs.declared.order.Order.{Order}
use Rattle.page_lender.specs.declared.order.Order.TheVariants.{Wait, Copy, Lend, Hold, Compare, Map, LetGo, TakeHome, Release}
use Rattle.page_lender.specs.declared.order.Outcome.TheVariants.{Done, Refused}
use Rattle.page_looks.specs.Idle.{is_again}
use Rattle.page_looks.specs.Notes.{looks_of}
use Rattle.window_pages.specs.Bytes.{known_of}
use Rattle.window_pages.specs.Changed.{Becomes, Lends}
use Rattle.window_pages.specs.Known.{bars_of, lender_of}
use Rattle.window_pages.specs.declared.counts.PartCounts.{PartCounts}
use Rattle.window_pages.specs.declared.facts.WindowFacts.{WindowFacts}
use Rattle.window_pages.specs.declared.page.WindowPage.{WindowPage}
use Rattle.window_tables.specs.Facts.{facts_at, only_called}
use Rattle.window_tables.specs.Mappings.{is_whole}
use Rattle.window_tables.specs.declared.facts.TableFacts.{TableFacts}
use Rattle.page_looks.specs.declared.parts.part.Part.{Part}

-- a page can be chosen that is there, in a part that is split, and that is free; and of which no order is open
abbrev pub can_choose : WindowFacts → Bool → WindowPage → Bool
can_choose facts is_ready page = is_ready && not (known_of page).ordered && is_free (lender_of facts (known_of page))

-- How it is seen that a copy is of the page that a look found, which had this fingerprint. A page over a frame has no glance, and one that is asked
-- about again was last read long ago.
abbrev pub check_of : ℕ → WindowPage → Check
check_of fingerprint page =
    if (known_of page).over || is_again (looks_of page) then Check.Fingerprint
    else (if nat_eq (looks_of page).fingerprint fingerprint then Check.Glance else Check.Never)

-- the number of a check; 0 where nothing is to be copied
abbrev pub check_number : Check → ℕ
check_number Check.Fingerprint = 1
check_number Check.Glance = 2
check_number Check.Never = 3

-- the answer to a page that was given this order
abbrev pub copy_answer : Order → Check → ℕ
copy_answer Wait check = 0
copy_answer Copy check = check_number check
copy_answer Lend check = 0
copy_answer (Hold target) check = 0
copy_answer (Compare target) check = 0
copy_answer (Map target) check = 0
copy_answer (LetGo target) check = 0
copy_answer (TakeHome in_place) check = 0
copy_answer (Release slot) check = 0

-- The page is chosen, to be lent or to be given back, and then it is given this order.
pub record ChosenFor (belief : Belief) (facts : WindowFacts) (order : Order) (old new : WindowPage) (part part_new : PartCounts) : Type 0 where
  pub between : WindowPage
  pub part_between : PartCounts
  pub chosen : Lends (IsChosen belief) (bars_of facts (known_of old)) old between part part_between
  pub ordered : Lends (IsOrdered order) (bars_of facts (known_of between)) between new part_between part_new

-- A page that can be chosen is, and gets its order. The answer says how it is seen that the copy is of the page that was found, or 0 where it
-- isn't to be copied. Nothing becomes of another page.
pub data ToCopy (facts : WindowFacts) (is_ready : Bool) (fingerprint answer : ℕ) (old new : WindowPage) (part part_new : PartCounts) : Type 0 where
  is_chosen : (order : Order) → can_choose facts is_ready old ≡ true → ChosenFor Chosen facts order old new part part_new
      → answer ≡ copy_answer order (check_of fingerprint old) → ToCopy facts is_ready fingerprint answer old new part part_new
  is_left : can_choose facts is_ready old ≡ false → answer ≡ 0 → new ≡ old → part_new ≡ part → ToCopy facts is_ready fingerprint answer old new part part_new

-- what is so of a page of a list
abbrev pub facts_in : TableFacts → List ℕ → List ℕ → ℕ → WindowFacts
facts_in table pins numbers n = facts_at table pins (only_called false) (slice_index_or numbers n 0)

-- a page can be copied that is there, as far as its part goes: that is split
abbrev pub is_ready : ℕ → List Part → ℕ → ℕ → Bool
is_ready lead parts place there = nat_lt 0 there && not (is_whole lead parts place)

-- The same of the page at a place of a list.
abbrev pub CopiesAt : TableFacts → List ℕ → ℕ → List Part → List ℕ → List ℕ → List ℕ → ℕ → Deed
CopiesAt table pins lead wholes numbers there fingerprints n =
    ToCopy (facts_in table pins numbers n) (is_ready lead wholes (slice_index_or numbers n 0) (slice_index_or there n 0)) (slice_index_or fingerprints n 0)

-- what came of a copy, by its number
abbrev pub copied_by : ℕ → CopyOutcome
copied_by number = if nat_eq number 1 then CopyOutcome.Good else (if nat_eq number 2 then CopyOutcome.Changed else (if nat_eq number 3 then CopyOutcome.Zeros else CopyOutcome.Nothing))

-- A page was copied, and then it is given this order.
pub record CopiedThen (facts : WindowFacts) (order : Order) (old new : WindowPage) (part part_new : PartCounts) : Type 0 where
  pub between : WindowPage
  pub part_between : PartCounts
  pub told : Told Done old between part part_between
  pub ordered : Lends (IsOrdered order) (bars_of facts (known_of between)) between new part_between part_new

-- A page wasn't copied, and what looks have found of it counts no more.
pub record ChangedThen (old new : WindowPage) (part part_new : PartCounts) : Type 0 where
  pub between : WindowPage
  pub part_between : PartCounts
  pub told : Told Refused old between part part_between
  pub forgotten : Becomes (known_of between) true between new part_between part_new

-- whether a loan is to be asked for
abbrev pub lend_answer : Order → ℕ
lend_answer Wait = 0
lend_answer Copy = 0
lend_answer Lend = 1
lend_answer (Hold target) = 0
lend_answer (Compare target) = 0
lend_answer (Map target) = 0
lend_answer (LetGo target) = 0
lend_answer (TakeHome in_place) = 0
lend_answer (Release slot) = 0

-- What came of a copy is taken. Of a good one a loan is to be asked for, unless something keeps the page from being lent since.
pub data CameOfCopy (facts : WindowFacts) (answer : ℕ) (old new : WindowPage) (part part_new : PartCounts) : CopyOutcome → Type 0 where
  is_good : (order : Order) → CopiedThen facts order old new part part_new → answer ≡ lend_answer order → CameOfCopy facts answer old new part part_new CopyOutcome.Good
  is_changed : ChangedThen old new part part_new → answer ≡ 0 → CameOfCopy facts answer old new part part_new CopyOutcome.Changed
  is_zeros : Told Refused old new part part_new → answer ≡ 0 → CameOfCopy facts answer old new part part_new CopyOutcome.Zeros
  is_nothing : answer ≡ 0 → new ≡ old → part_new ≡ part → CameOfCopy facts answer old new part part_new CopyOutcome.Nothing

-- The same of the page at a place of a list.
abbrev pub CopiedAt : TableFacts → List ℕ → List ℕ → List ℕ → ℕ → Deed
CopiedAt table pins numbers outcomes n answer old new part part_new =
    CameOfCopy (facts_in table pins numbers n) answer old new part part_new (copied_by (slice_index_or outcomes n 0))
