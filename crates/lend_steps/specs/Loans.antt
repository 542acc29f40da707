-- Pages of which a loan was asked for.
use Rattle.std.specs.Prelude.{◌≡◌, ℕ, ◌+◌, ◌*◌, ◌/◌, ◌%◌, ◌^◌, Bool, not, ◌&&◌, nat_eq, nat_lt, if◌then◌else◌, List, slice_index_or}
use Rattle.lend_steps.specs.Lists.{Deed, Told}
use Rattle.lend_steps.specs.declared.loans.LoanReply.{LoanReply}
use Rattle.lend_steps.specs.declared.loans.LoanReply.TheVariants.{Unheard, NoFrame, NoSlot, Given}
use Rattle.page_lender.specs.declared.order.Outcome.TheVariants.{Lent, Refused}
use Rattle.page_looks.specs.Idle.{asked_last}
use Rattle.page_looks.specs.Notes.{Notes, looks_of}
use Rattle.window_pages.specs.Bytes.{digit, known_of, notes_of}
use Rattle.window_pages.specs.Known.{takes}
use Rattle.window_pages.specs.declared.counts.PartCounts.{PartCounts}
use Rattle.window_pages.specs.declared.page.WindowPage.{WindowPage}

-- a number is a slot of a host: its upper half is below 64, and its lower half below 2^26
abbrev pub is_slot : ℕ → Bool
is_slot slot = nat_lt (slot / 2 ^ 32) 64 && nat_lt (slot % 2 ^ 32) (2 ^ 26)

-- the name of a slot in 32 bits
abbrev pub slot_name : ℕ → ℕ
slot_name slot = slot / 2 ^ 32 * 2 ^ 26 + slot % 2 ^ 32

-- what a host said of a page, if it was heard; the greatest number is no frame
abbrev pub reply_of : Bool → ℕ → ℕ → LoanReply
reply_of is_heard slot frame =
    if not is_heard then Unheard
    else (if nat_eq frame 4294967295 then NoFrame else (if is_slot slot then Given (slot_name slot) frame else NoSlot))

-- A page got no loan, and is asked about as seldom as any.
pub record NotLent (old new : WindowPage) (part part_new : PartCounts) : Type 0 where
  pub between : WindowPage
  pub part_between : PartCounts
  pub told : Told Refused old between part part_between
  pub last : Notes (asked_last (looks_of between)) (notes_of between).seen between new part_between part_new

-- The answer to a loan: 1 if it is the page's now; and 8 if its frame is in the host's file, else 4.
abbrev pub loan_answer : Bool → Bool → ℕ
loan_answer is_taken is_in_file = digit is_taken + (if is_in_file then 8 else 4)

-- What a host said of a page is taken, where its file has so many frames.
pub data CameOfLoan (frames answer : ℕ) (old new : WindowPage) (part part_new : PartCounts) : LoanReply → Type 0 where
  is_unheard : Told Refused old new part part_new → answer ≡ 0 → CameOfLoan frames answer old new part part_new Unheard
  is_without_frame : NotLent old new part part_new → answer ≡ 2 → CameOfLoan frames answer old new part part_new NoFrame
  is_without_slot : NotLent old new part part_new → answer ≡ 4 → CameOfLoan frames answer old new part part_new NoSlot
  is_given : (slot frame : ℕ) → Told (Lent slot frame) old new part part_new → answer ≡ loan_answer (takes (Lent slot frame) (known_of old)) (nat_lt frame frames)
      → CameOfLoan frames answer old new part part_new (Given slot frame)

-- The same of the page at a place of a list.
abbrev pub LoanedAt : Bool → List ℕ → List ℕ → ℕ → ℕ → Deed
LoanedAt is_heard slots given frames n answer old new part part_new =
    CameOfLoan frames answer old new part part_new (reply_of is_heard (slice_index_or slots n 0) (slice_index_or given n 0))
