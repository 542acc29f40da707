-- What becomes of pages that are held in a row, and of their bytes.
use Rattle.std.specs.Prelude.{◌≡◌, ℕ, ◌+◌, ◌<◌, ◌≤◌, Bool, true, false, not, ◌&&◌, nat_eq, nat_le, nat_lt, List, length, Option, Some, slice_get, slice_index_or, slice_set, ◌⊎◌}
use Rattle.page_holds.specs.Steps.{Took, asks_for, outcome_for, place_of}
use Rattle.page_holds.specs.declared.place.Taking.{Taking}
use Rattle.page_lender.specs.Decisions.{waiting}
use Rattle.page_lender.specs.declared.belief.Belief.{Belief}
use Rattle.page_lender.specs.declared.order.Outcome.{Outcome}
use Rattle.page_lender.specs.Calls.{IsOrdered, order_due}
use Rattle.window_pages.specs.Bytes.{belief_of, known_of}
use Rattle.window_pages.specs.Changed.{Lends}
use Rattle.window_pages.specs.Known.{bars_of, lender_of}
use Rattle.window_pages.specs.declared.counts.PartCounts.{PartCounts}
use Rattle.window_pages.specs.declared.facts.WindowFacts.{WindowFacts}
use Rattle.window_pages.specs.declared.page.WindowPage.{WindowPage}
use Rattle.window_tables.specs.Tables.{Counted, can_note, part_at}
use Rattle.page_holds.specs.Bytes.{byte_of, byte_then, is_stuck, step_by, taking_by}

-- ---- one page ----

-- One page of a table and the counts of its part become what this says. Nothing else changes.
pub record PageChanges (Becomes : WindowPage → WindowPage → PartCounts → PartCounts → Type 0) (lead place : ℕ) (old new : List WindowPage) (parts parts_new : List PartCounts) : Type 0 where
  pub before : WindowPage
  pub after : WindowPage
  pub part : PartCounts
  pub part_after : PartCounts
  pub is_there : slice_get old place ≡ Some before
  pub is_part : slice_get parts (part_at lead place) ≡ Some part
  pub changed : new ≡ slice_set old place after
  pub follows : parts_new ≡ slice_set parts (part_at lead place) part_after
  pub becomes : Becomes before after part part_after

-- The page's lender takes this outcome, by what was believed before.
abbrev pub Hears : (Belief → Option Outcome) → WindowPage → WindowPage → PartCounts → PartCounts → Type 0
Hears outcome old new part part_new = Took (outcome (belief_of old)) old new part part_new

-- writes to a page may wait of which this is believed, and it isn't stuck
abbrev pub is_asked : ℕ → Belief → Bool
is_asked byte belief = not (is_stuck byte) && waiting belief

-- If writes to a page may wait, and it isn't stuck, its lender gives its next order by these facts. Else nothing changes.
pub record Asks (facts : WindowFacts) (byte : ℕ) (old new : WindowPage) (part part_new : PartCounts) : Type 0 where
  pub order : is_asked byte (belief_of old) ≡ true → Lends (IsOrdered (order_due (lender_of facts (known_of old)))) (bars_of facts (known_of old)) old new part part_new
  pub page : is_asked byte (belief_of old) ≡ false → new ≡ old
  pub counts : is_asked byte (belief_of old) ≡ false → part_new ≡ part

-- The page becomes what this says, whatever the counts of its part are.
pub record PageBecomes (Becomes : WindowPage → WindowPage → PartCounts → PartCounts → Type 0) (old new : WindowPage) : Type 0 where
  pub part : PartCounts
  pub part_after : PartCounts
  pub becomes : Becomes old new part part_after

-- ---- a row ----

-- Pages of a row from its place `begin` on, and their bytes, each become what this says. The row's first page is the table's page `first`. No other
-- page and no other byte changes.
pub record RowChanges (Becomes : ℕ → ℕ → ℕ → WindowPage → WindowPage → Type 0) (first begin count : ℕ) (old new : List WindowPage) (row row_new : List ℕ) : Type 0 where
  pub bytes : length row_new ≡ length row
  pub length : length new ≡ length old
  pub inside : (n b c : ℕ) (x y : WindowPage) → n < count → slice_get row (begin + n) ≡ Some b → slice_get row_new (begin + n) ≡ Some c
      → slice_get old (first + (begin + n)) ≡ Some x → slice_get new (first + (begin + n)) ≡ Some y → Becomes n b c x y
  pub outside : (i : ℕ) → (i < first + begin) ⊎ (first + (begin + count) ≤ i) → slice_get new i ≡ slice_get old i
  pub other : (i : ℕ) → (i < begin) ⊎ (begin + count ≤ i) → slice_get row_new i ≡ slice_get row i

-- what came of the attempt to hold a page of a row
abbrev pub taking_at : List ℕ → ℕ → Taking
taking_at takings n = taking_by (slice_index_or takings n 0)

-- What came of the attempt to hold it is taken. Its byte says where its memory is, and that it isn't stuck.
pub record IsBegun (takings : List ℕ) (n byte byte_new : ℕ) (old new : WindowPage) : Type 0 where
  pub written : byte_new ≡ byte_of (place_of (taking_at takings n)) false
  pub page : PageBecomes (Hears (λ belief. asks_for belief (taking_at takings n))) old new

-- Its next step was done with so many of these pages, and was refused with the others. Nothing becomes of one that is stuck.
pub record CameOut (done n byte byte_new : ℕ) (old new : WindowPage) : Type 0 where
  pub written : byte_new ≡ byte_then (belief_of old) byte (nat_lt n done)
  pub page : PageBecomes (Hears (λ belief. outcome_for (step_by belief byte) belief (nat_lt n done))) old new

-- A row begins, exactly if its pages are there, each page of the table has a part, and something came of each attempt. Else nothing changes.
pub record RowBegins (lead first : ℕ) (takings : List ℕ) (is_begun : Bool) (old new : List WindowPage) (parts parts_new : List PartCounts) (row row_new : List ℕ) : Type 0 where
  pub begun : is_begun ≡ (can_note lead first (length row) old parts && nat_eq (length takings) (length row))
  pub pages : is_begun ≡ true → RowChanges (IsBegun takings) first 0 (length row) old new row row_new
  pub counted : Counted lead old parts → Counted lead new parts_new
  pub same : is_begun ≡ false → new ≡ old
  pub same_parts : is_begun ≡ false → parts_new ≡ parts
  pub same_row : is_begun ≡ false → row_new ≡ row

-- What came of a run's step is taken, exactly if the run is in the row, the row's pages are there, and each page of the table has a part. Else nothing
-- changes.
pub record RowCameOut (lead first begin done refused : ℕ) (is_taken : Bool) (old new : List WindowPage) (parts parts_new : List PartCounts) (row row_new : List ℕ) : Type 0 where
  pub taken : is_taken ≡ (can_note lead first (length row) old parts && nat_le (begin + done + refused) (length row))
  pub pages : is_taken ≡ true → RowChanges (CameOut done) first begin (done + refused) old new row row_new
  pub counted : Counted lead old parts → Counted lead new parts_new
  pub same : is_taken ≡ false → new ≡ old
  pub same_parts : is_taken ≡ false → parts_new ≡ parts
  pub same_row : is_taken ≡ false → row_new ≡ row
