-- Tables of pages, and of the counts of their parts.
use Rattle.std.specs.Prelude.{◌≡◌, ℕ, ◌+◌, ◌-◌, ◌*◌, ◌/◌, ◌<◌, ◌≤◌, Bool, true, false, ◌&&◌, nat_le, nat_lt, List, length, Some, slice_get, slice_set, take, drop}
use Rattle.window_pages.specs.Counted.{counts_then}
use Rattle.window_pages.specs.Laws.{Counts}
use Rattle.window_pages.specs.declared.counts.PartCounts.{PartCounts}
use Rattle.window_pages.specs.declared.page.WindowPage.{WindowPage}
use Rattle.window_tables.specs.Changes.{Changed, IsNow, NowBegins, RangeChanged}
use Rattle.window_tables.specs.Ranges.{has_pages}
use Rattle.window_tables.specs.declared.changes.Change.{Change}

-- each page has a part, where `lead` pages of the first part lie before the table
abbrev pub has_parts : ℕ → List WindowPage → List PartCounts → Bool
has_parts lead pages parts = nat_lt lead 512 && nat_le (length pages + lead) (512 * length parts)

-- what becomes of so many pages from one place on can be noted
abbrev pub can_note : ℕ → ℕ → ℕ → List WindowPage → List PartCounts → Bool
can_note lead first count pages parts = has_pages first count pages && has_parts lead pages parts

-- the part that a page belongs to
abbrev pub part_at : ℕ → ℕ → ℕ
part_at lead page = (page + lead) / 512

-- the pages of a part
abbrev pub pages_of : ℕ → ℕ → List WindowPage → List WindowPage
pages_of lead part pages = drop (512 * part - lead) (take (512 * (part + 1) - lead) pages)

-- Each page has a part, and the counts of each part are right of its pages.
pub record Counted (lead : ℕ) (pages : List WindowPage) (parts : List PartCounts) : Type 0 where
  pub leads : lead < 512
  pub fits : length pages + lead ≤ 512 * length parts
  pub right : (k : ℕ) (part : PartCounts) → slice_get parts k ≡ Some part → Counts part (pages_of lead k pages)

-- One page becomes what this says, and the counts of its part follow. Nothing else changes.
pub record OneChanges (Becomes : WindowPage → WindowPage → Type 0) (lead place : ℕ) (old new : List WindowPage) (parts parts_new : List PartCounts) : Type 0 where
  pub before : WindowPage
  pub after : WindowPage
  pub part : PartCounts
  pub is_there : slice_get old place ≡ Some before
  pub is_part : slice_get parts (part_at lead place) ≡ Some part
  pub changed : new ≡ slice_set old place after
  pub follows : parts_new ≡ slice_set parts (part_at lead place) (counts_then before after part)
  pub becomes : Becomes before after

-- Each of so many pages from one place on becomes what this says, and the counts of their parts follow.
pub record EachChanges (what : Change) (lead first count : ℕ) (old new : List WindowPage) (parts parts_new : List PartCounts) : Type 0 where
  pub pages : Changed (IsNow what) first count old new
  pub counted : Counted lead old parts → Counted lead new parts_new

-- The page at a place, if it is there, begins what was moved, if it was moved.
pub record BeginsAt (place : ℕ) (old new : List WindowPage) : Type 0 where
  pub after : WindowPage
  pub changed : new ≡ slice_set old place after
  pub becomes : (x : WindowPage) → slice_get old place ≡ Some x → NowBegins x after

-- What becomes of so many pages from one place on was noted, exactly if they are there and each page of the table has a part. Else nothing changes.
pub record Notes (what : Change) (lead first count : ℕ) (is_noted : Bool) (old new : List WindowPage) (parts parts_new : List PartCounts) : Type 0 where
  pub noted : is_noted ≡ can_note lead first count old parts
  pub pages : is_noted ≡ true → RangeChanged what first count old new
  pub counted : Counted lead old parts → Counted lead new parts_new
  pub same : is_noted ≡ false → new ≡ old
  pub same_parts : is_noted ≡ false → parts_new ≡ parts
