-- What is noted of one page of a window, and how pages are read.
use Rattle.std.specs.Prelude.{◌≡◌, ℕ, Bool, true, false, List, length, take, drop}
use Rattle.page_holds.specs.Rows.{PageChanges}
use Rattle.page_looks.specs.Idle.{due, held}
use Rattle.page_looks.specs.Notes.{Notes, looks_of}
use Rattle.window_pages.specs.Bytes.{known_of, notes_of}
use Rattle.window_pages.specs.Changed as change
use Rattle.window_pages.specs.Changed.{given_back}
use Rattle.window_pages.specs.declared.counts.PartCounts.{PartCounts}
use Rattle.window_pages.specs.declared.page.WindowPage.{WindowPage}
use Rattle.window_tables.specs.Ranges.{has_pages}
use Rattle.window_tables.specs.Tables.{Counted, can_note}
use Rattle.process_lender.specs.Windows.{Window}
use Rattle.process_lender.specs.declared.page_notice.PageNotice.{PageNotice}
use Rattle.process_lender.specs.declared.page_notice.PageNotice.TheVariants.{AskedAtOnce, Held, GivenBack}

-- This page, and these counts of its part, there are once this is noted of it.
abbrev pub PageIsNoted : PageNotice → WindowPage → WindowPage → PartCounts → PartCounts → Type 0
PageIsNoted AskedAtOnce old new part part_new = Notes (due (looks_of old)) false old new part part_new
PageIsNoted (Held was_held) old new part part_new = Notes (held (looks_of old) was_held) (notes_of old).seen old new part part_new
PageIsNoted (GivenBack is_zeros) old new part part_new = change.Becomes (given_back is_zeros (known_of old)) false old new part part_new

-- This is noted of the page at a place, exactly if it is there and each page of the table has a part. Else nothing changes. The counts of the parts stay
-- right.
pub record NotedAt (notice : PageNotice) (lead place : ℕ) (is_noted : Bool) (old new : List WindowPage) (parts parts_new : List PartCounts) : Type 0 where
  pub noted : is_noted ≡ can_note lead place 1 old parts
  pub page : is_noted ≡ true → PageChanges (λ x y p q. PageIsNoted notice x y p q) lead place old new parts parts_new
  pub counted : Counted lead old parts → Counted lead new parts_new
  pub same : is_noted ≡ false → new ≡ old
  pub same_parts : is_noted ≡ false → parts_new ≡ parts

-- The same of a window.
abbrev pub NotesPage : PageNotice → ℕ → Bool → Window → List WindowPage → List PartCounts → Type 0
NotesPage notice place is w pages counts = NotedAt notice w.lead place is w.pages pages w.counts counts

-- Of all pages those in a row from one place on are read, as many as these, exactly if they are all there. Else these stay.
pub record ReadsPages (first : ℕ) (is_read : Bool) (pages pages_new all : List WindowPage) : Type 0 where
  pub there : is_read ≡ has_pages first (length pages) all
  pub read : is_read ≡ true → pages_new ≡ take (length pages) (drop first all)
  pub same : is_read ≡ false → pages_new ≡ pages

-- none is read
pub record NoneRead (is_read : Bool) (pages pages_new : List WindowPage) : Type 0 where
  pub none : is_read ≡ false
  pub all_same : pages_new ≡ pages
