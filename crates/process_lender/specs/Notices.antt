-- What is noted of pages in a row.
use Rattle.std.specs.Prelude.{◌≡◌, ℕ, ◌+◌, Bool, true, false, not, ◌&&◌, ◌||◌, if◌then◌else◌, List}
use Rattle.page_lender.specs.declared.order.Outcome.TheVariants.{Refused}
use Rattle.window_pages.specs.declared.counts.PartCounts.{PartCounts}
use Rattle.window_pages.specs.declared.page.WindowPage.{WindowPage}
use Rattle.window_tables.specs.Facts.{facts_at}
use Rattle.window_tables.specs.Homes.{Changes, HasMoved, IsCalled, IsCopied, IsHome, OneMemory}
use Rattle.window_tables.specs.Mappings.{kept_then, mappings_at}
use Rattle.window_tables.specs.Rooms.{are_alone}
use Rattle.window_tables.specs.Tables.{Counted, Notes, can_note}
use Rattle.window_tables.specs.declared.changes.Change.TheVariants as Change
use Rattle.process_lender.specs.Windows.{HasPages, Window, table_facts}
use Rattle.process_lender.specs.declared.facts.ProcessFacts.{ProcessFacts}
use Rattle.process_lender.specs.declared.notice.Notice.{Notice}

-- Memory with what so many pages contained was moved to their places at once, exactly if they are there and each page of the table has a part. Else
-- nothing changes.
pub record BecomeOne (lead first count : ℕ) (is_noted : Bool) (old new : List WindowPage) (parts parts_new : List PartCounts) : Type 0 where
  pub noted : is_noted ≡ can_note lead first count old parts
  pub pages : is_noted ≡ true → OneMemory first count old new
  pub counted : Counted lead old parts → Counted lead new parts_new
  pub same : is_noted ≡ false → new ≡ old
  pub same_parts : is_noted ≡ false → parts_new ≡ parts

-- These pages and counts a window has once this is noted of so many pages from one on.
abbrev pub Becomes : Notice → ProcessFacts → ℕ → ℕ → Bool → Window → List WindowPage → List PartCounts → Type 0
Becomes (Notice.Covered frame) facts first count is w pages counts = Notes (Change.Covered frame) w.lead first count is w.pages pages w.counts counts
Becomes Notice.Uncovered facts first count is w pages counts = Notes (Change.Uncovered false) w.lead first count is w.pages pages w.counts counts
Becomes Notice.MovedThere facts first count is w pages counts = Notes (Change.Uncovered true) w.lead first count is w.pages pages w.counts counts
Becomes (Notice.ZerosMapped is_said) facts first count is w pages counts =
    Notes (Change.Uncovered (are_alone w.lead w.parts w.pages first count || not is_said)) w.lead first count is w.pages pages w.counts counts
Becomes Notice.Unmapped facts first count is w pages counts = Notes Change.Unmapped w.lead first count is w.pages pages w.counts counts
Becomes Notice.Detached facts first count is w pages counts = Notes Change.Detached w.lead first count is w.pages pages w.counts counts
Becomes Notice.OneMemory facts first count is w pages counts = BecomeOne w.lead first count is w.pages pages w.counts counts
Becomes Notice.GivenUp facts first count is w pages counts = Notes Change.GivenUp w.lead first count is w.pages pages w.counts counts
Becomes Notice.Left facts first count is w pages counts = Notes Change.Left w.lead first count is w.pages pages w.counts counts
Becomes Notice.MovedHome facts first count is w pages counts = Changes (λ n. HasMoved) w.lead first count is w.pages pages w.counts counts
Becomes Notice.CopiedHome facts first count is w pages counts = Changes (λ n. IsCopied) w.lead first count is w.pages pages w.counts counts
Becomes Notice.RefusedHome facts first count is w pages counts = Changes (λ n. IsHome Refused) w.lead first count is w.pages pages w.counts counts
Becomes (Notice.CalledHome why) facts first count is w pages counts =
    Changes (λ n. IsCalled (facts_at (table_facts facts w.state) w.pins why (first + n))) w.lead first count is w.pages pages w.counts counts

-- other mappings may be at their places since
abbrev pub maps : Notice → Bool
maps (Notice.Covered frame) = true
maps Notice.Uncovered = true
maps Notice.MovedThere = true
maps (Notice.ZerosMapped is_said) = true
maps Notice.Unmapped = true
maps Notice.Detached = true
maps Notice.OneMemory = true
maps Notice.GivenUp = false
maps Notice.Left = false
maps Notice.MovedHome = false
maps Notice.CopiedHome = false
maps Notice.RefusedHome = false
maps (Notice.CalledHome why) = false

-- how many mappings there are then: a window that has ended has none that count
abbrev pub mappings_then : Notice → ℕ → ℕ → Bool → Window → List WindowPage → ℕ → ℕ
mappings_then notice first count is w pages mappings =
    if maps notice && (is && not w.has_ended) then kept_then mappings (mappings_at w.lead w.parts w.pages first count) (mappings_at w.lead w.parts pages first count)
    else mappings

-- This was noted of so many pages of a window.
pub record IsNoted (notice : Notice) (facts : ProcessFacts) (first count : ℕ) (is : Bool) (mappings mappings_new : ℕ) (w : Window) (pages : List WindowPage) (counts : List PartCounts) : Type 0 where
  pub becomes : Becomes notice facts first count is w pages counts
  pub kept : mappings_new ≡ mappings_then notice first count is w pages mappings

-- A window gets its pages and counts by what was noted.
abbrev pub TakesNote : Notice → ProcessFacts → ℕ → ℕ → Bool → ℕ → ℕ → Window → Window → Type 0
TakesNote notice facts first count is mappings mappings_new old new = HasPages (IsNoted notice facts first count is mappings mappings_new) old new
