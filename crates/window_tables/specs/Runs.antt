-- Runs of pages of one kind.
use Rattle.std.specs.Prelude.{◌≡◌, ℕ, ◌+◌, ◌<◌, ◌≤◌, Bool, true, false, not, ◌&&◌, ◌==◌, List, take, drop, Option, None, Some, option_map, slice_get, if◌then◌else◌}
use Rattle.std.specs.List.{prefix_len}
use Rattle.page_lender.specs.Decisions.{is_private}
use Rattle.page_looks.specs.Idle.{is_again}
use Rattle.page_looks.specs.Notes.{looks_of}
use Rattle.window_pages.specs.Bytes.{bit, known_of}
use Rattle.window_pages.specs.declared.page.WindowPage.{WindowPage}
use Rattle.window_tables.specs.Homes.{comes_home}
use Rattle.window_tables.specs.declared.runs.PageKind.{PageKind}
use Rattle.window_tables.specs.declared.runs.PageKind.TheVariants.{Own, InFrames, Left, Gone, Coming, LeftOver}
use Rattle.window_tables.specs.declared.runs.PageRun.{PageRun}

-- the number of a kind, which is one bit
abbrev pub kind_number : PageKind → ℕ
kind_number Own = 1
kind_number InFrames = 2
kind_number Left = 4
kind_number Gone = 8
kind_number Coming = 16
kind_number LeftOver = 32

-- the kind of a page's place, by whether a frame lies under it, and whether it has left the window
abbrev pub place_of : Bool → Bool → PageKind
place_of false false = Own
place_of true false = InFrames
place_of true true = Left
place_of false true = Gone

-- The page is its window's and has a copy of its own over a frame, which isn't that of a lender that is gone. It was asked about in vain most often.
abbrev pub is_left_over : WindowPage → Bool
is_left_over page =
    (known_of page).over && not (known_of page).out && not (known_of page).same && is_private (known_of page).belief && is_again (looks_of page)

-- a sum of kinds has this one
abbrev pub has : ℕ → PageKind → Bool
has kinds kind = bit kinds (kind_number kind)

-- the number of this kind if it is one of those that are looked for, and else 0
abbrev pub if_looked_for : ℕ → PageKind → ℕ
if_looked_for kinds kind = if has kinds kind then kind_number kind else 0

-- As which of the kinds that are looked for a page counts: as one that is left over or comes home, if that is looked for; else as one of its place. As
-- none of them by 0.
abbrev pub counts_as : ℕ → WindowPage → ℕ
counts_as kinds page =
    if has kinds LeftOver && is_left_over page then kind_number LeftOver
    else (if has kinds Coming && comes_home page then kind_number Coming else if_looked_for kinds (place_of (known_of page).over (known_of page).out))

-- the page counts as this kind
abbrev pub is_kind : ℕ → ℕ → WindowPage → Bool
is_kind kinds kind page = counts_as kinds page == kind

-- how many of these pages come before one that doesn't
abbrev pub run_of : ℕ → ℕ → List WindowPage → ℕ
run_of kinds kind pages = prefix_len (is_kind kinds kind) pages

-- the run with which these pages begin, if there are any
abbrev pub run_from : ℕ → ℕ → List WindowPage → Option PageRun
run_from kinds place pages = option_map (λ page. record { first = place; count = run_of kinds (counts_as kinds page) pages; kind = counts_as kinds page }) (slice_get pages 0)

-- the first run of these pages, of which the first is at this place: those before it are of no kind that is looked for
abbrev pub first_run : ℕ → ℕ → List WindowPage → Option PageRun
first_run kinds place pages = run_from kinds (place + run_of kinds 0 pages) (drop (run_of kinds 0 pages) pages)

-- the pages from one on and before another
abbrev pub between : ℕ → ℕ → List WindowPage → List WindowPage
between first end pages = drop first (take end pages)

-- the first run between two pages
abbrev pub next_run : ℕ → ℕ → ℕ → List WindowPage → Option PageRun
next_run kinds first end pages = first_run kinds first (between first end pages)

-- ---- what such a run is ----

-- The run lies between two pages. No page before it counts as a kind that is looked for, each page of it counts as its kind, and the page behind it, if
-- there is one before the end, doesn't.
pub record IsNextRun (kinds first end : ℕ) (pages : List WindowPage) (run : PageRun) : Type 0 where
  pub begins : first ≤ run.first
  pub ends : run.first + run.count ≤ end
  pub some : 0 < run.count
  pub looked_for : run.kind ≡ 0 → ⊥
  pub before : (i : ℕ) (x : WindowPage) → first ≤ i → i < run.first → slice_get pages i ≡ Some x → counts_as kinds x ≡ 0
  pub each : (i : ℕ) (x : WindowPage) → run.first ≤ i → i < run.first + run.count → slice_get pages i ≡ Some x → counts_as kinds x ≡ run.kind
  pub behind : (x : WindowPage) → run.first + run.count < end → slice_get pages (run.first + run.count) ≡ Some x → counts_as kinds x ≡ run.kind → ⊥

abbrev pub EachRunIsNext : Type 0
EachRunIsNext = (kinds first end : ℕ) (pages : List WindowPage) (run : PageRun) → next_run kinds first end pages ≡ Some run → IsNextRun kinds first end pages run

-- where there is none, no page between them counts as a kind that is looked for
abbrev pub NoRunIsMissed : Type 0
NoRunIsMissed =
    (kinds first end : ℕ) (pages : List WindowPage) → next_run kinds first end pages ≡ None →
    (i : ℕ) (x : WindowPage) → first ≤ i → i < end → slice_get pages i ≡ Some x → counts_as kinds x ≡ 0
