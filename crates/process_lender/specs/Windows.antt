-- The windows of a process, and what a call changes of them.
use Rattle.std.specs.Prelude.{◌≡◌, ℕ, Bool, List, Option, Some, None, slice_index_or, slice_set}
use Rattle.page_looks.specs.declared.parts.part.Part.{Part}
use Rattle.window_pages.specs.declared.counts.PartCounts.{PartCounts}
use Rattle.window_pages.specs.declared.page.WindowPage.{WindowPage}
use Rattle.window_tables.specs.declared.facts.TableFacts.{TableFacts}
use Rattle.process_lender.specs.declared.facts.ProcessFacts.{ProcessFacts}
use Rattle.process_lender.specs.declared.facts.WindowState.{WindowState}

-- A window: its pages, the counts of each part's pages, its parts, how often each page was pinned (nothing where none ever was), and how many pages of
-- its first part lie before it.
-- It had so many seams between mappings when it was offered. Once it has ended its mappings don't count.
pub record Window : Type 0 where
  pub pages : List WindowPage
  pub counts : List PartCounts
  pub parts : List Part
  pub pins : List ℕ
  pub lead : ℕ
  pub seams : ℕ
  pub state : WindowState
  pub has_ended : Bool

-- The windows of a process, by their places, of which some may be free. How many mappings they have taken, and what is so of the process.
pub record Lender : Type 0 where
  pub windows : List (Option Window)
  pub mappings : ℕ
  pub facts : ProcessFacts

-- the window at a place, if there is one
abbrev pub window_at : ℕ → List (Option Window) → Option Window
window_at place windows = slice_index_or windows place None

-- what is so of a window's pages
abbrev pub table_facts : ProcessFacts → WindowState → TableFacts
table_facts facts state = record {
  elsewhere = facts.elsewhere;
  may_pin = facts.may_pin;
  inherited = state.inherited;
  locked = facts.locked;
  ends = state.ends;
  is_over = facts.is_over;
}

-- a window with these pages, and these counts of each part's pages
abbrev pub with_pages : List WindowPage → List PartCounts → Window → Window
with_pages pages counts window = record window { pages = pages; counts = counts }

-- the windows, of which the one at a place is this
abbrev pub with_window : ℕ → Option Window → Lender → Lender
with_window place window lender = record lender { windows = slice_set lender.windows place window }

-- so many mappings
abbrev pub with_mappings : ℕ → Lender → Lender
with_mappings mappings lender = record lender { mappings = mappings }

-- A window has these pages and counts, of which this is said, and all else of it stays.
pub record HasPages (Says : Window → List WindowPage → List PartCounts → Type 0) (old new : Window) : Type 0 where
  pub rest : new ≡ with_pages new.pages new.counts old
  pub says : Says old new.pages new.counts

-- what becomes of the window at a place, if there is one; else there is none, and this is so
abbrev pub AtPlace : (Window → Window → Type 0) → Type 0 → Option Window → Option Window → Type 0
AtPlace Becomes Nothing None None = Nothing
AtPlace Becomes Nothing None (Some new) = ⊥
AtPlace Becomes Nothing (Some old) None = ⊥
AtPlace Becomes Nothing (Some old) (Some new) = Becomes old new

-- The window at a place gets the pages and counts of which this is said, and nothing else changes. Where there is no window, nothing changes at all, and
-- this is returned.
pub record InPages (Says : Window → List WindowPage → List PartCounts → Type 0) (Nothing : Type 0) (place : ℕ) (old new : Lender) : Type 0 where
  pub there : AtPlace (HasPages Says) Nothing (window_at place old.windows) (window_at place new.windows)
  pub others : new ≡ with_window place (window_at place new.windows) old

-- so many mappings stay, and this is so
pub record Stay (Nothing : Type 0) (mappings mappings_new : ℕ) : Type 0 where
  pub nothing : Nothing
  pub same : mappings_new ≡ mappings

-- The window at a place becomes another one, and the number of mappings changes, too. Where there is no window, nothing changes at all, and this is
-- returned.
pub record InWindow (Becomes : ℕ → ℕ → Window → Window → Type 0) (Nothing : Type 0) (place : ℕ) (old new : Lender) : Type 0 where
  pub there : AtPlace (Becomes old.mappings new.mappings) (Stay Nothing old.mappings new.mappings) (window_at place old.windows) (window_at place new.windows)
  pub others : new ≡ with_mappings new.mappings (with_window place (window_at place new.windows) old)

-- This is said of the window at a place. Where there is none, it is this.
abbrev pub Seen : (Window → Type 0) → Type 0 → Option Window → Type 0
Seen Says Nothing None = Nothing
Seen Says Nothing (Some window) = Says window

abbrev pub SeenIn : (Window → Type 0) → Type 0 → ℕ → Lender → Type 0
SeenIn Says Nothing place lender = Seen Says Nothing (window_at place lender.windows)

-- the windows, of which the one at a place, if there is one, becomes this
abbrev pub window_changed : (Window → Window) → ℕ → Option Window → Lender → Lender
window_changed changed place None lender = lender
window_changed changed place (Some window) lender = with_window place (Some (changed window)) lender
