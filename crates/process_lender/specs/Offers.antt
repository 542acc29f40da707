-- Windows that are offered, and that end.
use Rattle.std.specs.Prelude.{ℕ, ◌+◌, ◌-◌, ◌%◌, ◌^◌, Bool, true, false, not, ◌&&◌, nat_lt, if◌then◌else◌, min, List, [], ◌∷◌, ◌++◌, length, replicate, Option, Some, None, is_none, position, slice_set, unwrap_or}
use Rattle.std.specs.Int.{div_ceil}
use Rattle.std.specs.List.{list_any}
use Rattle.std.specs.Option.{option_map_or}
use Rattle.page_looks.specs.declared.parts.part.Part.{Part}
use Rattle.window_pages.specs.Laws.{new_page, no_counts}
use Rattle.window_pages.specs.declared.counts.PartCounts.{PartCounts}
use Rattle.window_tables.specs.Mappings.{mappings_of}
use Rattle.process_lender.specs.Windows.{Lender, Window, window_at, with_mappings, with_window}
use Rattle.process_lender.specs.declared.facts.ProcessFacts.{ProcessFacts}
use Rattle.process_lender.specs.declared.facts.WindowState.{WindowState}

-- at first there is no window
abbrev pub no_windows : ProcessFacts → Lender
no_windows facts = record { windows = []; mappings = 0; facts = facts }

-- a part that is split, of which nothing is known
abbrev pub new_part : Part
new_part = record { whole = false; pause = 0; alone = 0; rest = 0; left = 0; is_still = false; is_huge = false; own = 0 }

-- how many parts so many pages are in, where so many pages of the first part lie before them
abbrev pub parts_in : ℕ → ℕ → ℕ
parts_in lead count = div_ceil (count + lead) 512

-- a window of which nothing is known: how many pages of its first part lie before it follows from the number of its first page in memory
abbrev pub new_window : ℕ → ℕ → ℕ → WindowState → Window
new_window number count seams state = record {
  pages = replicate count new_page;
  counts = replicate (parts_in (number % 512) count) no_counts;
  parts = replicate (parts_in (number % 512) count) new_part;
  pins = [];
  lead = number % 512;
  seams = seams;
  state = state;
  has_ended = false;
}

-- so many more, as far as that is a number of 64 bits
abbrev pub more : ℕ → ℕ → ℕ
more n count = min (2 ^ 64 - 1) (n + count)

-- how many mappings the pages of a window take
abbrev pub its_mappings : Window → ℕ
its_mappings w = mappings_of w.lead w.parts w.pages

-- the first free place, or the number of places
abbrev pub first_free : List (Option Window) → ℕ
first_free windows = unwrap_or (position is_none windows) (length windows)

-- with this window at the first free place, or at a new one
abbrev pub with_first : Window → List (Option Window) → List (Option Window)
with_first w windows = if nat_lt (first_free windows) (length windows) then slice_set windows (first_free windows) (Some w) else windows ++ Some w ∷ []

-- with this window, whose mappings count
abbrev pub offered : Window → Lender → Lender
offered w lender = record {
  windows = with_first w lender.windows;
  mappings = more (more lender.mappings (its_mappings w)) w.seams;
  facts = lender.facts;
}

-- a window that has ended: nothing is lent of it any more
abbrev pub ended : Window → Window
ended w = record w { state = record (w.state) { ends = true }; has_ended = true }

-- there is a window that hasn't ended
abbrev pub is_open : Option Window → Bool
is_open None = false
is_open (Some w) = not w.has_ended

-- The window at a place ends, if it is open. Then its mappings don't count any more.
abbrev pub end_of : ℕ → Option Window → Lender → Lender
end_of place None lender = lender
end_of place (Some w) lender =
    if w.has_ended then lender else with_mappings (lender.mappings - its_mappings w - w.seams) (with_window place (Some (ended w)) lender)

-- a slot of a page of a part is to be released
abbrev pub has_releases : PartCounts → Bool
has_releases part = nat_lt 0 part.releases

-- the window has ended, and no part counts a slot that is to be released
abbrev pub can_leave : Window → Bool
can_leave w = w.has_ended && not (list_any has_releases w.counts)

-- such a window is at the place
abbrev pub can_take_out : ℕ → List (Option Window) → Bool
can_take_out place windows = option_map_or can_leave (window_at place windows) false

-- what is so of the window at a place, if it is open, is this
abbrev pub state_set : ℕ → WindowState → Option Window → Lender → Lender
state_set place state None lender = lender
state_set place state (Some w) lender = if w.has_ended then lender else with_window place (Some (record w { state = state })) lender
