-- Room for zeros in place of pages in a row.
use Rattle.std.specs.Prelude.{ℕ, zero, suc, ◌+◌, ◌-◌, Bool, false, not, ◌&&◌, ◌||◌, nat_lt, List, length, slice_get}
use Rattle.std.specs.Option.{option_map_or}
use Rattle.window_pages.specs.Bytes.{digit, known_of}
use Rattle.window_pages.specs.Runs.{same}
use Rattle.window_pages.specs.declared.page.WindowPage.{WindowPage}
use Rattle.window_tables.specs.Mappings.{is_whole, mappings_at}
use Rattle.page_looks.specs.declared.parts.part.Part.{Part}

-- the page has memory of the window's own
abbrev pub is_own : WindowPage → Bool
is_own page = not (known_of page).over && not (known_of page).out

-- the system may join zeros with a page at a place, if there is one: it has memory of the window's own, in a part that is whole, or not, as theirs is
abbrev pub may_join : ℕ → List Part → Bool → List WindowPage → ℕ → Bool
may_join lead parts whole pages place = option_map_or (λ page. is_own page && same (is_whole lead parts place) whole) (slice_get pages place) false

-- it joins them: besides, the page's memory wasn't moved there
abbrev pub joins : ℕ → List Part → Bool → List WindowPage → ℕ → Bool
joins lead parts whole pages place = option_map_or (λ page. (is_own page && same (is_whole lead parts place) whole) && not (known_of page).moved) (slice_get pages place) false

-- this is so of the place before another, if there is one
abbrev pub before : (ℕ → Bool) → ℕ → Bool
before is zero = false
before is (suc place) = is place

-- zeros that are put in the place of so many pages will be a mapping by themselves: the system can join them with nothing beside them
abbrev pub are_alone : ℕ → List Part → List WindowPage → ℕ → ℕ → Bool
are_alone lead parts pages first count =
    not (before (may_join lead parts (is_whole lead parts first) pages) first) && not (may_join lead parts (is_whole lead parts first) pages (first + count))

-- how many mappings begin at them then, or at the page behind them
abbrev pub zeros_at : ℕ → List Part → List WindowPage → ℕ → ℕ → ℕ
zeros_at lead parts pages first count =
    digit (not (before (joins lead parts (is_whole lead parts first) pages) first))
    + digit (nat_lt (first + count) (length pages) && not (joins lead parts (is_whole lead parts first) pages (first + count)))

-- how many more mappings that makes
abbrev pub zeros_more : ℕ → List Part → List WindowPage → ℕ → ℕ → ℕ
zeros_more lead parts pages first count = zeros_at lead parts pages first count - mappings_at lead parts pages first count

-- a frame lies under the page at a place
abbrev pub lies_over : List WindowPage → ℕ → Bool
lies_over pages place = option_map_or (λ page. (known_of page).over) (slice_get pages place) false

-- Zeros are to be mapped in place of so many alike pages that are given up: frames lie under them, or they are in more mappings than one, and nobody
-- else watches them.
abbrev pub wants_zeros : ℕ → List Part → List WindowPage → ℕ → ℕ → Bool → Bool
wants_zeros lead parts pages first count is_watched = lies_over pages first || (not is_watched && nat_lt 2 (mappings_at lead parts pages first count))
