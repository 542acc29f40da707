-- How many mappings of the system a window's pages take.
use Rattle.std.specs.Prelude.{◌≡◌, ℕ, zero, suc, ◌+◌, ◌-◌, ◌%◌, ◌^◌, ◌≤◌, min, Bool, false, true, not, ◌&&◌, ◌||◌, ◌==◌, nat_lt, List, length, Option, None, Some, slice_get, slice_set}
use Rattle.std.specs.Option.{option_map, option_map_or}
use Rattle.window_pages.specs.Bytes.{digit, known_of, notes_of}
use Rattle.window_pages.specs.Runs.{same}
use Rattle.window_pages.specs.declared.page.WindowPage.{WindowPage}
use Rattle.window_tables.specs.Ranges.{has_pages}
use Rattle.window_tables.specs.Tables.{part_at}
use Rattle.page_looks.specs.declared.parts.part.Part.{Part}

-- What is mapped at a page's place, as far as is known: a frame, whose lender may be gone, or memory of its own, which may have been moved there. And
-- whether the page's part is whole.
pub record Mapped : Type 0 where
  pub over : Bool
  pub past : Bool
  pub clue : ℕ
  pub moved : Bool
  pub begins : Bool
  pub whole : Bool

abbrev pub mapped_as : Bool → WindowPage → Mapped
mapped_as whole page = record {
  over = (known_of page).over;
  past = (known_of page).past;
  clue = (notes_of page).clue;
  moved = (known_of page).moved;
  begins = (known_of page).begins;
  whole = whole;
}

-- frames with these clues are in a row, or far apart
abbrev pub are_in_a_row : ℕ → ℕ → Bool
are_in_a_row clue next = (clue + 1) % 32768 == next

-- frames in a row are mapped there, both of a lender that is gone, or neither
abbrev pub are_frames_on : Mapped → Mapped → Bool
are_frames_on x y = x.over && y.over && same x.past y.past && are_in_a_row x.clue y.clue

-- memory of their own is there, moved all at once, or not moved, in parts that are both whole or both split
abbrev pub are_memory_on : Mapped → Mapped → Bool
are_memory_on x y = not x.over && not y.over && same x.moved y.moved && not y.begins && same x.whole y.whole

-- one mapping can hold a page and the one behind it
abbrev pub is_one : Mapped → Mapped → Bool
is_one x y = are_frames_on x y || are_memory_on x y

-- the part of a page is whole; one that isn't there isn't
abbrev pub is_whole : ℕ → List Part → ℕ → Bool
is_whole lead parts place = option_map_or (λ part. part.whole) (slice_get parts (part_at lead place)) false

-- what is mapped at a place of a table, if there is a page
abbrev pub mapped_at : ℕ → List Part → List WindowPage → ℕ → Option Mapped
mapped_at lead parts pages place = option_map (mapped_as (is_whole lead parts place)) (slice_get pages place)

-- and at the place before it, if there is one
abbrev pub mapped_before : ℕ → List Part → List WindowPage → ℕ → Option Mapped
mapped_before lead parts pages zero = None
mapped_before lead parts pages (suc place) = mapped_at lead parts pages place

-- a mapping begins at a page: there is none before it, or one mapping can't hold both
abbrev pub begins_after : Option Mapped → Mapped → Bool
begins_after None y = true
begins_after (Some x) y = not (is_one x y)

-- a mapping begins at a place
abbrev pub begins_at : ℕ → List Part → List WindowPage → ℕ → Bool
begins_at lead parts pages place = option_map_or (begins_after (mapped_before lead parts pages place)) (mapped_at lead parts pages place) false

-- the sum of so many numbers from one on
abbrev pub sum_from : (ℕ → ℕ) → ℕ → ℕ → ℕ
sum_from f first zero = 0
sum_from f first (suc n) = sum_from f first n + f (first + n)

-- how many mappings begin at so many places from one on
abbrev pub mappings_from : ℕ → List Part → List WindowPage → ℕ → ℕ → ℕ
mappings_from lead parts pages first n = sum_from (λ place. digit (begins_at lead parts pages place)) first n

-- how many begin at so many pages from one place on, or at the page behind them
abbrev pub mappings_at : ℕ → List Part → List WindowPage → ℕ → ℕ → ℕ
mappings_at lead parts pages first count = mappings_from lead parts pages first (count + 1)

-- how many a whole table has
abbrev pub mappings_of : ℕ → List Part → List WindowPage → ℕ
mappings_of lead parts pages = mappings_from lead parts pages 0 (length pages)

-- how many more may begin there, whatever becomes of these pages: one at each of them, and at the page behind them
abbrev pub mappings_more : ℕ → List Part → List WindowPage → ℕ → ℕ → ℕ
mappings_more lead parts pages first count = min (count + 1) (length pages - first) - mappings_at lead parts pages first count

-- the same, whether or not it begins what was moved
abbrev pub unmarked : Mapped → Mapped
unmarked x = record x { begins = false }

-- What is mapped outside a range stays. Only the page behind the range may begin, or not, what was moved.
pub record StaysOutside (lead first count : ℕ) (parts parts_new : List Part) (old new : List WindowPage) : Type 0 where
  pub length : length new ≡ length old
  pub before : (i : ℕ) → suc i ≤ first → mapped_at lead parts_new new i ≡ mapped_at lead parts old i
  pub behind : option_map unmarked (mapped_at lead parts_new new (first + count)) ≡ option_map unmarked (mapped_at lead parts old (first + count))
  pub beyond : (i : ℕ) → suc (first + count) ≤ i → mapped_at lead parts_new new i ≡ mapped_at lead parts old i

-- a number of mappings that is kept, once there are others of some pages than before
abbrev pub kept_then : ℕ → ℕ → ℕ → ℕ
kept_then n before after = min (2 ^ 64 - 1) (n - before + after)

-- so many pages from one on are a whole part of the table
abbrev pub is_part : ℕ → ℕ → List WindowPage → List Part → Bool
is_part lead first pages parts = has_pages first 512 pages && (nat_lt lead 512 && (((first + lead) % 512 == 0) && nat_lt (part_at lead first) (length parts)))

-- One part is whole from now on, or split.
pub record IsSet (is_whole : Bool) (lead first : ℕ) (parts parts_new : List Part) : Type 0 where
  pub part : Part
  pub there : slice_get parts (part_at lead first) ≡ Some part
  pub set : parts_new ≡ slice_set parts (part_at lead first) (record part { whole = is_whole })
