-- Ranges of a window's pages.
use Rattle.std.specs.Prelude.{◌≡◌, ℕ, zero, suc, ◌+◌, ◌<◌, Bool, true, ◌&&◌, nat_le, List, length, Some, slice_get}
use Rattle.std.specs.Option.{option_map_or}
use Rattle.page_lender.specs.Decisions.{is_movable, may_go_on}
use Rattle.window_pages.specs.Bytes.{known_of}
use Rattle.window_pages.specs.Known.{lender_of}
use Rattle.window_pages.specs.declared.facts.WindowFacts.{WindowFacts}
use Rattle.window_pages.specs.declared.page.WindowPage.{WindowPage}
use Rattle.window_tables.specs.declared.ask.Question.{Question}
use Rattle.window_tables.specs.declared.ask.Question.TheVariants.{GoesOn, Moves}

-- so many pages from one place on are there
abbrev pub has_pages : ℕ → ℕ → List WindowPage → Bool
has_pages first count pages = nat_le (first + count) (length pages)

-- a call of the monitor may go on by a page of which this is so
abbrev pub goes_on : WindowFacts → WindowPage → Bool
goes_on facts page = may_go_on (lender_of facts (known_of page))

-- the memory of a page of which this is so may be exchanged for other memory
abbrev pub moves : WindowFacts → WindowPage → Bool
moves facts page = is_movable (lender_of facts (known_of page))

-- the answer to a question about it
abbrev pub is_yes : Question → WindowFacts → WindowPage → Bool
is_yes GoesOn facts page = goes_on facts page
is_yes Moves facts page = moves facts page

-- this is so of each of them, where it may depend on the place
abbrev pub all_at : (ℕ → WindowPage → Bool) → ℕ → ℕ → List WindowPage → Bool
all_at is first zero pages = true
all_at is first (suc n) pages = all_at is first n pages && option_map_or (is (first + n)) (slice_get pages (first + n)) true

-- This is so of each of them.
pub record Each (Is : ℕ → WindowPage → Type 0) (first count : ℕ) (pages : List WindowPage) : Type 0 where
  pub at : (n : ℕ) (x : WindowPage) → n < count → slice_get pages (first + n) ≡ Some x → Is (first + n) x
