-- What becomes of pages in a row.
use Rattle.std.specs.Prelude.{◌≡◌, ℕ, ◌+◌, ◌*◌, ◌/◌, ◌%◌, ◌<◌, ◌≤◌, Bool, true, false, ◌&&◌, nat_eq, nat_lt, List, length, Some, slice_get, ◌⊎◌}
use Rattle.page_lender.specs.Events.{HeardRightly}
use Rattle.window_pages.specs.Bytes.{belief_of, known_of, notes_of}
use Rattle.window_pages.specs.Changed.{covered, detached, given_up, gone, notes_if, moved_first, uncovered, uncovered_notes, unmapped}
use Rattle.window_pages.specs.Known.{clued, kept_by, shows_past}
use Rattle.window_pages.specs.declared.page.KnownPage.{KnownPage}
use Rattle.window_pages.specs.declared.page.PageNotes.{PageNotes}
use Rattle.window_pages.specs.declared.page.WindowPage.{WindowPage}
use Rattle.window_tables.specs.declared.changes.Change.{Change}
use Rattle.window_tables.specs.declared.changes.Change.TheVariants.{Covered, Uncovered, GivenUp, Unmapped, Left, Detached}

-- the bits of a frame's number that are kept where it is mapped; frames in a row have clues in a row, but at each multiple of 32,768
abbrev pub clue_of : ℕ → ℕ
clue_of frame = (frame % 32768 + frame / 32768 % 32768 * 30645) % 32768

-- what is known then of a page that lies so many pages behind the first
abbrev pub known_then : Change → ℕ → KnownPage → KnownPage
known_then (Covered frame) behind page = covered page
known_then (Uncovered moved) behind page = uncovered moved (moved && nat_eq behind 0) page
known_then GivenUp behind page = given_up page
known_then Unmapped behind page = unmapped page
known_then Left behind page = gone page
known_then Detached behind page = detached page

-- and what looks have found of it
abbrev pub notes_then : Change → ℕ → KnownPage → PageNotes → PageNotes
notes_then (Covered frame) behind page notes = clued (clue_of (frame + behind)) (notes_if (shows_past page) page.belief notes)
notes_then (Uncovered moved) behind page notes = uncovered_notes page notes
notes_then GivenUp behind page notes = notes_if true (given_up page).belief notes
notes_then Unmapped behind page notes = notes_if true (unmapped page).belief notes
notes_then Left behind page notes = notes_if true (gone page).belief notes
notes_then Detached behind page notes = notes_if true (detached page).belief notes

-- what the page contained is given up
abbrev pub discards : Change → Bool
discards (Covered frame) = false
discards (Uncovered moved) = false
discards GivenUp = true
discards Unmapped = true
discards Left = false
discards Detached = false

-- other memory is put at their places
abbrev pub puts_memory : Change → Bool
puts_memory (Covered frame) = true
puts_memory (Uncovered moved) = true
puts_memory GivenUp = false
puts_memory Unmapped = false
puts_memory Left = false
puts_memory Detached = false

-- what is mapped at their places stays
abbrev pub keeps_mappings : Change → Bool
keeps_mappings (Covered frame) = false
keeps_mappings (Uncovered moved) = false
keeps_mappings GivenUp = true
keeps_mappings Unmapped = false
keeps_mappings Left = true
keeps_mappings Detached = false

-- the page behind so many pages gets its mark
abbrev pub marks : Change → ℕ → Bool
marks change count = puts_memory change && nat_lt 0 count

-- This has become of a page that lies so many pages behind the first.
pub record IsNow (change : Change) (behind : ℕ) (old new : WindowPage) : Type 0 where
  pub known : known_of new ≡ known_then change behind (known_of old)
  pub notes : notes_of new ≡ notes_then change behind (known_of old) (notes_of old)
  pub right : discards change ≡ true → HeardRightly (belief_of old) (belief_of new)

-- Each of so many pages from one place on becomes what this says, and no other page changes.
pub record Changed (Becomes : ℕ → WindowPage → WindowPage → Type 0) (first count : ℕ) (old new : List WindowPage) : Type 0 where
  pub length : length new ≡ length old
  pub inside : (n : ℕ) (x y : WindowPage) → n < count → slice_get old (first + n) ≡ Some x → slice_get new (first + n) ≡ Some y → Becomes n x y
  pub outside : (i : ℕ) → (i < first) ⊎ (first + count ≤ i) → slice_get new i ≡ slice_get old i

-- The page begins what was moved, if it was moved.
pub record NowBegins (old new : WindowPage) : Type 0 where
  pub known : known_of new ≡ moved_first (known_of old)
  pub notes : notes_of new ≡ kept_by (known_of old).belief (notes_of old)

-- This has become of the page behind so many pages: it begins what was moved if it gets its mark, and else it stays.
pub record IsBehind (change : Change) (count : ℕ) (old new : WindowPage) : Type 0 where
  pub begins : marks change count ≡ true → NowBegins old new
  pub same : marks change count ≡ false → new ≡ old

-- This has become of so many pages from one place on, and of the page behind them. No other page changes.
pub record RangeChanged (change : Change) (first count : ℕ) (old new : List WindowPage) : Type 0 where
  pub length : length new ≡ length old
  pub inside : (n : ℕ) (x y : WindowPage) → n < count → slice_get old (first + n) ≡ Some x → slice_get new (first + n) ≡ Some y → IsNow change n x y
  pub behind : (x y : WindowPage) → slice_get old (first + count) ≡ Some x → slice_get new (first + count) ≡ Some y → IsBehind change count x y
  pub outside : (i : ℕ) → (i < first) ⊎ (first + count < i) → slice_get new i ≡ slice_get old i
