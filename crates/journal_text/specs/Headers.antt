-- The lines at the head of a text.
use Rattle.std.specs.Prelude.{ℕ, ◌==◌, ◌&&◌, ◌||◌, nat_le, nat_lt, Bool, if◌then◌else◌, List, [], ◌∷◌, length, sum, Option, Some, None, Result, Ok, Err, codes}
use Rattle.std.specs.List.{list_all, slice_split}
use Rattle.page_model.specs.declared.limits.TheConstants.{MAX_FRAMES, MAX_PAGES, MAX_GUESTS}
use Rattle.text_words.specs.declared.fault.Cause.{Cause}
use Rattle.text_words.specs.declared.fault.Cause.TheVariants as causes
use Rattle.text_words.specs.declared.fault.TextFault.TheVariants as faults
use Rattle.text_words.specs.Lines.{keyword}
use Rattle.text_words.specs.Words.{◌>>=◌, is_space, word_at, nothing_at, number, number_at}

-- 1 to MAX_FRAMES frames
abbrev pub frames_in_limits : ℕ → Result ℕ Cause
frames_in_limits n = if n == 0 || nat_lt MAX_FRAMES n then Err causes.Frames else Ok n

-- frames NUMBER
unfoldable pub frames_of : List ℕ → Result ℕ Cause
frames_of line = do
  first ← word_at (Some line)
  _ ← keyword (codes "frames") first.0
  n ← number_at first.1
  _ ← nothing_at n.1
  frames_in_limits n.0

-- the remaining words of a line
abbrev pub words_in : Option (List ℕ) → List (List ℕ)
words_in None = []
words_in (Some bytes) = slice_split is_space bytes

-- each word as a NUMBER
unfoldable pub numbers : List (List ℕ) → Result (List ℕ) Cause
numbers [] = Ok []
numbers (word ∷ words) = do
  n ← number word
  ns ← numbers words
  Ok (n ∷ ns)

-- each guest has a page, and all together at most MAX_PAGES
abbrev pub are_pages : List ℕ → Bool
are_pages pages = list_all (nat_lt 0) pages && nat_le (sum pages) MAX_PAGES

-- 1 to MAX_GUESTS guests with their pages. The form is checked first, then the number of guests, then the pages
abbrev pub pages_in_limits : List ℕ → Result (List ℕ) Cause
pages_in_limits pages =
    if length pages == 0 then Err causes.Form
    else if nat_lt MAX_GUESTS (length pages) then Err causes.Guests
    else if are_pages pages then Ok pages
    else Err causes.Pages

-- pages NUMBER ..
unfoldable pub pages_of : List ℕ → Result (List ℕ) Cause
pages_of line = do
  first ← word_at (Some line)
  _ ← keyword (codes "pages") first.0
  pages ← numbers (words_in first.1)
  pages_in_limits pages

-- one salt for each of this many guests. The form is checked first
abbrev pub salts_in_limits : ℕ → List ℕ → Result (List ℕ) Cause
salts_in_limits guests salts =
    if length salts == 0 then Err causes.Form
    else if length salts == guests then Ok salts
    else Err causes.Salts

-- salts NUMBER .., for this many guests
unfoldable pub salts_of : ℕ → List ℕ → Result (List ℕ) Cause
salts_of guests line = do
  first ← word_at (Some line)
  _ ← keyword (codes "salts") first.0
  salts ← numbers (words_in first.1)
  salts_in_limits guests salts
