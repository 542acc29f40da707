-- How a text is cut into lines, and what a line must have.
use Rattle.std.specs.Prelude.{ℕ, ◌==◌, nat_lt, Bool, true, if◌then◌else◌, List, [], ◌∷◌, length, Result, Ok, Err}
use Rattle.std.specs.List.{position_or_len, before_first, after_first}
use Rattle.std.specs.Str.{bytes_eq}
use Rattle.text_words.specs.declared.fault.Cause.{Cause}
use Rattle.text_words.specs.declared.fault.Cause.TheVariants as causes
use Rattle.text_words.specs.declared.fault.TextFault.{TextFault}
use Rattle.text_words.specs.declared.fault.TextFault.TheVariants as faults

abbrev pub is_feed : ℕ → Bool
is_feed b = b == 10

-- Line n, and what comes after its line feed. A line that has none is cut off.
unfoldable pub line_at : ℕ → List ℕ → Result (List ℕ × List ℕ) TextFault
line_at n text = if nat_lt (position_or_len is_feed text) (length text) then Ok
    (before_first is_feed text, after_first is_feed text) else Err (faults.Truncated n)

-- what line n says, or what is wrong with it
abbrev pub at_line : {A : Type 0} → ℕ → Result A Cause → Result A TextFault
at_line n (Ok x) = Ok x
at_line n (Err cause) = Err (faults.Line n cause)

-- this word is the name that a line must have
abbrev pub keyword : List ℕ → List ℕ → Result (Unit {0}) Cause
keyword name word = if bytes_eq word name then Ok tt else Err causes.Form

-- puts one byte before the first of some lines, if there is one
abbrev pub onto_line : ℕ → List (List ℕ) → List (List ℕ)
onto_line b [] = []
onto_line b (line ∷ lines) = (b ∷ line) ∷ lines

-- all lines that end with a line feed, without it
abbrev pub lines_of : List ℕ → List (List ℕ)
lines_of [] = []
lines_of (b ∷ text) = if is_feed b then [] ∷ lines_of text else onto_line b (lines_of text)

-- no byte comes after the last line feed
abbrev pub is_whole : List ℕ → Bool
is_whole [] = true
is_whole (b ∷ []) = is_feed b
is_whole (b ∷ c ∷ text) = is_whole (c ∷ text)
