-- The lines of a list of mappings, one after the other.
use Rattle.std.proofs.Common.{◌≡◌, ◌≢◌, ℕ, ◌+◌, ◌<◌, ◌&&◌, ◌||◌, Bool, List, [], ◌∷◌, ◌++◌, length, Some, None, Result, Ok, Err, refl, sym, ap, ◌∙◌, arith, inl, inr, append_assoc, append-nil}
use Rattle.std.specs.List.{position_or_len, before_first, after_first, slice_split}
use Rattle.std.specs.Str.{bytes_eq}
use Rattle.std.proofs.lemmas.Bool.{cases_Bool}
use Rattle.std.proofs.lemmas.List.Splits.{length-slice_split, slice_split_first}
use Rattle.live_memory.specs.Details.{has_word, is_detail, is_offered, says_offered}
use Rattle.live_memory.specs.Fields.{is_space}
use Rattle.live_memory.specs.Maps.{is_feed, mappings_from, mappings_in, said_by, with_more}
use Rattle.live_memory.specs.declared.mapping.WritableMapping.{WritableMapping}

-- mappings before those of an answer
abbrev pub with_front : List WritableMapping → Result (List WritableMapping) ℕ → Result (List WritableMapping) ℕ
with_front front (Ok mappings) = Ok (front ++ mappings)
with_front front (Err n) = Err n

lines_step : (n : ℕ) (bytes : List ℕ) (pieces : List (List ℕ)) → 0 < length pieces → mappings_in n (bytes ∷ pieces) ≡ with_more n (said_by bytes pieces) (mappings_in (n + 1) pieces)
unfolding mappings_in
lines_step n bytes [] h = absurd (omega (arith, h))
lines_step n [] (piece ∷ pieces) h = refl
lines_step n (b ∷ bytes) (piece ∷ pieces) h = refl

-- a line and those behind it
first_step : (n : ℕ) (bytes : List ℕ) → position_or_len is_feed bytes < length bytes
    → mappings_from n bytes ≡ with_more n (said_by (before_first is_feed bytes) (slice_split is_feed (after_first is_feed bytes))) (mappings_from (n + 1) (after_first is_feed bytes))
first_step n bytes h =
    rw (slice_split_first is_feed bytes 0 h) (lines_step n (before_first is_feed bytes) (slice_split is_feed (after_first is_feed bytes)) (omega (arith, length-slice_split is_feed (after_first is_feed bytes))))

add_front : (front said : List WritableMapping) (n : ℕ) (more : Result (List WritableMapping) ℕ) → with_front front (with_more n (Some said) more) ≡ with_front (front ++ said) more
add_front front said n (Ok mappings) = ap Ok (sym (append_assoc front said mappings))
add_front front said n (Err k) = refl

-- a line more was read
pub line_on : (n : ℕ) (front after said : List WritableMapping) (bytes line rest : List ℕ) → position_or_len is_feed bytes < length bytes
    → line ≡ before_first is_feed bytes → rest ≡ after_first is_feed bytes → said_by line (slice_split is_feed rest) ≡ Some said → after ≡ front ++ said
    → with_front front (mappings_from n bytes) ≡ with_front after (mappings_from (n + 1) rest)
line_on n front after said bytes line rest within is behind read e =
    rw (e, first_step n bytes within, ← is, ← behind, read) (add_front front said n (mappings_from (n + 1) rest))

-- a line isn't of the form
pub line_fault : (n : ℕ) (front : List WritableMapping) (bytes line rest : List ℕ) → position_or_len is_feed bytes < length bytes → line ≡ before_first is_feed bytes → rest ≡ after_first is_feed bytes
    → said_by line (slice_split is_feed rest) ≡ None → with_front front (mappings_from n bytes) ≡ Err n
line_fault n front bytes line rest within is behind read = rw (first_step n bytes within, ← is, ← behind, read) refl

pub split_whole : (p : ℕ → Bool) (xs : List ℕ) → position_or_len p xs ≡ length xs → slice_split p xs ≡ xs ∷ []
split_whole p [] h = refl
split_whole p (x ∷ xs) h = elim (cases_Bool (p x)) [
  | inl passes ↦ let none = rw passes at h in absurd (omega (arith, none))
  | inr fails ↦ let later = rw fails at h in let more : position_or_len p xs ≡ length xs = omega (arith, later) in rw (fails, split_whole p xs more) refl
]

last_piece : (n : ℕ) (bytes : List ℕ) → bytes ≢ [] → mappings_in n (bytes ∷ []) ≡ Err n
unfolding mappings_in
last_piece n [] h = absurd (h refl)
last_piece n (b ∷ bytes) h = refl

-- a line that is cut off
pub cut_line : (n : ℕ) (front : List WritableMapping) (bytes : List ℕ) → bytes ≢ [] → position_or_len is_feed bytes ≡ length bytes → with_front front (mappings_from n bytes) ≡ Err n
cut_line n front bytes some none = rw (split_whole is_feed bytes none, last_piece n bytes some) refl

pub all_lines : (n : ℕ) (front : List WritableMapping) → with_front front (mappings_from n []) ≡ Ok front
unfolding mappings_in
all_lines n front = ap Ok (append-nil front)

or_none : (b : Bool) → b ≡ (b || Bool.false)
or_none Bool.true = refl
or_none Bool.false = refl

-- the details of a mapping, one line after the other
detail_on : (bytes line rest : List ℕ) → position_or_len is_feed bytes < length bytes → line ≡ before_first is_feed bytes → rest ≡ after_first is_feed bytes
    → is_offered (slice_split is_feed bytes) ≡ (is_detail line && (says_offered line || is_offered (slice_split is_feed rest)))
detail_on bytes line rest within is behind = rw (slice_split_first is_feed bytes 0 within, ← is, ← behind) refl

pub detail_found : (bytes line rest : List ℕ) → position_or_len is_feed bytes < length bytes → line ≡ before_first is_feed bytes → rest ≡ after_first is_feed bytes
    → is_detail line ≡ Bool.true → says_offered line ≡ Bool.true → Bool.true ≡ is_offered (slice_split is_feed bytes)
detail_found bytes line rest within is behind detail same = sym (detail_on bytes line rest within is behind ∙ rw (detail, same) refl)

pub detail_passed : (bytes line rest : List ℕ) → position_or_len is_feed bytes < length bytes → line ≡ before_first is_feed bytes → rest ≡ after_first is_feed bytes
    → is_detail line ≡ Bool.true → says_offered line ≡ Bool.false → is_offered (slice_split is_feed rest) ≡ is_offered (slice_split is_feed bytes)
detail_passed bytes line rest within is behind detail other = sym (detail_on bytes line rest within is behind ∙ rw (detail, other) refl)

pub last_detail : (bytes : List ℕ) → position_or_len is_feed bytes ≡ length bytes → (is_detail bytes && says_offered bytes) ≡ is_offered (slice_split is_feed bytes)
last_detail bytes none = ap (λ (b : Bool). is_detail bytes && b) (or_none (says_offered bytes)) ∙ sym (rw (split_whole is_feed bytes none) refl)

-- the words of a line, one after the other
word_on : (word bytes here rest : List ℕ) → position_or_len is_space bytes < length bytes → here ≡ before_first is_space bytes → rest ≡ after_first is_space bytes
    → has_word word bytes ≡ (bytes_eq here word || has_word word rest)
word_on word bytes here rest within is behind = rw (slice_split_first is_space bytes 0 within, ← is, ← behind) refl

pub word_found : (word bytes here rest : List ℕ) → position_or_len is_space bytes < length bytes → here ≡ before_first is_space bytes → rest ≡ after_first is_space bytes
    → bytes_eq here word ≡ Bool.true → Bool.true ≡ has_word word bytes
word_found word bytes here rest within is behind same = sym (word_on word bytes here rest within is behind ∙ ap (λ (b : Bool). b || has_word word rest) same)

pub word_passed : (word bytes here rest : List ℕ) → position_or_len is_space bytes < length bytes → here ≡ before_first is_space bytes → rest ≡ after_first is_space bytes
    → bytes_eq here word ≡ Bool.false → has_word word rest ≡ has_word word bytes
word_passed word bytes here rest within is behind other = sym (word_on word bytes here rest within is behind ∙ ap (λ (b : Bool). b || has_word word rest) other)

pub last_word : (word bytes : List ℕ) → position_or_len is_space bytes ≡ length bytes → bytes_eq bytes word ≡ has_word word bytes
last_word word bytes none = or_none (bytes_eq bytes word) ∙ sym (rw (split_whole is_space bytes none) refl)
