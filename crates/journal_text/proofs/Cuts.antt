-- The numbers of a line, one after the other.
use Rattle.std.proofs.Common.{◌≡◌, ℕ, true, false, List, [], ◌∷◌, ◌++◌, length, take, refl, sym, ap, ◌∙◌, arith, nat_lt, inl, inr, Some, None, Result, Ok, Err, append-nil}
use Rattle.std.specs.List.{position_or_len, before_first}
use Rattle.std.proofs.lemmas.Bool.{cases_lt, lt-ltb, le-ltb}
use Rattle.std.proofs.lemmas.List.{take_all}
use Rattle.std.proofs.lemmas.List.Sums.{fails_before_first}
use Rattle.std.proofs.lemmas.List.Splits.{slice_split_first, slice_split_none}
use Rattle.text_words.specs.Words.{◌>>=◌, is_space, behind_space, number, with_front}
use Rattle.text_words.specs.Lines.{at_line}
use Rattle.text_words.proofs.Cuts.{front_on}
use Rattle.journal_text.specs.Headers.{words_in, numbers}
use Rattle.text_words.specs.declared.fault.Cause.{Cause}
use Rattle.text_words.specs.declared.fault.TextFault.TheVariants as faults

-- the words of bytes are the first and the rest
pub words_step : (bytes : List ℕ) → words_in (Some bytes) ≡ before_first is_space bytes ∷ words_in (behind_space bytes)
words_step bytes =
    elim (cases_lt (position_or_len is_space bytes) (length bytes)) [
      | inl h ↦
          let test : nat_lt (position_or_len is_space bytes) (length bytes) ≡ true = lt-ltb _ _ h in
          rw test (slice_split_first is_space bytes 0 h)
      | inr h ↦
          let test : nat_lt (position_or_len is_space bytes) (length bytes) ≡ false = le-ltb _ _ h in
          let all : take (position_or_len is_space bytes) bytes ≡ bytes = take_all _ _ h in
          rw test (slice_split_none is_space bytes (λ k d l. fails_before_first is_space bytes k d (omega arith)) ∙ ap (λ (w : List ℕ). w ∷ []) (sym all))
    ]

at_line_on : (n x : ℕ) (r : Result (List ℕ) Cause) → at_line n (r >>= λ xs. Ok (x ∷ xs)) ≡ (at_line n r >>= λ xs. Ok (x ∷ xs))
at_line_on n x (Ok xs) = refl
at_line_on n x (Err e) = refl

-- one more number
pub numbers_step : (n x : ℕ) (front : List ℕ) (bytes : List ℕ) → number (before_first is_space bytes) ≡ Ok x
    → with_front front (at_line n (numbers (words_in (Some bytes)))) ≡ with_front (front ++ x ∷ []) (at_line n (numbers (words_in (behind_space bytes))))
unfolding numbers
numbers_step n x front bytes h =
    rw (words_step bytes, h) (ap (with_front front) (at_line_on n x (numbers (words_in (behind_space bytes)))) ∙ front_on front x (at_line n (numbers (words_in (behind_space bytes)))))

pub numbers_fault : (n : ℕ) (cause : Cause) (front : List ℕ) (bytes : List ℕ) → number (before_first is_space bytes) ≡ Err cause
    → with_front front (at_line n (numbers (words_in (Some bytes)))) ≡ Err (faults.Line n cause)
unfolding numbers
numbers_fault n cause front bytes h = rw (words_step bytes, h) refl

pub numbers_end : (n : ℕ) (front : List ℕ) → with_front front (at_line n (numbers (words_in None))) ≡ Ok front
unfolding numbers
numbers_end n front = ap Ok (append-nil front)
