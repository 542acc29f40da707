-- The digits of a digest, in place.
use Rattle.std.proofs.Common.{◌≡◌, ℕ, zero, suc, ◌+◌, ◌-◌, ◌*◌, ◌<◌, ◌≤◌, ◌≢◌, ◌==◌, ◌&&◌, true, not, List, [], ◌∷◌, ◌++◌, length, take, drop, get_or, slice_index, Some, None, Ok, refl, sym, ap, ◌∙◌, arith, inl, inr}
use Rattle.std.specs.Int.{from_be_bytes, w128}
use Rattle.std.specs.List.{list_all, position_or_len}
use Rattle.std.proofs.lemmas.Bool.{and_from, and_parts, cases_Bool, cases_eq, cases_lt, eq-eqb, eqb-true, le-ltb, lt-ltb, ne_eqb}
use Rattle.std.proofs.lemmas.Bool.Decides.{nat_tests}
use Rattle.std.proofs.lemmas.List.{drop_more, length-take-le, take-append-drop}
use Rattle.std.proofs.lemmas.List.Sums.{passes_at_first}
use Rattle.hex.specs.Hex.{hex_digit_value, pair_value}
use Rattle.text_words.specs.Words.{is_lower_digit, is_bytes_word, spelled}
use Rattle.digest_text.specs.Fields.{digest_in, field_in, is_comma}
use Rattle.digest_text.specs.Repeats.{digest_first}
use Rattle.digest_text.proofs.Fronts.{field_before}

-- a word of another length is no digest
pub digest_long : (word : List ℕ) → length word ≢ 32 → digest_in word ≡ None
unfolding digest_in
digest_long word other = rw (ne_eqb (length word) 32 other) refl

-- 32 digits are one
pub digest_is : (word : List ℕ) → length word ≡ 32 → is_bytes_word word ≡ true → digest_in word ≡ Some (from_be_bytes w128 (spelled word))
unfolding digest_in
digest_is word long digits = rw (eq-eqb (length word) 32 long, digits) refl

-- where no comma follows 32 bytes, no digest is first
pub no_digest_first : (bytes : List ℕ) → (32 < length bytes → get_or bytes 32 0 ≢ 44) → digest_first bytes ≡ None
unfolding field_in
no_digest_first bytes other = elim (cases_lt (position_or_len is_comma bytes) (length bytes)) [
  | inr none ↦ rw (le-ltb _ _ none) refl
  | inl within ↦
      let at = position_or_len is_comma bytes in
      let long : length (take at bytes) ≡ at = length-take-le at bytes (omega (arith, within)) in
      let passes : (get_or bytes at 0 == 44) ≡ true = passes_at_first is_comma bytes 0 within in
      let elsewhere : length (take at bytes) ≢ 32 = λ e.
      let here : at ≡ 32 = sym long ∙ e in
      other (rw here at within) (eqb-true (get_or bytes 32 0) 44 (rw here at passes)) in
      rw (lt-ltb _ _ within, digest_long (take at bytes) elsewhere) refl
]

-- a lower case digit is no comma
digits_free : (word : List ℕ) → list_all is_lower_digit word ≡ true → list_all (λ b. not (is_comma b)) word ≡ true
digits_free [] h = refl
digits_free (b ∷ bs) h =
    let parts = and_parts (is_lower_digit b) (list_all is_lower_digit bs) h in
    and_from (not (is_comma b)) (list_all (λ b. not (is_comma b)) bs) (other b parts.0) (digits_free bs parts.1)
  where
    other : (b : ℕ) → is_lower_digit b ≡ true → not (is_comma b) ≡ true
    other b h = grind (arith, nat_tests)

digest_free : (word : List ℕ) (digest : ℕ) → digest_in word ≡ Some digest → list_all (λ b. not (is_comma b)) word ≡ true
unfolding digest_in
digest_free word digest h = elim (cases_Bool (length word == 32 && is_bytes_word word)) [
  | inl is ↦ digits_free word (and_parts _ (list_all is_lower_digit word) (and_parts (length word == 32) (is_bytes_word word) is).1).1
  | inr other ↦ let nothing = rw other at h in cc nothing
]

-- 32 bytes with a comma behind them
comma_apart : (bytes : List ℕ) → 32 < length bytes → get_or bytes 32 0 ≡ 44 → bytes ≡ take 32 bytes ++ 44 ∷ drop 33 bytes
comma_apart bytes within comma =
    sym (take-append-drop 32 bytes) ∙ ap (λ (xs : List ℕ). take 32 bytes ++ xs) (drop_more bytes 32 0 within ∙ ap (λ (b : ℕ). b ∷ drop 33 bytes) comma)

-- 32 bytes that spell a digest, and a comma behind them
pub digest_first_is : (bytes : List ℕ) (digest : ℕ) → 32 < length bytes → get_or bytes 32 0 ≡ 44 → digest_in (take 32 bytes) ≡ Some digest → digest_first bytes ≡ Some (digest, drop 33 bytes)
digest_first_is bytes digest within comma h =
    let found : field_in bytes ≡ Some (take 32 bytes, drop 33 bytes) = ap field_in (comma_apart bytes within comma) ∙ field_before (take 32 bytes) (drop 33 bytes) (digest_free (take 32 bytes) digest h) in
    rw (found, h) refl

-- 32 bytes that spell none
pub digest_first_none : (bytes : List ℕ) → 32 < length bytes → get_or bytes 32 0 ≡ 44 → digest_in (take 32 bytes) ≡ None → digest_first bytes ≡ None
unfolding field_in
digest_first_none bytes within comma h = elim (cases_eq (position_or_len is_comma bytes) 32) [
  | inl here ↦ rw (here, lt-ltb 32 (length bytes) within, h) refl
  | inr elsewhere ↦ elim (cases_lt (position_or_len is_comma bytes) (length bytes)) [
    | inl some ↦
        let long : length (take (position_or_len is_comma bytes) bytes) ≡ position_or_len is_comma bytes = length-take-le _ bytes (omega (arith, some)) in
        rw (lt-ltb _ _ some, digest_long (take (position_or_len is_comma bytes) bytes) (λ e. elsewhere (sym long ∙ e))) refl
    | inr none ↦ rw (le-ltb _ _ none) refl
  ]
]

-- a digit's value is that of either case
pub lower_value : (c v : ℕ) → is_lower_digit c ≡ true → (c ≤ 57 → v ≡ c - 48) → (57 < c → v ≡ c - 87) → hex_digit_value c ≡ Some v
lower_value c v h small large = grind (arith, nat_tests)

-- two digits, as a byte
pub pair_is : (high low i a b : ℕ) → hex_digit_value high ≡ Some a → hex_digit_value low ≡ Some b → pair_value high low i ≡ Ok (16 * a + b)
pair_is high low i a b h l = let same : a * 16 + b ≡ 16 * a + b = omega arith in rw (h, l) (ap Ok same)

-- each digit of a word is one
pub digit_at : (word : List ℕ) (i : ℕ) → list_all is_lower_digit word ≡ true → i < length word → is_lower_digit (slice_index word i) ≡ true
digit_at [] i h within = absurd (omega arith)
digit_at (c ∷ cs) zero h within = (and_parts (is_lower_digit c) (list_all is_lower_digit cs) h).0
digit_at (c ∷ cs) (suc i) h within = digit_at cs i (and_parts (is_lower_digit c) (list_all is_lower_digit cs) h).1 (omega arith)
