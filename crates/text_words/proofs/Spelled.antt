-- Numbers and bytes as words, and words of a line, read back.
use Rattle.std.proofs.Common.{◌≡◌, ℕ, suc, zero, ◌+◌, ◌-◌, ◌<◌, ◌≤◌, ◌^◌, ◌==◌, Bool, true, false, not, List, [], ◌∷◌, ◌++◌, length, take, drop, get_or, Some, None, Ok, refl, ap, ◌∙◌, arith, nat_lt, nat_le, decimal, length-append}
use Rattle.std.specs.List.{list_all, position_or_len, before_first, after_first}
use Rattle.std.specs.Str.{all_ascii_digits}
use Rattle.std.proofs.lemmas.Bool.{and_parts, and_from, le-leb, lt-ltb, ltb-true, ne_eqb, le-ltb}
use Rattle.std.proofs.lemmas.List.{take_all}
use Rattle.std.proofs.lemmas.Fmt.{digits_decimal, digits_value-decimal, decimal_nonempty, first_decimal, decimal_digit}
use Rattle.std.proofs.lemmas.Str.Parse.{IsNumeralModel, FoldsDigits, numerals_by_fold, tells_all_ascii_digits}
use Rattle.std.proofs.Math.Seq.{take-append_seam, drop-append-add}
use Rattle.text_words.specs.Words.{is_space, word_at, number_at, number_to, value_on, is_plain}

-- each byte is above k
abbrev pub above : ℕ → List ℕ → Bool
above k bytes = list_all (nat_lt k) bytes

folds : FoldsDigits value_on
folds = record { empty = λ n. refl; more = λ n c cs h. ap (λ m. value_on m cs) (omega arith) }

model : IsNumeralModel (λ ds. all_ascii_digits ds ≡ true) (value_on 0)
model = numerals_by_fold (λ ds. all_ascii_digits ds ≡ true) tells_all_ascii_digits value_on folds

digits_above : (ds : List ℕ) → all_ascii_digits ds ≡ true → above 32 ds ≡ true
digits_above [] h = refl
digits_above (c ∷ cs) h =
    let parts = tells_all_ascii_digits.parts c cs h in
    and_from _ _ (lt-ltb 32 c (omega (arith, parts.0.0))) (digits_above cs parts.1)

plain_digits : (ds : List ℕ) → all_ascii_digits ds ≡ true → 0 < length ds → (1 < length ds → 48 < get_or ds 0 0) → is_plain ds ≡ true
plain_digits [] d l f = absurd (omega arith)
plain_digits (c ∷ []) d l f = d
plain_digits (c ∷ e ∷ cs) d l f = and_from _ _ (lt-ltb 48 c (f (omega arith))) d

first_is : (n : ℕ) → n < 2 ^ 64 → 1 < length (decimal n) → 48 < get_or (decimal n) 0 0
first_is zero h l = let one : length (decimal 0) ≡ 1 = ap length (decimal_digit 0 (omega arith)) in absurd (omega (arith, one))
first_is (suc n) h l = first_decimal (suc n) (omega arith) h

-- a number's digits are its one spelling
pub number_back : (most n : ℕ) → n ≤ most → n < 2 ^ 64 → number_to most (decimal n) ≡ Ok n
unfolding number_to
number_back most n m h =
    let plain : is_plain (decimal n) ≡ true = plain_digits (decimal n) (digits_decimal model n h) (decimal_nonempty n h) (first_is n h) in
    let value : value_on 0 (decimal n) ≡ n = digits_value-decimal model n h in
    let within : nat_le n most ≡ true = le-leb n most m in
    rw (plain, value, within) refl

pub decimal_above : (n : ℕ) → n < 2 ^ 64 → above 32 (decimal n) ≡ true
decimal_above n h = digits_above (decimal n) (digits_decimal model n h)

-- the place of the first byte that passes, behind bytes that don't
first_at : (p : ℕ → Bool) (xs ys : List ℕ) (y : ℕ) → list_all (λ b. not (p b)) xs ≡ true → p y ≡ true → position_or_len p (xs ++ y ∷ ys) ≡ length xs
first_at p [] ys y h e = rw e refl
first_at p (x ∷ xs) ys y h e =
    let parts = and_parts (not (p x)) (list_all (λ b. not (p b)) xs) h in
    rw (parts.0, first_at p xs ys y parts.1 e) (omega arith)

first_none : (p : ℕ → Bool) (xs : List ℕ) → list_all (λ b. not (p b)) xs ≡ true → position_or_len p xs ≡ length xs
first_none p [] h = refl
first_none p (x ∷ xs) h =
    let parts = and_parts (not (p x)) (list_all (λ b. not (p b)) xs) h in
    rw (parts.0, first_none p xs parts.1) (omega arith)

pub before_at : (p : ℕ → Bool) (xs ys : List ℕ) (y : ℕ) → list_all (λ b. not (p b)) xs ≡ true → p y ≡ true → before_first p (xs ++ y ∷ ys) ≡ xs
before_at p xs ys y h e = ap (λ k. take k (xs ++ y ∷ ys)) (first_at p xs ys y h e) ∙ take-append_seam xs (y ∷ ys)

pub after_at : (p : ℕ → Bool) (xs ys : List ℕ) (y : ℕ) → list_all (λ b. not (p b)) xs ≡ true → p y ≡ true → after_first p (xs ++ y ∷ ys) ≡ ys
after_at p xs ys y h e = ap (λ k. drop (k + 1) (xs ++ y ∷ ys)) (first_at p xs ys y h e) ∙ drop-append-add xs (y ∷ ys) 1

pub within_at : (p : ℕ → Bool) (xs ys : List ℕ) (y : ℕ) → list_all (λ b. not (p b)) xs ≡ true → p y ≡ true → nat_lt (position_or_len p (xs ++ y ∷ ys)) (length (xs ++ y ∷ ys)) ≡ true
within_at p xs ys y h e = lt-ltb _ _ (omega (arith, first_at p xs ys y h e, length-append xs (y ∷ ys)))

-- bytes above 32 hold no space
pub no_space : (xs : List ℕ) → above 32 xs ≡ true → list_all (λ b. not (is_space b)) xs ≡ true
no_space [] h = refl
no_space (x ∷ xs) h =
    let parts = and_parts (nat_lt 32 x) (above 32 xs) h in
    and_from _ _ (not_space x parts.0) (no_space xs parts.1)
  where
    not_space : (x : ℕ) → nat_lt 32 x ≡ true → not (x == 32) ≡ true
    not_space x h = let l : 32 < x = ltb-true 32 x h in ap not (ne_eqb x 32 (λ e. omega arith))

-- a word before others, and a line's last
pub word_back : (w rest : List ℕ) → above 32 w ≡ true → word_at (Some (w ++ 32 ∷ rest)) ≡ Ok (w, Some rest)
unfolding word_at
word_back w rest h =
    let free = no_space w h in
    rw (before_at is_space w rest 32 free refl, within_at is_space w rest 32 free refl, after_at is_space w rest 32 free refl) refl

pub last_back : (w : List ℕ) → above 32 w ≡ true → word_at (Some w) ≡ Ok (w, None)
unfolding word_at
last_back w h =
    let free = no_space w h in
    let place : position_or_len is_space w ≡ length w = first_none is_space w free in
    let test : nat_lt (position_or_len is_space w) (length w) ≡ false = le-ltb _ _ (omega (arith, place)) in
    let all : before_first is_space w ≡ w = ap (λ k. take k w) place ∙ take_all (length w) w (omega arith) in
    rw (all, test) refl

-- a number before other words, and at a line's end
pub number_next : (n : ℕ) (rest : List ℕ) → n < 2 ^ 32 → number_at (Some (decimal n ++ 32 ∷ rest)) ≡ Ok (n, Some rest)
unfolding number_at
number_next n rest h = rw (word_back (decimal n) rest (decimal_above n (omega arith)), number_back (2 ^ 32 - 1) n (omega arith) (omega arith)) refl

pub number_last : (n : ℕ) → n < 2 ^ 32 → number_at (Some (decimal n)) ≡ Ok (n, None)
unfolding number_at
number_last n h = rw (last_back (decimal n) (decimal_above n (omega arith)), number_back (2 ^ 32 - 1) n (omega arith) (omega arith)) refl

pub digits_of_decimal : (n : ℕ) → n < 2 ^ 64 → all_ascii_digits (decimal n) ≡ true
digits_of_decimal n h = digits_decimal model n h
