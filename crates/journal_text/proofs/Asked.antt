-- Requests as words, read back.
use Rattle.std.proofs.Common.{◌≡◌, ℕ, suc, zero, ◌+◌, ◌-◌, ◌/◌, ◌%◌, ◌<◌, ◌≤◌, ◌^◌, ◌==◌, ◌&&◌, Bool, true, false, List, [], ◌∷◌, ◌++◌, length, Some, Ok, refl, ap, ◌∙◌, arith, nat_lt, decimal, inl, inr}
use Rattle.std.specs.Prelude.{codes, slice_index, slice_get}
use Rattle.std.specs.List.{list_all}
use Rattle.std.specs.Str.{all_ascii_digits, bytes_eq}
use Rattle.std.proofs.lemmas.Bool.{and_parts, and_from, lt-ltb, ltb-true, ne_eqb, le-ltb, eq-eqb, cases_lt}
use Rattle.std.proofs.lemmas.List.Folds.{list_all-append}
use Rattle.std.proofs.lemmas.Str.Parse.{tells_all_ascii_digits}
use Rattle.hex.specs.Hex.{IsBytes, lower_digits, encode_with, encode_lower}
use Rattle.hex.proofs.HexLemmas.{length-encode_with, decode_of-encode_lower}
use Rattle.page_model.specs.declared.request.Request.{Request}
use Rattle.page_model.specs.declared.request.Request.TheVariants.{Propose, Store, Load, Release, Count, Close}
use Rattle.page_model.specs.declared.request.Entry.{Entry}
use Rattle.page_model.specs.Parts.{StoreParts, LoadParts}
use Rattle.page_model.specs.declared.limits.TheConstants.{MAX_ACCESS_BYTES, PAGE_BYTES}
use Rattle.journal_text.specs.declared.request.Line.TheVariants.{Enters, Ends}
use Rattle.text_words.specs.Words.{bytes_in, is_lower_digit}
use Rattle.journal_text.specs.Requests.{stored, loaded, propose_at, store_at, load_at, release_at, bare_at, named, asked_at, end_at, entry_at, line_of}
use Rattle.journal_text.specs.Written.{request_words, IsWritable}
use Rattle.text_words.proofs.Spelled.{above, decimal_above, digits_of_decimal, word_back, last_back, number_next, number_last, number_back}

-- a test of the first n of the sixteen digits
abbrev all_first : (ℕ → Bool) → ℕ → Bool
all_first p zero = true
all_first p (suc n) = p (slice_index lower_digits n) && all_first p n

first_passes : (p : ℕ → Bool) (n k : ℕ) → all_first p n ≡ true → k < n → p (slice_index lower_digits k) ≡ true
first_passes p zero k h l = absurd (omega arith)
first_passes p (suc n) k h l =
    let parts = and_parts (p (slice_index lower_digits n)) (all_first p n) h in
    elim (cases_lt k n) [
      | inl below ↦ first_passes p n k parts.1 below
      | inr top ↦ let e : k ≡ n = omega arith in rw e parts.0
    ]

-- what all digits pass, all bytes' digits pass
encoded_pass : (p : ℕ → Bool) → all_first p 16 ≡ true → (xs : List ℕ) → IsBytes xs → list_all p (encode_lower xs) ≡ true
unfolding encode_with
encoded_pass p t [] h = refl
encoded_pass p t (b ∷ rest) h =
    let fits : b < 256 = h 0 in
    and_from _ _ (first_passes p 16 (b / 16) t (omega arith)) (and_from _ _ (first_passes p 16 (b % 16) t (omega arith)) (encoded_pass p t rest (λ k. h (suc k))))

encoded_above : (xs : List ℕ) → IsBytes xs → above 32 (encode_lower xs) ≡ true
encoded_above xs h = encoded_pass (nat_lt 32) refl xs h

bytes_back : (xs : List ℕ) → 1 ≤ length xs → IsBytes xs → bytes_in (encode_lower xs) ≡ Ok xs
unfolding bytes_in
bytes_back xs some h =
    let len = length-encode_with lower_digits xs in
    let a : nat_lt 0 (length (encode_lower xs)) ≡ true = lt-ltb 0 _ (omega (arith, len)) in
    let b : (length (encode_lower xs) % 2 == 0) ≡ true = eq-eqb _ 0 (omega (arith, len)) in
    let c : list_all is_lower_digit (encode_lower xs) ≡ true = encoded_pass is_lower_digit refl xs h in
    let d = decode_of-encode_lower xs h in
    rw (a, b, c, d) refl

stored_back : (ppn at : ℕ) (bytes : List ℕ) → 1 ≤ length bytes → length bytes ≤ MAX_ACCESS_BYTES → at + length bytes ≤ PAGE_BYTES → stored ppn at bytes ≡ Ok (Store (record { ppn = ppn; at = at; bytes = bytes }))
stored_back ppn at bytes some few fits =
    let a : (length bytes == 0) ≡ false = ne_eqb _ 0 (λ e. omega arith) in
    let b : nat_lt MAX_ACCESS_BYTES (length bytes) ≡ false = le-ltb MAX_ACCESS_BYTES _ few in
    let c : nat_lt PAGE_BYTES (at + length bytes) ≡ false = le-ltb PAGE_BYTES _ fits in
    rw (a, b, c) refl

loaded_back : (ppn at len : ℕ) → 1 ≤ len → len ≤ MAX_ACCESS_BYTES → at + len ≤ PAGE_BYTES → loaded ppn at len ≡ Ok (Load (record { ppn = ppn; at = at; len = len }))
loaded_back ppn at len some few fits =
    let a : (len == 0) ≡ false = ne_eqb _ 0 (λ e. omega arith) in
    let b : nat_lt MAX_ACCESS_BYTES len ≡ false = le-ltb MAX_ACCESS_BYTES _ few in
    let c : nat_lt PAGE_BYTES (at + len) ≡ false = le-ltb PAGE_BYTES _ fits in
    rw (a, b, c) refl

propose_back : (ppn : ℕ) → ppn < 2 ^ 32 → asked_at (Some (request_words (Propose ppn))) ≡ Ok (Ok (Propose ppn))
unfolding request_words asked_at named propose_at
propose_back ppn h = rw (word_back (codes "propose") (decimal ppn) refl, number_last ppn h) refl

release_back : (ppn : ℕ) → ppn < 2 ^ 32 → asked_at (Some (request_words (Release ppn))) ≡ Ok (Ok (Release ppn))
unfolding request_words asked_at named release_at
release_back ppn h = rw (word_back (codes "release") (decimal ppn) refl, number_last ppn h) refl

store_back : (r : StoreParts) → r.ppn < 2 ^ 32 → 1 ≤ length r.bytes → length r.bytes ≤ MAX_ACCESS_BYTES → r.at + length r.bytes ≤ PAGE_BYTES → IsBytes r.bytes
    → asked_at (Some (request_words (Store r))) ≡ Ok (Ok (Store r))
unfolding request_words asked_at named store_at
store_back r h some few fits bytes =
    let digits = encode_lower r.bytes in
    rw (word_back (codes "store") (decimal r.ppn ++ 32 ∷ (decimal r.at ++ 32 ∷ digits)) refl, number_next r.ppn (decimal r.at ++ 32 ∷ digits) h, number_next r.at digits (omega arith), last_back digits (encoded_above r.bytes bytes), bytes_back r.bytes some bytes)
    (ap (λ x. Ok x) (stored_back r.ppn r.at r.bytes some few fits))

load_back : (r : LoadParts) → r.ppn < 2 ^ 32 → 1 ≤ r.len → r.len ≤ MAX_ACCESS_BYTES → r.at + r.len ≤ PAGE_BYTES → asked_at (Some (request_words (Load r))) ≡ Ok (Ok (Load r))
unfolding request_words asked_at named load_at
load_back r h some few fits =
    rw (word_back (codes "load") (decimal r.ppn ++ 32 ∷ (decimal r.at ++ 32 ∷ decimal r.len)) refl, number_next r.ppn (decimal r.at ++ 32 ∷ decimal r.len) h, number_next r.at (decimal r.len) (omega arith), number_last r.len (omega arith))
    (ap (λ x. Ok x) (loaded_back r.ppn r.at r.len some few fits))

count_back : asked_at (Some (request_words Count)) ≡ Ok (Ok Count)
unfolding request_words asked_at named bare_at
count_back = rw (last_back (codes "count") refl) refl

close_back : asked_at (Some (request_words Close)) ≡ Ok (Ok Close)
unfolding request_words asked_at named bare_at
close_back = rw (last_back (codes "close") refl) refl

-- a request's words are read as the request
pub asked_back : (r : Request) → IsWritable r → asked_at (Some (request_words r)) ≡ Ok (Ok r)
asked_back (Propose ppn) h = propose_back ppn h
asked_back (Store r) h = store_back r h.0 h.1 h.2 h.3 h.4
asked_back (Load r) h = load_back r h.0 h.1 h.2 h.3
asked_back (Release ppn) h = release_back ppn h
asked_back Count h = count_back
asked_back Close h = close_back

-- a number is no end
digits_no_end : (ds : List ℕ) → all_ascii_digits ds ≡ true → bytes_eq ds (codes "end") ≡ false
digits_no_end [] h = refl
digits_no_end (c ∷ cs) h =
    let parts = tells_all_ascii_digits.parts c cs h in
    let other : (c == 101) ≡ false = ne_eqb c 101 (λ e. omega (arith, parts.0.1)) in
    rw other refl

-- a request line is read as the entry
pub line_back : (closed : List Bool) (e : Entry) → e.guest < 2 ^ 32 → IsWritable e.request → slice_get closed e.guest ≡ Some false
    → line_of closed (decimal e.guest ++ 32 ∷ request_words e.request) ≡ Ok (Enters e)
unfolding line_of entry_at
line_back closed e h w asks =
    let wide : e.guest < 2 ^ 64 = omega arith in
    rw (word_back (decimal e.guest) (request_words e.request) (decimal_above e.guest wide), digits_no_end (decimal e.guest) (digits_of_decimal e.guest wide), number_back (2 ^ 32 - 1) e.guest (omega arith) wide, asked_back e.request w, asks) refl

-- the end line is read as the number
pub end_back : (closed : List Bool) (n : ℕ) → n < 2 ^ 32 → line_of closed (codes "end " ++ decimal n) ≡ Ok (Ends n)
unfolding line_of end_at
end_back closed n h = rw (word_back (codes "end") (decimal n) refl, number_last n h) refl

-- bytes above 31, and so no line feed
pub above_both : (k : ℕ) (xs ys : List ℕ) → above k xs ≡ true → above k ys ≡ true → above k (xs ++ ys) ≡ true
above_both k xs ys h g = list_all-append (nat_lt k) xs ys ∙ and_from _ _ h g

pub wider : (xs : List ℕ) → above 32 xs ≡ true → above 31 xs ≡ true
wider [] h = refl
wider (x ∷ xs) h =
    let parts = and_parts (nat_lt 32 x) (above 32 xs) h in
    let l : 32 < x = ltb-true 32 x parts.0 in
    and_from _ _ (lt-ltb 31 x (omega arith)) (wider xs parts.1)

pub decimal_line : (n : ℕ) → n < 2 ^ 64 → above 31 (decimal n) ≡ true
decimal_line n h = wider (decimal n) (decimal_above n h)

pub words_line : (r : Request) → IsWritable r → above 31 (request_words r) ≡ true
unfolding request_words
words_line (Propose ppn) h = decimal_line ppn (omega arith)
words_line (Store r) h =
    let at : r.at < 2 ^ 64 = omega (arith, h.3) in
    above_both 31 (decimal r.ppn) (32 ∷ (decimal r.at ++ 32 ∷ encode_lower r.bytes)) (decimal_line r.ppn (omega (arith, h.0)))
    (above_both 31 (decimal r.at) (32 ∷ encode_lower r.bytes) (decimal_line r.at at) (wider (encode_lower r.bytes) (encoded_above r.bytes h.4)))
words_line (Load r) h =
    let at : r.at < 2 ^ 64 = omega (arith, h.3) in
    above_both 31 (decimal r.ppn) (32 ∷ (decimal r.at ++ 32 ∷ decimal r.len)) (decimal_line r.ppn (omega (arith, h.0)))
    (above_both 31 (decimal r.at) (32 ∷ decimal r.len) (decimal_line r.at at) (decimal_line r.len (omega (arith, h.2))))
words_line (Release ppn) h = decimal_line ppn (omega arith)
words_line Count h = refl
words_line Close h = refl
