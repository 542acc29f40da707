-- The fields of a line as they are written, read back.
use Rattle.std.proofs.Common.{◌≡◌, ℕ, zero, suc, ◌-◌, ◌/◌, ◌%◌, ◌<◌, ◌≤◌, ◌^◌, ◌==◌, ◌&&◌, Bool, true, false, not, List, [], ◌∷◌, ◌++◌, length, Some, refl, sym, ap, ◌∙◌, arith, nat_lt, nat_le, decimal, append_assoc, length-append}
use Rattle.std.specs.Prelude.{slice_index}
use Rattle.std.specs.Int.{w128, to_be_bytes}
use Rattle.std.specs.List.{list_all}
use Rattle.std.specs.Str.{all_ascii_digits}
use Rattle.std.proofs.lemmas.Bool.{and_parts, and_from, le-ltb, lt-ltb, ltb-true, ne_eqb, eq-eqb, leb-true}
use Rattle.std.proofs.lemmas.Bool.Decides.{nat_tests}
use Rattle.std.proofs.lemmas.Fmt.{length-decimal-le}
use Rattle.std.proofs.lemmas.List.Folds.{list_all-append}
use Rattle.std.proofs.lemmas.Str.Parse.{tells_all_ascii_digits}
use Rattle.hex.specs.Hex.{IsBytes, lower_digits, encode_with, encode_lower}
use Rattle.hex.proofs.HexLemmas.{length-encode_with, decode_of-encode_lower}
use Rattle.text_words.specs.Words.{is_lower_digit, is_bytes_word, or_none, spelled}
use Rattle.text_words.proofs.Spelled.{above, after_at, before_at, digits_of_decimal, number_back, within_at}
use Rattle.guest_digests.specs.Samples.{IsSample}
use Rattle.guest_digests.specs.declared.line.DigestLine.{DigestLine}
use Rattle.digest_text.specs.Fields.{copies_in, counted_in, digest_in, field_in, head_in, is_comma, number_in, row_in, sample_in}
use Rattle.digest_text.specs.Names.{is_name, is_name_byte, name_in}
use Rattle.digest_text.specs.Reread.{IsHead}
use Rattle.digest_text.specs.Written.{counted_text, digest_word, head_text}
use Rattle.digest_text.specs.declared.head.DigestHead.{DigestHead}
use Rattle.digest_text.proofs.Numbers.{are_bytes}
use Rattle.digest_text.proofs.Numbers as numbers

-- bytes of names and of numbers are above 44, and so no comma and no line feed
name_above : (name : List ℕ) → list_all is_name_byte name ≡ true → above 44 name ≡ true
name_above [] h = refl
name_above (b ∷ bs) h =
    let parts = and_parts (is_name_byte b) (list_all is_name_byte bs) h in
    and_from (nat_lt 44 b) (above 44 bs) (byte b parts.0) (name_above bs parts.1)
  where
    byte : (b : ℕ) → is_name_byte b ≡ true → nat_lt 44 b ≡ true
    byte b h = grind (arith, nat_tests)

digits_above : (ds : List ℕ) → all_ascii_digits ds ≡ true → above 44 ds ≡ true
digits_above [] h = refl
digits_above (c ∷ cs) h =
    let parts = tells_all_ascii_digits.parts c cs h in
    and_from (nat_lt 44 c) (above 44 cs) (lt-ltb 44 c (omega (arith, parts.0.0))) (digits_above cs parts.1)

decimal_above : (n : ℕ) → n < 2 ^ 64 → above 44 (decimal n) ≡ true
decimal_above n h = digits_above (decimal n) (digits_of_decimal n h)

-- a test of each of the sixteen digits
sixteen_pass : (p : ℕ → Bool) → list_all p lower_digits ≡ true → (k : ℕ) → k < 16 → p (slice_index lower_digits k) ≡ true
sixteen_pass p all k within = pass lower_digits all k within
  where
    pass : (ds : List ℕ) → list_all p ds ≡ true → (k : ℕ) → k < length ds → p (slice_index ds k) ≡ true
    pass [] h k l = absurd (omega arith)
    pass (d ∷ ds) h zero l = (and_parts (p d) (list_all p ds) h).0
    pass (d ∷ ds) h (suc k) l = pass ds (and_parts (p d) (list_all p ds) h).1 k (omega arith)

-- what all digits pass, a word of such digits passes
word_passes : (p : ℕ → Bool) → list_all p lower_digits ≡ true → (bytes : List ℕ) → IsBytes bytes → list_all p (encode_lower bytes) ≡ true
unfolding encode_with
word_passes p all [] h = refl
word_passes p all (b ∷ bs) h =
    let small : b < 256 = h 0 in
    and_from _ _ (sixteen_pass p all (b / 16) (omega arith)) (and_from _ _ (sixteen_pass p all (b % 16) (omega arith)) (word_passes p all bs (λ k. h (suc k))))

digest_above : (digest : ℕ) → above 44 (digest_word digest) ≡ true
digest_above digest = word_passes (nat_lt 44) refl (to_be_bytes w128 digest) (are_bytes 16 digest)

digest_length : (digest : ℕ) → length (digest_word digest) ≡ 32
digest_length digest = length-encode_with lower_digits (to_be_bytes w128 digest)

-- bytes above 44 before a comma
pub field_back : (word rest : List ℕ) → above 44 word ≡ true → field_in (word ++ 44 ∷ rest) ≡ Some (word, rest)
unfolding field_in
field_back word rest h =
    let free = no_comma word h in
    rw (within_at is_comma word rest 44 free refl, before_at is_comma word rest 44 free refl, after_at is_comma word rest 44 free refl) refl
  where
    no_comma : (word : List ℕ) → above 44 word ≡ true → list_all (λ b. not (is_comma b)) word ≡ true
    no_comma [] h = refl
    no_comma (b ∷ bs) h =
        let parts = and_parts (nat_lt 44 b) (above 44 bs) h in
        let other : (b == 44) ≡ false = let l : 44 < b = ltb-true 44 b parts.0 in ne_eqb b 44 (λ e. omega arith) in
        and_from (not (is_comma b)) _ (ap not other) (no_comma bs parts.1)

number_in_back : (most n : ℕ) → n ≤ most → n < 2 ^ 64 → number_in most (decimal n) ≡ Some n
unfolding number_in
number_in_back most n within fits = rw (number_back most n within fits) refl

sample_back : (n : ℕ) → IsSample n → sample_in (decimal n) ≡ Some n
unfolding sample_in
sample_back n h = rw (number_in_back (2 ^ 16) n h.most (omega (arith, h.most)), h.power) refl

digest_back : (n : ℕ) → n < 2 ^ 128 → digest_in (digest_word n) ≡ Some n
unfolding digest_in
digest_back n fits =
    let bytes = to_be_bytes w128 n in
    let word = digest_word n in
    let long : (length (digest_word n) == 32) ≡ true = eq-eqb (length word) 32 (digest_length n) in
    let of_bytes : is_bytes_word (digest_word n) ≡ true =
    and_from _ _ (and_from _ _ (lt-ltb 0 (length word) (omega (arith, digest_length n))) (eq-eqb (length word % 2) 0 (omega (arith, digest_length n)))) (word_passes is_lower_digit refl bytes (are_bytes 16 n)) in
    let same : spelled (digest_word n) ≡ bytes = ap or_none (decode_of-encode_lower bytes (are_bytes 16 n)) in
    rw (long, of_bytes, same, numbers.number_back n fits) refl

copies_back : (n : ℕ) → 1 ≤ n → n < 2 ^ 64 → copies_in (decimal n) ≡ Some n
unfolding copies_in
copies_back n some fits =
    let other : (n == 0) ≡ false = ne_eqb n 0 (λ e. omega arith) in
    rw (number_in_back (2 ^ 64 - 1) n (omega arith) fits, other) refl

name_back : (name : List ℕ) → is_name name ≡ true → name_in name ≡ Some name
unfolding name_in
name_back name h = rw h refl

name_bytes : (name : List ℕ) → is_name name ≡ true → list_all is_name_byte name ≡ true
name_bytes name h = (and_parts _ (list_all is_name_byte name) h).1

name_length : (name : List ℕ) → is_name name ≡ true → length name ≤ 64
name_length name h =
    let parts = and_parts (nat_lt 0 (length name) && nat_le (length name) 64) (list_all is_name_byte name) h in
    leb-true _ _ (and_parts (nat_lt 0 (length name)) (nat_le (length name) 64) parts.0).1

-- the first four fields and what comes behind them, with no brackets
head_apart : (head : DigestHead) (rest : List ℕ)
    → head_text head ++ rest ≡ head.guest ++ 44 ∷ (decimal head.salt ++ 44 ∷ (decimal head.pages ++ 44 ∷ (decimal head.sample ++ 44 ∷ rest)))
unfolding head_text
head_apart head rest =
    append_assoc head.guest (44 ∷ (decimal head.salt ++ 44 ∷ (decimal head.pages ++ 44 ∷ (decimal head.sample ++ 44 ∷ [])))) rest
    ∙ ap (λ (xs : List ℕ). head.guest ++ 44 ∷ xs) (append_assoc (decimal head.salt) (44 ∷ (decimal head.pages ++ 44 ∷ (decimal head.sample ++ 44 ∷ []))) rest
    ∙ ap (λ (xs : List ℕ). decimal head.salt ++ 44 ∷ xs) (append_assoc (decimal head.pages) (44 ∷ (decimal head.sample ++ 44 ∷ [])) rest
    ∙ ap (λ (xs : List ℕ). decimal head.pages ++ 44 ∷ xs) (append_assoc (decimal head.sample) (44 ∷ []) rest)))

head_back : (head : DigestHead) (rest : List ℕ) → IsHead head → head_in (head_text head ++ rest) ≡ Some (head, rest)
unfolding head_in
head_back head rest h =
    let fourth : List ℕ = decimal head.sample ++ 44 ∷ rest in
    let third : List ℕ = decimal head.pages ++ 44 ∷ fourth in
    let second : List ℕ = decimal head.salt ++ 44 ∷ third in
    let few : head.sample < 2 ^ 64 = omega (arith, h.sample.most) in
    let wide : head.salt < 2 ^ 64 = omega (arith, h.salt) in
    rw (
      head_apart head rest,
      field_back head.guest second (name_above head.guest (name_bytes head.guest h.name)),
      name_back head.guest h.name,
      field_back (decimal head.salt) third (decimal_above head.salt wide),
      number_in_back (2 ^ 32 - 1) head.salt (omega (arith, h.salt)) wide,
      field_back (decimal head.pages) fourth (decimal_above head.pages h.pages),
      number_in_back (2 ^ 64 - 1) head.pages (omega (arith, h.pages)) h.pages,
      field_back (decimal head.sample) rest (decimal_above head.sample few),
      sample_back head.sample h.sample,
    ) refl

-- a line without its line feed
abbrev pub bare : DigestHead → DigestLine → List ℕ
bare head line = head_text head ++ (digest_word line.digest ++ 44 ∷ decimal line.copies)

counted_back : (line : DigestLine) → line.digest < 2 ^ 128 → 1 ≤ line.copies → line.copies < 2 ^ 64 → counted_in (digest_word line.digest ++ 44 ∷ decimal line.copies) ≡ Some line
unfolding counted_in
counted_back line fits some few =
    rw (field_back (digest_word line.digest) (decimal line.copies) (digest_above line.digest), digest_back line.digest fits, copies_back line.copies some few) refl

decimal_short : (n : ℕ) → n < 2 ^ 64 → length (decimal n) ≤ 20
decimal_short n h = length-decimal-le 20 n (omega arith) (omega (arith, h)) h

short_line : (head : DigestHead) (line : DigestLine) → IsHead head → line.copies < 2 ^ 64 → length (bare head line) ≤ 256
short_line head line h few =
    let tail : List ℕ = digest_word line.digest ++ 44 ∷ decimal line.copies in
    let a : length (bare head line) ≡ length (head.guest ++ 44 ∷ (decimal head.salt ++ 44 ∷ (decimal head.pages ++ 44 ∷ (decimal head.sample ++ 44 ∷ tail)))) = ap length (head_apart head tail) in
    let b = length-append head.guest (44 ∷ (decimal head.salt ++ 44 ∷ (decimal head.pages ++ 44 ∷ (decimal head.sample ++ 44 ∷ tail)))) in
    let c = length-append (decimal head.salt) (44 ∷ (decimal head.pages ++ 44 ∷ (decimal head.sample ++ 44 ∷ tail))) in
    let d = length-append (decimal head.pages) (44 ∷ (decimal head.sample ++ 44 ∷ tail)) in
    let e = length-append (decimal head.sample) (44 ∷ tail) in
    let f = length-append (digest_word line.digest) (44 ∷ decimal line.copies) in
    omega (
      arith,
      a,
      b,
      c,
      d,
      e,
      f,
      digest_length line.digest,
      name_length head.guest h.name,
      decimal_short head.salt (omega (arith, h.salt)),
      decimal_short head.pages h.pages,
      decimal_short head.sample (omega (arith, h.sample.most)),
      decimal_short line.copies few,
    )

-- a line is read as the row
pub line_back : (head : DigestHead) (line : DigestLine) → IsHead head → line.digest < 2 ^ 128 → 1 ≤ line.copies → line.copies < 2 ^ 64
    → row_in (bare head line) ≡ Some (record { head = head; line = line })
unfolding row_in
line_back head line h fits some few =
    let short : nat_lt 256 (length (bare head line)) ≡ false = le-ltb 256 _ (short_line head line h few) in
    rw (short, head_back head (digest_word line.digest ++ 44 ∷ decimal line.copies) h, counted_back line fits some few) refl

-- no byte of it is a line feed
not_feed : (bytes : List ℕ) → above 10 bytes ≡ true → list_all (λ b. not (b == 10)) bytes ≡ true
not_feed [] h = refl
not_feed (b ∷ bs) h =
    let parts = and_parts (nat_lt 10 b) (above 10 bs) h in
    let other : (b == 10) ≡ false = let l : 10 < b = ltb-true 10 b parts.0 in ne_eqb b 10 (λ e. omega arith) in
    and_from _ _ (ap not other) (not_feed bs parts.1)

wider : (bytes : List ℕ) → above 44 bytes ≡ true → above 10 bytes ≡ true
wider [] h = refl
wider (b ∷ bs) h =
    let parts = and_parts (nat_lt 44 b) (above 44 bs) h in
    let l : 44 < b = ltb-true 44 b parts.0 in
    and_from _ _ (lt-ltb 10 b (omega arith)) (wider bs parts.1)

-- a word before a comma and more
on_word : (word rest : List ℕ) → above 44 word ≡ true → above 10 rest ≡ true → above 10 (word ++ 44 ∷ rest) ≡ true
on_word word rest h g = list_all-append (nat_lt 10) word (44 ∷ rest) ∙ and_from _ _ (wider word h) g

pub one_line : (head : DigestHead) (line : DigestLine) → IsHead head → line.copies < 2 ^ 64 → list_all (λ b. not (b == 10)) (bare head line) ≡ true
one_line head line h few =
    let tail : List ℕ = digest_word line.digest ++ 44 ∷ decimal line.copies in
    let last : above 10 tail ≡ true = on_word (digest_word line.digest) (decimal line.copies) (digest_above line.digest) (wider (decimal line.copies) (decimal_above line.copies few)) in
    let salt = decimal_above head.salt (omega (arith, h.salt)) in
    let sample = decimal_above head.sample (omega (arith, h.sample.most)) in
    let whole : above 10 (head.guest ++ 44 ∷ (decimal head.salt ++ 44 ∷ (decimal head.pages ++ 44 ∷ (decimal head.sample ++ 44 ∷ tail)))) ≡ true =
    on_word head.guest _ (name_above head.guest (name_bytes head.guest h.name)) (on_word (decimal head.salt) _ salt (on_word (decimal head.pages) _ (decimal_above head.pages h.pages) (on_word (decimal head.sample) _ sample last))) in
    not_feed (bare head line) (ap (above 10) (head_apart head tail) ∙ whole)

-- a line with its line feed, and more behind it
pub line_apart : (head : DigestHead) (line : DigestLine) (rest : List ℕ) → (head_text head ++ counted_text line) ++ rest ≡ bare head line ++ 10 ∷ rest
unfolding counted_text
line_apart head line rest =
    let word : List ℕ = digest_word line.digest in
    let digits : List ℕ = decimal line.copies in
    let left : (head_text head ++ (word ++ 44 ∷ (digits ++ 10 ∷ []))) ++ rest ≡ head_text head ++ (word ++ 44 ∷ (digits ++ 10 ∷ rest)) =
    append_assoc (head_text head) (word ++ 44 ∷ (digits ++ 10 ∷ [])) rest
    ∙ ap (λ (xs : List ℕ). head_text head ++ xs) (append_assoc word (44 ∷ (digits ++ 10 ∷ [])) rest ∙ ap (λ (xs : List ℕ). word ++ 44 ∷ xs) (append_assoc digits (10 ∷ []) rest)) in
    let right : bare head line ++ 10 ∷ rest ≡ head_text head ++ (word ++ 44 ∷ (digits ++ 10 ∷ rest)) =
    append_assoc (head_text head) (word ++ 44 ∷ digits) (10 ∷ rest) ∙ ap (λ (xs : List ℕ). head_text head ++ xs) (append_assoc word (44 ∷ digits) (10 ∷ rest)) in
    left ∙ sym right
