-- Bytes as words.
use Rattle.std.proofs.Common.{◌≡◌, ℕ, ◌*◌, ◌%◌, true, ◌&&◌, List, [], ◌∷◌, length, refl, sym, ap, ◌∙◌, arith, nat_lt, ◌==◌, Ok}
use Rattle.std.specs.List.{list_all, AllPass}
use Rattle.std.proofs.lemmas.Bool.{and_parts, and_from, eqb-true}
use Rattle.std.proofs.lemmas.Bool.Decides.{nat_tests}
use Rattle.std.proofs.lemmas.List.Sums.{AllPass-from_list_all}
use Rattle.hex.specs.Hex.{decode_of, is_hex_digit}
use Rattle.hex.proofs.HexLemmas.{decode_of-digits, decode_of-ok}
use Rattle.text_words.specs.Words.{is_lower_digit, is_bytes_word, spelled, or_none}

-- a lower case digit is a digit
lower_is_hex : (c : ℕ) → is_lower_digit c ≡ true → is_hex_digit c ≡ true
lower_is_hex c h = grind (arith, nat_tests)

all_hex : (word : List ℕ) → list_all is_lower_digit word ≡ true → list_all is_hex_digit word ≡ true
all_hex [] h = refl
all_hex (c ∷ cs) h =
    let parts = and_parts (is_lower_digit c) (list_all is_lower_digit cs) h in
    and_from (is_hex_digit c) (list_all is_hex_digit cs) (lower_is_hex c parts.0) (all_hex cs parts.1)

-- a word of bytes decodes, two digits for each byte
pub spelled_is : (word : List ℕ) → is_bytes_word word ≡ true → (decode_of word ≡ Ok (spelled word)) × (length word ≡ 2 * length (spelled word))
spelled_is word h =
    let parts = and_parts (nat_lt 0 (length word) && (length word % 2 == 0)) (list_all is_lower_digit word) h in
    let even : length word % 2 ≡ 0 = eqb-true (length word % 2) 0 (and_parts (nat_lt 0 (length word)) (length word % 2 == 0) parts.0).1 in
    let digits : AllPass is_hex_digit word = AllPass-from_list_all is_hex_digit word (all_hex word parts.1) in
    let found = decode_of-digits word even digits in
    let value : spelled word ≡ found.0 = ap or_none found.1 in
    let facts = decode_of-ok word found.0 found.1 in
    let whole : decode_of word ≡ Ok (spelled word) = found.1 ∙ ap Ok (sym value) in
    let long : length word ≡ 2 * length (spelled word) = facts.2 ∙ ap (λ (bytes : List ℕ). 2 * length bytes) (sym value) in
    (whole, long)
