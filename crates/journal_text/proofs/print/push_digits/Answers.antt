use Rattle.std.proofs.Common.{◌≡◌, ℕ, zero, suc, List, [], ◌∷◌, nat_lt, true, refl, arith}
use Rattle.std.specs.List.{list_all}
use Rattle.std.specs.Str.{IsAscii, IsUtf8}
use Rattle.std.proofs.lemmas.Bool.{and_parts, ltb-true}
use Rattle.std.proofs.lemmas.Str.{IsUtf8-from_ascii}
use Rattle.hex.specs.Hex.{lower_digits, encode_lower}
use Rattle.hex.proofs.HexLemmas.{IsAscii-encode_with}
use Rattle.journal_text.proofs.print.push_digits.Goals as goal

ascii_from : (bs : List ℕ) → list_all (λ b. nat_lt b 128) bs ≡ true → IsAscii bs
ascii_from [] h i = omega arith
ascii_from (b ∷ bs) h zero = ltb-true b 128 (and_parts (nat_lt b 128) (list_all (λ c. nat_lt c 128) bs) h).0
ascii_from (b ∷ bs) h (suc i) = ascii_from bs (and_parts (nat_lt b 128) (list_all (λ c. nat_lt c 128) bs) h).1 i

lower_ascii : IsAscii lower_digits
lower_ascii = ascii_from lower_digits refl

pub unreachable-requires : goal.unreachable-requires
unreachable-requires g c =
    let text : IsUtf8 (encode_lower c.args.bytes.now) = IsUtf8-from_ascii _ (IsAscii-encode_with lower_digits c.args.bytes.now lower_ascii) in
    c.in-Err.ensures.cases.0 (rw c.spell.ensures text)
