-- A number of 128 bits as bytes, and back.
use Rattle.std.proofs.Common.{◌≡◌, ℕ, zero, suc, ◌+◌, ◌*◌, ◌/◌, ◌^◌, ◌<◌, [], ◌∷◌, sym, ap, ◌∙◌, arith}
use Rattle.std.specs.Int.{bytes_high_first, byte_at, from_be_bytes, to_be_bytes, w128}
use Rattle.hex.specs.Hex.{IsBytes}

small_byte : (k n : ℕ) → byte_at k n < 256
small_byte zero n = omega arith
small_byte (suc k) n = omega arith

pub are_bytes : (k n : ℕ) → IsBytes (bytes_high_first k n)
are_bytes zero n i = omega arith
are_bytes (suc k) n zero = small_byte k n
are_bytes (suc k) n (suc i) = are_bytes k n i

-- the value of eight digits to base 256, the lowest first, with a number above them
abbrev on_eight : (a b c d e f g h high : ℕ) → ℕ
on_eight a b c d e f g h high = a + 256 * (b + 256 * (c + 256 * (d + 256 * (e + 256 * (f + 256 * (g + 256 * (h + 256 * high)))))))

-- a number is what divisions by 256 leave of it, eight times
eight_off : (n a b c d e f g h p q r s t u v w : ℕ) → n ≡ a + 256 * p → p ≡ b + 256 * q → q ≡ c + 256 * r → r ≡ d + 256 * s
    → s ≡ e + 256 * t → t ≡ f + 256 * u → u ≡ g + 256 * v → v ≡ h + 256 * w → n ≡ on_eight a b c d e f g h w
eight_off n a b c d e f g h p q r s t u v w i j k l m o x y = omega arith

-- bytes of a number and of what is above its eight lowest ones, added up with the highest first
turned : (a b c d e f g h i j k l m n o p : ℕ) → from_be_bytes w128 (p ∷ o ∷ n ∷ m ∷ l ∷ k ∷ j ∷ i ∷ h ∷ g ∷ f ∷ e ∷ d ∷ c ∷ b ∷ a ∷ []) ≡ on_eight a b c d e f g h (on_eight i j k l m n o p 0)
turned a b c d e f g h i j k l m n o p = omega arith

pub number_back : (n : ℕ) → n < 2 ^ 128 → from_be_bytes w128 (to_be_bytes w128 n) ≡ n
number_back n fits =
    let low : n ≡ on_eight (byte_at 0 n) (byte_at 1 n) (byte_at 2 n) (byte_at 3 n) (byte_at 4 n) (byte_at 5 n) (byte_at 6 n) (byte_at 7 n) (n / 256 ^ 8) =
    eight_off n _ _ _ _ _ _ _ _ (n / 256) (n / 256 ^ 2) (n / 256 ^ 3) (n / 256 ^ 4) (n / 256 ^ 5) (n / 256 ^ 6) (n / 256 ^ 7) _ (omega arith) (omega arith) (omega arith) (omega arith) (omega arith) (omega arith) (omega arith) (omega arith) in
    let high : n / 256 ^ 8 ≡ on_eight (byte_at 8 n) (byte_at 9 n) (byte_at 10 n) (byte_at 11 n) (byte_at 12 n) (byte_at 13 n) (byte_at 14 n) (byte_at 15 n) 0 =
    eight_off (n / 256 ^ 8) _ _ _ _ _ _ _ _ (n / 256 ^ 9) (n / 256 ^ 10) (n / 256 ^ 11) (n / 256 ^ 12) (n / 256 ^ 13) (n / 256 ^ 14) (n / 256 ^ 15) 0 (omega arith) (omega arith) (omega arith) (omega arith) (omega arith) (omega arith) (omega arith) (omega arith) in
    turned (byte_at 0 n) (byte_at 1 n) (byte_at 2 n) (byte_at 3 n) (byte_at 4 n) (byte_at 5 n) (byte_at 6 n) (byte_at 7 n) (byte_at 8 n) (byte_at 9 n) (byte_at 10 n) (byte_at 11 n) (byte_at 12 n) (byte_at 13 n) (byte_at 14 n) (byte_at 15 n)
    ∙ ap (on_eight (byte_at 0 n) (byte_at 1 n) (byte_at 2 n) (byte_at 3 n) (byte_at 4 n) (byte_at 5 n) (byte_at 6 n) (byte_at 7 n)) (sym high)
    ∙ sym low
