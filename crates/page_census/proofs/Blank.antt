-- All bits of a page together are 0 exactly where the page is zeros.
use Rattle.std.proofs.Common.{◌≡◌, ℕ, Bool, true, false, ◌&&◌, List, [], ◌∷◌, length, replicate, eqb, bit_or, refl, ap, subst, ◌∙◌, arith}
use Rattle.std.proofs.lemmas.Bool.{eqb-true, eqb-false, ne_eqb}
use Rattle.std.proofs.lemmas.Nat.{le_or_l, le_or_r}
use Rattle.std.specs.List.{fold}
use Rattle.std.specs.Str.{bytes_eq}
use Rattle.page_model.specs.Pages.{blank}
use Rattle.page_model.specs.declared.limits.TheConstants.{PAGE_BYTES}

-- the bits that stand in some byte
abbrev pub all_bits : List ℕ → ℕ
all_bits bytes = fold (λ bits byte. bit_or bits byte) 0 bytes

or_zero : (a b : ℕ) → eqb (bit_or a b) 0 ≡ (eqb a 0 && eqb b 0)
or_zero a b = pick (eqb a 0) (eqb b 0) refl refl
  where
    pick : (s t : Bool) → eqb a 0 ≡ s → eqb b 0 ≡ t → eqb (bit_or a b) 0 ≡ (s && t)
    pick true true e f = rw (eqb-true a 0 e, eqb-true b 0 f) refl
    pick true false e f = ne_eqb (bit_or a b) 0 (λ z. eqb-false b 0 f (omega (arith, z, le_or_r a b)))
    pick false t e f = ne_eqb (bit_or a b) 0 (λ z. eqb-false a 0 e (omega (arith, z, le_or_l a b)))

and_assoc : (a b c : Bool) → ((a && b) && c) ≡ (a && (b && c))
and_assoc true b c = refl
and_assoc false b c = refl

no_bits_from : (bits : ℕ) (bytes : List ℕ) → eqb (fold (λ so_far byte. bit_or so_far byte) bits bytes) 0 ≡ (eqb bits 0 && bytes_eq bytes (replicate (length bytes) 0))
no_bits_from bits [] = last (eqb bits 0)
  where
    last : (t : Bool) → t ≡ (t && true)
    last true = refl
    last false = refl
no_bits_from bits (byte ∷ bytes) =
    let rest = bytes_eq bytes (replicate (length bytes) 0) in
    no_bits_from (bit_or bits byte) bytes ∙ ap (λ (t : Bool). t && rest) (or_zero bits byte) ∙ and_assoc (eqb bits 0) (eqb byte 0) rest

zeros_of : (n : ℕ) (bytes : List ℕ) → length bytes ≡ n → eqb (all_bits bytes) 0 ≡ bytes_eq bytes (replicate n 0)
zeros_of n bytes e = let P : ℕ → Type 0 = λ n. eqb (all_bits bytes) 0 ≡ bytes_eq bytes (replicate n 0) in subst P e (no_bits_from 0 bytes)

pub no_bits : (bytes : List ℕ) → length bytes ≡ PAGE_BYTES → eqb (all_bits bytes) 0 ≡ bytes_eq bytes blank
unfolding blank
no_bits bytes e = zeros_of PAGE_BYTES bytes e
