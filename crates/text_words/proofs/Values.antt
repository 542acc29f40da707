-- Numbers as words.
use Rattle.std.proofs.Common.{◌≡◌, ℕ, ◌+◌, ◌-◌, ◌*◌, ◌<◌, ◌≤◌, suc, Bool, true, false, ◌&&◌, List, [], ◌∷◌, length, refl, ap, arith, get_or, drop, nat_le, Err}
use Rattle.std.proofs.lemmas.Bool.{lt-leb}
use Rattle.std.proofs.Math.Seq.{drop-cons}
use Rattle.text_words.specs.Words.{value_on, number_to}
use Rattle.text_words.specs.declared.fault.Cause.TheVariants.{Form}

-- more digits make no smaller number
pub value_on-le : (n : ℕ) (cs : List ℕ) → n ≤ value_on n cs
value_on-le n [] = omega arith
value_on-le n (c ∷ cs) = omega (arith, value_on-le (10 * n + (c - 48)) cs)

both_false : (a : Bool) → (a && false) ≡ false
both_false true = refl
both_false false = refl

-- a number that grew above the most is none
pub too_large : (most n : ℕ) (word rest : List ℕ) → value_on n rest ≡ value_on 0 word → most < n → number_to most word ≡ Err Form
unfolding number_to
too_large most n word rest same above =
    let grown : n ≤ value_on n rest = value_on-le n rest in
    let big : most < value_on 0 word = omega arith in
    let test : nat_le (value_on 0 word) most ≡ false = lt-leb (value_on 0 word) most big in
    rw (test, both_false) refl

-- the digit at a place, and the rest
pub value_at : (n i : ℕ) (word : List ℕ) → i < length word → value_on n (drop i word) ≡ value_on (10 * n + (get_or word i 0 - 48)) (drop (suc i) word)
value_at n i word h = ap (value_on n) (drop-cons word i 0 h)
