-- Parts, and what they give.
use Rattle.std.proofs.Common.{◌≡◌, ℕ, ◌+◌, ◌*◌, ◌/◌, ◌%◌, min, ◌<◌, ◌≤◌, List, ◌∷◌, ◌++◌, length, get_or, refl, ap, sym, ◌∙◌, arith, length-append}
use Rattle.std.proofs.lemmas.List.{get_or_at}
use Rattle.std.proofs.Math.Nat.{mul-le-mul_left}
use Rattle.std.proofs.lemmas.Grind.{div_ceil_times}

-- what holds of each element of a list holds of the one that comes after those before it
pub at_next : {X : Type 0} (P : ℕ → X → Type 0) (before rest all : List X) (x : X) → before ++ x ∷ rest ≡ all
    → ((k : ℕ) (d : X) → k < length all → P k (get_or all k d)) → P (length before) x
at_next {X = X} P before rest all x e each =
    let within : length before < length all = omega (arith, ap length e, length-append before (x ∷ rest)) in
    let here : get_or all (length before) x ≡ x = ap (λ (xs : List X). get_or xs (length before) x) (sym e) ∙ get_or_at before x rest x (length before) refl in
    rw here at (each (length before) x within)

-- parts of a size that are as many as are needed hold all
pub parts_hold : (count size parts : ℕ) → 0 < size → parts ≡ count / size + min 1 (count % size) → count ≤ size * parts
parts_hold count size parts some e = let whole = (div_ceil_times count size some).0 in rw e (omega (arith, whole))

-- and each of them has a page
pub part_has : (count size parts n : ℕ) → 0 < size → parts ≡ count / size + min 1 (count % size) → n < parts → size * n < count
part_has count size parts n some e lt =
    let most : (count / size + min 1 (count % size)) * size < count + size = (div_ceil_times count size some).1 in
    let more : size * (n + 1) ≤ size * (count / size + min 1 (count % size)) = mul-le-mul_left {m = n + 1} {n = count / size + min 1 (count % size)} size (omega (arith, e, lt)) in
    omega (arith, most, more)
