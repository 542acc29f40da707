-- Lists that go on with equal elements.
use Rattle.std.proofs.Common.{◌≡◌, ◌+◌, ◌-◌, ◌++◌, ◌<◌, ◌≤◌, ◌∙◌, ℕ, List, length, replicate, set, ap, sym, arith, append_assoc}
use Rattle.std.proofs.lemmas.List.{replicate-append-replicate, set-append_left, length-replicate, length-append, length-set}

-- this list, and equal elements up to a length
abbrev pub padded : {X : Type 0} → ℕ → X → List X → List X
padded len rest xs = xs ++ replicate (len - length xs) rest

pub length-padded : {X : Type 0} (len : ℕ) (rest : X) (xs : List X) → length xs ≤ len → length (padded len rest xs) ≡ len
length-padded len rest xs few = omega (arith, few, length-append xs (replicate (len - length xs) rest), length-replicate (len - length xs) rest)

-- an element is set in the list, which was lengthened before, or in all of it
set_within : {X : Type 0} (xs : List X) (j k n : ℕ) (rest v : X) → n < length xs + j → set (xs ++ replicate j rest) n v ++ replicate k rest ≡ set (xs ++ replicate (j + k) rest) n v
set_within {X} xs j k n rest v l =
    let ys : List X = replicate j rest in
    let zs : List X = replicate k rest in
    let parts : xs ++ replicate (j + k) rest ≡ (xs ++ ys) ++ zs = ap (λ (more : List X). xs ++ more) (sym (replicate-append-replicate j k rest)) ∙ sym (append_assoc xs ys zs) in
    sym (ap (λ (all : List X). set all n v) parts ∙ set-append_left (xs ++ ys) zs n v (omega (arith, l, length-append xs ys, length-replicate j rest)))

-- the list was lengthened up to an element, and that one set
pub set_reached : {X : Type 0} (len : ℕ) (old new : List X) (n : ℕ) (rest v : X) → length old ≤ len → n < length (padded len rest old) →
    new ≡ old ++ replicate (n + 1 - length old) rest → padded len rest (set new n v) ≡ set (padded len rest old) n v
set_reached {X} len old new n rest v few l made =
    let j : ℕ = n + 1 - length old in
    let k : ℕ = len - (length old + j) in
    let within : n < len = omega (arith, l, length-padded len rest old few) in
    let size : length (set (old ++ replicate j rest) n v) ≡ length old + j = omega (arith, length-set (old ++ replicate j rest) n v, length-append old (replicate j rest), length-replicate j rest) in
    let whole : j + k ≡ len - length old = omega (arith, within, few) in
    ap (λ (xs : List X). padded len rest (set xs n v)) made
    ∙ (ap (λ (m : ℕ). set (old ++ replicate j rest) n v ++ replicate (len - m) rest) size
    ∙ (set_within old j k n rest v (omega (arith))
    ∙ ap (λ (m : ℕ). set (old ++ replicate m rest) n v) whole))
