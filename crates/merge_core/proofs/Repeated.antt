-- Lists of equal elements, and what they are viewed as.
use Rattle.std.proofs.Common.{◌≡◌, ℕ, zero, suc, List, ◌∷◌, replicate, map, refl, ap}

pub map_equal : {X Y : Type 0} (f : X → Y) (n : ℕ) (x : X) → map f (replicate n x) ≡ replicate n (f x)
map_equal f zero x = refl
map_equal {X} {Y} f (suc n) x = ap (λ (rest : List Y). f x ∷ rest) (map_equal f n x)
