-- Two lists, each seen by a function of its own.
use Rattle.std.proofs.Common.{◌≡◌, ℕ, zero, suc, ◌<◌, ◌≤◌, Bool, false, not, None, Some, List, [], ◌∷◌, ◌++◌, length, get_or, set, slice_get, refl, ap, sym, ◌∙◌, arith}
use Rattle.std.specs.Prelude.{map}
use Rattle.std.specs.List.{position, prefix_len}
use Rattle.std.proofs.Math.Seq.{map-set_same}
use Rattle.std.proofs.lemmas.List.{length-map, map_push}
use Rattle.std.proofs.lemmas.List.Quantifiers.{position-Some}
use Rattle.std.proofs.lemmas.Bool.{not-true}
use Rattle.std.proofs.lemmas.Bool.Decides.{nat_tests}
use Rattle.std.proofs.lemmas.List.Sums.{prefix_len_passes}

pub maps_length : {X Y Z : Type 0} (f : X → Z) (g : Y → Z) (xs : List X) (ys : List Y) → map f xs ≡ map g ys → length xs ≡ length ys
maps_length f g xs ys e = sym (length-map xs f) ∙ (ap length e ∙ length-map ys g)

-- they agree at each place
pub maps_at : {X Y Z : Type 0} (f : X → Z) (g : Y → Z) (xs : List X) (ys : List Y) (i : ℕ) (x : X) (y : Y) → map f xs ≡ map g ys → i < length xs → f (get_or xs i x) ≡ g (get_or ys i y)
maps_at f g [] ys i x y e l = absurd (omega arith)
maps_at f g (a ∷ cs) [] i x y e l = cc
maps_at f g (a ∷ cs) (b ∷ bs) zero x y e l = cc
maps_at f g (a ∷ cs) (b ∷ bs) (suc i) x y e l = let t : map f cs ≡ map g bs = cc in maps_at f g cs bs i x y t (omega arith)

-- an element is replaced by one with the same image under f
pub map_put : {X Y : Type 0} (f : X → Y) (xs : List X) (i : ℕ) (x y : X) → x ≡ get_or xs i x → f y ≡ f x → map f (set xs i y) ≡ map f xs
map_put f xs i x y at e = map-set_same f xs i y x (e ∙ ap f at)

prefix_len_views : {X Y : Type 0} (f : X → Y) (p : Y → Bool) (xs ys : List X) → map f xs ≡ map f ys → prefix_len (λ x. p (f x)) xs ≡ prefix_len (λ x. p (f x)) ys
prefix_len_views f p [] [] e = refl
prefix_len_views f p [] (y ∷ ys) e = cc
prefix_len_views f p (x ∷ xs) [] e = cc
prefix_len_views f p (x ∷ xs) (y ∷ ys) e =
    let h : f x ≡ f y = cc in let t : map f xs ≡ map f ys = cc in let r = prefix_len_views f p xs ys t in grind (arith, ap p h)

-- the first that passes a test of what f sees
pub position_views : {X Y : Type 0} (f : X → Y) (p : Y → Bool) (xs ys : List X) → map f xs ≡ map f ys → position (λ x. p (f x)) xs ≡ position (λ x. p (f x)) ys
position_views f p xs ys e = rw (prefix_len_views f (λ y. not (p y)) xs ys e, maps_length f f xs ys e)

prefix_len_alike : {X : Type 0} (p q : X → Bool) (xs : List X) → ((i : ℕ) (d : X) → i < length xs → p (get_or xs i d) ≡ q (get_or xs i d)) → prefix_len (λ x. not (p x)) xs ≡ prefix_len (λ x. not (q x)) xs
prefix_len_alike p q [] alike = refl
prefix_len_alike p q (x ∷ xs) alike =
    let first : p x ≡ q x = alike zero x (omega arith) in
    let rest = prefix_len_alike p q xs (λ i d l. alike (suc i) d (omega arith)) in grind (arith, first)

-- the first that passes either of two tests that agree at each place
pub position_alike : {X : Type 0} (p q : X → Bool) (xs : List X) → ((i : ℕ) (d : X) → i < length xs → p (get_or xs i d) ≡ q (get_or xs i d)) → position p xs ≡ position q xs
position_alike p q xs alike = rw (prefix_len_alike p q xs alike) refl

-- where none passes, the test fails at each place
pub none_passes : {X : Type 0} (p : X → Bool) (xs : List X) (i : ℕ) (d : X) → position p xs ≡ None → i < length xs → p (get_or xs i d) ≡ false
none_passes p xs i d e l =
    let b : length xs ≤ prefix_len (λ x. not (p x)) xs = grind (arith, nat_tests) in
    not-true _ (prefix_len_passes (λ x. not (p x)) xs i d (omega arith))

pub some_of : {X : Type 0} (xs : List X) → 0 < length xs → X
some_of [] l = absurd (omega arith)
some_of (x ∷ xs) l = x

-- the element at a place
pub get_at : {X : Type 0} (xs : List X) (i : ℕ) (x : X) → x ≡ get_or xs i x → i < length xs → slice_get xs i ≡ Some x
get_at [] i x e l = absurd (omega arith)
get_at (y ∷ ys) zero x e l = ap Some (sym e)
get_at (y ∷ ys) (suc i) x e l = get_at ys i x e (omega arith)

pub set_same : {X : Type 0} (xs : List X) (i : ℕ) (x : X) → x ≡ get_or xs i x → set xs i x ≡ xs
set_same [] i x e = refl
set_same (y ∷ ys) zero x e = ap (λ z. z ∷ ys) e
set_same (y ∷ ys) (suc i) x e = ap (λ zs. y ∷ zs) (set_same ys i x e)

pub last_at : {X : Type 0} (xs : List X) (x d : X) → x ≡ get_or (xs ++ x ∷ []) (length xs) d
last_at [] x d = refl
last_at (y ∷ ys) x d = last_at ys x d

-- one more of both
pub pushed_alike : {X Y Z : Type 0} (f : X → Z) (g : Y → Z) (xs : List X) (ys : List Y) (x : X) (y : Y) → map f xs ≡ map g ys → f x ≡ g y → map f (xs ++ x ∷ []) ≡ map g (ys ++ y ∷ [])
pushed_alike f g xs ys x y e h = map_push f xs x ∙ (ap (λ zs. zs ++ f x ∷ []) e ∙ (ap (λ z. map g ys ++ z ∷ []) h ∙ sym (map_push g ys y)))

-- the first that passes is one of the list
pub position-below : {X : Type 0} (p : X → Bool) (xs : List X) (i : ℕ) → position p xs ≡ Some i → i < length xs
position-below p [] i e = cc
position-below p (x ∷ xs) i e = (position-Some p (x ∷ xs) i x e).0
