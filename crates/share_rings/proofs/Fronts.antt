-- A close stands last, and once. The lemmas hold for all tests p and q.
use Rattle.std.proofs.Common.{◌≡◌, ◌<◌, Bool, true, false, List, [], ◌∷◌, ◌++◌, length, slice_index_or, refl, ap, sym, subst, arith}
use Rattle.std.proofs.lemmas.Grind.{common_steps}
use Rattle.std.specs.List.{list_any}
use Rattle.share_rings.specs.Closing.{front, last_passes, passes_beside}

pub front_snoc : {X : Type 0} (xs : List X) (x : X) → front (xs ++ x ∷ []) ≡ xs
front_snoc [] x = refl
front_snoc (y ∷ []) x = refl
front_snoc (y ∷ z ∷ zs) x = ap (λ ws. y ∷ ws) (front_snoc (z ∷ zs) x)

pub last_passes_snoc : {X : Type 0} (p : X → Bool) (xs : List X) (x : X) → last_passes p (xs ++ x ∷ []) ≡ p x
last_passes_snoc p [] x = refl
last_passes_snoc p (y ∷ []) x = refl
last_passes_snoc p (y ∷ z ∷ zs) x = last_passes_snoc p (z ∷ zs) x

-- what passes is in a beginning, and passes nowhere but last: nothing stands behind it
pub nothing_left : {X : Type 0} (p : X → Bool) (xs ys : List X) → list_any p (front (xs ++ ys)) ≡ false → list_any p xs ≡ true → ys ≡ []
nothing_left p xs [] h t = refl
nothing_left p [] (y ∷ ys) h t = grind arith
nothing_left p (x ∷ []) (y ∷ ys) h t = grind arith
nothing_left p (x ∷ z ∷ zs) (y ∷ ys) h t = grind (arith, nothing_left p (z ∷ zs) (y ∷ ys))

pub front_begins : {X : Type 0} (p : X → Bool) (xs ys : List X) → list_any p (front (xs ++ ys)) ≡ false → list_any p (front xs) ≡ false
front_begins p [] ys h = refl
front_begins p (x ∷ []) ys h = refl
front_begins p (x ∷ z ∷ zs) ys h = grind (arith, front_begins p (z ∷ zs) ys)

pub any_is_last : {X : Type 0} (p : X → Bool) (xs : List X) → list_any p (front xs) ≡ false → list_any p xs ≡ last_passes p xs
any_is_last p [] h = refl
any_is_last p (x ∷ []) h = grind arith
any_is_last p (x ∷ y ∷ ys) h = grind (arith, any_is_last p (y ∷ ys))

pub any_snoc : {X : Type 0} (p : X → Bool) (xs : List X) (x : X) → list_any p xs ≡ false → list_any p (xs ++ x ∷ []) ≡ p x
any_snoc p [] x h = grind arith
any_snoc p (y ∷ ys) x h = grind (arith, any_snoc p ys x)

pub any_last : {X : Type 0} (p : X → Bool) (xs : List X) (x : X) → p x ≡ true → list_any p (xs ++ x ∷ []) ≡ true
any_last p [] x h = grind arith
any_last p (y ∷ ys) x h = grind (arith, any_last p ys x)

-- the ends of a pair, once both lists have ended
pub all_there : {X : Type 0} (p : X → Bool) (xs ys zs : List X) → xs ++ ys ≡ zs → list_any p (front zs) ≡ false → list_any p xs ≡ true → xs ≡ zs
all_there {X} p xs ys zs e h t =
    let P : List X → Type 0 = λ ws. list_any p (front ws) ≡ false in
    let none : ys ≡ [] = nothing_left p xs ys (subst P (sym e) h) t in
    let q : xs ++ [] ≡ zs = let Q : List X → Type 0 = λ ws. xs ++ ws ≡ zs in subst Q none e in
    grind (arith, common_steps)

-- what a beginning has, it has last
pub any_is_last_within : {X : Type 0} (p : X → Bool) (xs ys zs : List X) → xs ++ ys ≡ zs → list_any p (front zs) ≡ false → list_any p xs ≡ last_passes p xs
any_is_last_within {X} p xs ys zs e h =
    let P : List X → Type 0 = λ ws. list_any p (front ws) ≡ false in
    any_is_last p xs (front_begins p xs ys (subst P (sym e) h))

module _ {X Y : Type 0} (p : X → Bool) (q : Y → Bool) where
  pub beside_more_below : (xs : List X) (ys : List Y) (y : Y) → passes_beside p q xs ys ≡ true → passes_beside p q xs (ys ++ y ∷ []) ≡ true
  beside_more_below [] ys y h = refl
  beside_more_below (x ∷ xs) [] y h = grind arith
  beside_more_below (x ∷ xs) (z ∷ zs) y h = grind (arith, beside_more_below xs zs y)

  pub beside_more : (xs : List X) (ys : List Y) (x : X) → passes_beside p q xs ys ≡ true → length xs < length ys → ((d : Y) → p x ≡ q (slice_index_or ys (length xs) d)) → passes_beside p q (xs ++ x ∷ []) ys ≡ true
  beside_more [] [] x h l e = absurd (omega arith)
  beside_more [] (y ∷ ys) x h l e = let k = e y in grind arith
  beside_more (w ∷ ws) [] x h l e = absurd (omega arith)
  beside_more (w ∷ ws) (y ∷ ys) x h l e = let k : length ws < length ys = omega arith in grind (arith, beside_more ws ys x)

  -- while ys is longer, none of xs passes
  pub beside_shorter : (xs : List X) (ys : List Y) → passes_beside p q xs ys ≡ true → length xs < length ys → list_any q (front ys) ≡ false → list_any p xs ≡ false
  beside_shorter [] ys h l f = refl
  beside_shorter (x ∷ xs) [] h l f = absurd (omega arith)
  beside_shorter (x ∷ []) (y ∷ []) h l f = absurd (omega arith)
  beside_shorter (x ∷ w ∷ ws) (y ∷ []) h l f = absurd (omega arith)
  beside_shorter (x ∷ xs) (y ∷ z ∷ zs) h l f = let k : length xs < length (z ∷ zs) = omega arith in grind (arith, beside_shorter xs (z ∷ zs))

  pub beside_front : (xs : List X) (ys : List Y) → passes_beside p q xs ys ≡ true → list_any q (front ys) ≡ false → list_any p (front xs) ≡ false
  beside_front [] ys h f = refl
  beside_front (x ∷ []) ys h f = refl
  beside_front (x ∷ w ∷ ws) [] h f = grind arith
  beside_front (x ∷ w ∷ ws) (y ∷ []) h f = grind arith
  beside_front (x ∷ w ∷ ws) (y ∷ z ∷ zs) h f = grind (arith, beside_front (w ∷ ws) (z ∷ zs))

  pub beside_has : (xs : List X) (ys : List Y) → passes_beside p q xs ys ≡ true → list_any p xs ≡ true → list_any q ys ≡ true
  beside_has [] ys h t = grind arith
  beside_has (x ∷ xs) [] h t = grind arith
  beside_has (x ∷ xs) (y ∷ ys) h t = grind (arith, beside_has xs ys)
