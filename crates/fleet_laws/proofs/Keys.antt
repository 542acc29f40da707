-- What is counted of things is what is counted of their keys.
use Rattle.std.proofs.Common.{◌≡◌, ℕ, Bool, true, false, cond, List, [], ◌∷◌, ◌++◌, length, map, eqb, refl, ap, ◌∙◌, sym}
use Rattle.std.specs.Prelude.{All, count_by, filter}
use Rattle.std.specs.List.{list_any}
use Rattle.std.proofs.lemmas.List.{drop_at, take_at}
use Rattle.std.proofs.lemmas.List.Elements.{All-drop, All-head, All-tail, All-take}
use Rattle.std.proofs.lemmas.List.Sums.{sum_by-cons}
use Rattle.page_census.specs.Numbers.{copies, distinct}

-- what holds of all in two lists holds of all in each
pub in_both : {X : Type 0} (P : X → Type 0) (xs ys : List X) → All P (xs ++ ys) → All P xs × All P ys
in_both P xs ys all =
    let front : All P xs = let t = All-take P (length xs) (xs ++ ys) all in rw (take_at xs ys (length xs) refl) at t in
    let rest : All P ys = let t = All-drop P (length xs) (xs ++ ys) all in rw (drop_at xs ys (length xs) refl) at t in
    (front, rest)

-- two things are the same exactly where their keys are
module _ {X : Type 0} (P : X → Type 0) (same : X → X → Bool) (key : X → ℕ) (agree : (a b : X) → P a → P b → same a b ≡ eqb (key a) (key b)) where
  pub copies_by : (x : X) → P x → (xs : List X) → All P xs → copies same x xs ≡ copies eqb (key x) (map key xs)
  copies_by x px [] ps = refl
  copies_by x px (y ∷ ys) ps =
      sum_by-cons (λ (z : X). cond (same x z) 1 0) y ys
      ∙ rw (agree x y px (All-head P y ys ps), copies_by x px ys (All-tail P y ys ps)) (sym (sum_by-cons (λ (k : ℕ). cond (eqb (key x) k) 1 0) (key y) (map key ys)))

  any_by : (x : X) → P x → (xs : List X) → All P xs → list_any (same x) xs ≡ list_any (eqb (key x)) (map key xs)
  any_by x px [] ps = refl
  any_by x px (y ∷ ys) ps = rw (agree x y px (All-head P y ys ps), any_by x px ys (All-tail P y ys ps)) refl

  pub distinct_by : (xs : List X) → All P xs → distinct same xs ≡ distinct eqb (map key xs)
  distinct_by [] ps = refl
  distinct_by (x ∷ xs) ps =
      let later = All-tail P x xs ps in
      rw (any_by x (All-head P x xs ps) xs later, distinct_by xs later) refl

-- what passes is known by the keys
module _ {X : Type 0} (key : X → ℕ) (p : X → Bool) (q : ℕ → Bool) where
  abbrev pub Agrees : X → Type 0
  Agrees x = p x ≡ q (key x)

  kept : (t : Bool) (x : X) (ys : List X) (ks : List ℕ) → map key ys ≡ ks → map key (cond t (x ∷ ys) ys) ≡ cond t (key x ∷ ks) ks
  kept true x ys ks e = ap (λ (ms : List ℕ). key x ∷ ms) e
  kept false x ys ks e = e

  pub filter_by : (xs : List X) → All Agrees xs → map key (filter p xs) ≡ filter q (map key xs)
  filter_by [] agree = refl
  filter_by (x ∷ xs) agree =
      let rest : List ℕ = filter q (map key xs) in
      kept (p x) x (filter p xs) rest (filter_by xs (All-tail Agrees x xs agree)) ∙ ap (λ (t : Bool). cond t (key x ∷ rest) rest) (All-head Agrees x xs agree)

  pub passing_by : (xs : List X) → All Agrees xs → count_by p xs ≡ count_by q (map key xs)
  passing_by [] agree = refl
  passing_by (x ∷ xs) agree =
      let here : p x ≡ q (key x) = All-head Agrees x xs agree in
      sum_by-cons (λ (y : X). cond (p y) 1 0) x xs
      ∙ rw (here, passing_by xs (All-tail Agrees x xs agree)) (sym (sum_by-cons (λ (k : ℕ). cond (q k) 1 0) (key x) (map key xs)))
