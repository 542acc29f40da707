-- Sums of so many numbers from one on.
use Rattle.std.proofs.Common.{◌≡◌, ◌∙◌, ℕ, zero, suc, ◌+◌, ◌-◌, ◌<◌, ◌≤◌, refl, ap, sym, subst, arith}
use Rattle.window_tables.specs.Mappings.{sum_from}

after : (n : ℕ) → suc n ≡ n + 1
after n = omega arith

pub sum_more : (f : ℕ → ℕ) (first n : ℕ) → sum_from f first (n + 1) ≡ sum_from f first n + f (first + n)
sum_more f first n = subst (λ m. sum_from f first m ≡ sum_from f first n + f (first + n)) (after n) refl

none_more : (n : ℕ) → n ≡ n + 0
none_more n = omega arith

one_more : (m k : ℕ) → suc (m + k) ≡ m + suc k
one_more m k = omega arith

-- the first ones, and the rest
pub sum_split : (f : ℕ → ℕ) (a m k b : ℕ) → a + m ≡ b → sum_from f a (m + k) ≡ sum_from f a m + sum_from f b k
sum_split f a m zero b e = subst (λ j. sum_from f a j ≡ sum_from f a m + 0) (none_more m) (none_more (sum_from f a m))
sum_split f a m (suc k) b e =
    let here : f (a + (m + k)) ≡ f (b + k) = ap f (omega (arith, e)) in
    subst (λ j. sum_from f a j ≡ sum_from f a m + (sum_from f b k + f (b + k))) (one_more m k)
    (omega (arith, here, sum_split f a m k b e))

-- zeros
pub sum_none : (f : ℕ → ℕ) (a n : ℕ) → ((i : ℕ) → a ≤ i → i < a + n → f i ≡ 0) → sum_from f a n ≡ 0
sum_none f a zero h = refl
sum_none f a (suc n) h = omega (arith, sum_none f a n (λ i p q. h i p (omega (arith, q))), h (a + n) (omega arith) (omega arith))

-- zeros from one place on
pub sum_enough : (f : ℕ → ℕ) (a m n : ℕ) → m ≤ n → ((i : ℕ) → a + m ≤ i → i < a + n → f i ≡ 0) → sum_from f a n ≡ sum_from f a m
sum_enough f a m n l h =
    let all : m + (n - m) ≡ n = omega (arith, l) in
    let rest : sum_from f (a + m) (n - m) ≡ 0 = sum_none f (a + m) (n - m) (λ i p q. h i p (omega (arith, q, l))) in
    sym (ap (λ k. sum_from f a k) all) ∙ omega (arith, rest, sum_split f a m (n - m) (a + m) refl)

-- the same numbers
pub sum_same : (f g : ℕ → ℕ) (a n : ℕ) → ((i : ℕ) → a ≤ i → i < a + n → f i ≡ g i) → sum_from f a n ≡ sum_from g a n
sum_same f g a zero h = refl
sum_same f g a (suc n) h =
    omega (arith, sum_same f g a n (λ i p q. h i p (omega (arith, q))), h (a + n) (omega arith) (omega arith))

-- numbers that are 0 or 1
pub sum_most : (f : ℕ → ℕ) (a n : ℕ) → ((i : ℕ) → f i ≤ 1) → sum_from f a n ≤ n
sum_most f a zero h = omega arith
sum_most f a (suc n) h = omega (arith, sum_most f a n h, h (a + n))

-- a number with nothing but zeros behind it
pub sum_one : (f : ℕ → ℕ) (a n : ℕ) → 0 < n → ((i : ℕ) → a + 1 ≤ i → i < a + n → f i ≡ 0) → sum_from f a n ≡ f a
sum_one f a n l h =
    let all : 1 + (n - 1) ≡ n = omega (arith, l) in
    let rest : sum_from f (a + 1) (n - 1) ≡ 0 = sum_none f (a + 1) (n - 1) (λ i p q. h i p (omega (arith, q, l))) in
    let here : f (a + 0) ≡ f a = ap f (omega arith) in
    sym (ap (λ k. sum_from f a k) all) ∙ omega (arith, rest, here, sum_split f a 1 (n - 1) (a + 1) refl)

pub sum_next : (f : ℕ → ℕ) (a n : ℕ) → 0 < n → ((i : ℕ) → a + 1 ≤ i → i < a + n → f i ≡ 0) → sum_from f 0 (a + n) ≡ sum_from f 0 a + f a
sum_next f a n l h = sum_split f 0 a n a (omega arith) ∙ ap (λ k. sum_from f 0 a + k) (sum_one f a n l h)
