-- Pages of a range, one more.
use Rattle.std.proofs.Common.{◌≡◌, ◌∙◌, ℕ, zero, suc, ◌+◌, ◌<◌, ◌≤◌, ◌⊎◌, inl, inr, Bool, true, false, ◌&&◌, List, [], ◌∷◌, length, Some, None, Option, refl, get_or, ap, sym, subst, arith}
use Rattle.std.specs.Prelude.{slice_get, slice_set}
use Rattle.std.specs.Option.{option_map_or}
use Rattle.std.proofs.lemmas.Bool.{cases_eq}
use Rattle.std.proofs.lemmas.Option.{slice_get-get_or}
use Rattle.window_pages.specs.declared.page.WindowPage.{WindowPage}
use Rattle.window_tables.specs.Changes.{Changed}
use Rattle.window_tables.specs.Ranges.{Each, all_at}

after : (n : ℕ) → suc n ≡ n + 1
after n = omega arith

both : (a b : Bool) → a ≡ true → b ≡ true → (a && b) ≡ true
both true b p q = q
both false b p q = p

second : (a b : Bool) → b ≡ false → (a && b) ≡ false
second true b q = q
second false b q = refl

first_of : (a b : Bool) → a ≡ false → (a && b) ≡ false
first_of true b p = cc
first_of false b p = refl

its : (is : ℕ → WindowPage → Bool) (i : ℕ) (pages : List WindowPage) (d : WindowPage) (b : Bool) → i < length pages → is i (get_or pages i d) ≡ b →
    option_map_or (is i) (slice_get pages i) true ≡ b
its is i pages d b l h = ap (λ o. option_map_or (is i) o true) (slice_get-get_or pages i d l) ∙ h

pub all_more : (is : ℕ → WindowPage → Bool) (first n : ℕ) (pages : List WindowPage) (d : WindowPage) → first + n < length pages → is (first + n) (get_or pages (first + n) d) ≡ true →
    all_at is first n pages ≡ true → all_at is first (n + 1) pages ≡ true
all_more is first n pages d l h a =
    subst (λ m. all_at is first m pages ≡ true) (after n)
    (both (all_at is first n pages) (option_map_or (is (first + n)) (slice_get pages (first + n)) true) a (its is (first + n) pages d true l h))

not_more : (is : ℕ → WindowPage → Bool) (first n m : ℕ) (pages : List WindowPage) (d : WindowPage) → first + n < length pages → is (first + n) (get_or pages (first + n) d) ≡ false →
    (n < m → all_at is first m pages ≡ false) → n < suc m → all_at is first (suc m) pages ≡ false
not_more is first n m pages d within h before l = pick (cases_eq n m) where
  pick : (n ≡ m) ⊎ (n ≡ m → ⊥) → all_at is first (suc m) pages ≡ false
  pick (inl s) =
      second (all_at is first m pages) (option_map_or (is (first + m)) (slice_get pages (first + m)) true)
      (subst (λ k. option_map_or (is (first + k)) (slice_get pages (first + k)) true ≡ false) s (its is (first + n) pages d false within h))
  pick (inr apart) = first_of (all_at is first m pages) (option_map_or (is (first + m)) (slice_get pages (first + m)) true) (before (omega arith))

-- one of which it isn't so
all_not : (is : ℕ → WindowPage → Bool) (first n m : ℕ) (pages : List WindowPage) (d : WindowPage) → first + n < length pages → is (first + n) (get_or pages (first + n) d) ≡ false → n < m →
    all_at is first m pages ≡ false
all_not is first n zero pages d within h l = absurd (omega arith)
all_not is first n (suc m) pages d within h l = not_more is first n m pages d within h (all_not is first n m pages d within h) l

pub refused : (is : ℕ → WindowPage → Bool) (first n m : ℕ) (pages : List WindowPage) (d : WindowPage) (b : Bool) → first + n < length pages → is (first + n) (get_or pages (first + n) d) ≡ false → n < m →
    false ≡ (b && all_at is first m pages)
refused is first n m pages d b within h l = sym (second b (all_at is first m pages) (all_not is first n m pages d within h l))

pub same : {X : Type 0} (x a : X) (o : Option X) → o ≡ Some x → o ≡ Some a → x ≡ a
same x a o p q = cc

pub each_none : (Is : ℕ → WindowPage → Type 0) (first : ℕ) (pages : List WindowPage) → Each Is first 0 pages
each_none Is first pages = record { at = λ n x l e. absurd (omega arith) }

pub each_more : (Is : ℕ → WindowPage → Type 0) (first n : ℕ) (pages : List WindowPage) (d : WindowPage) → first + n < length pages → Each Is first n pages → Is (first + n) (get_or pages (first + n) d) →
    Each Is first (n + 1) pages
each_more Is first n pages d within e b = record { at = each } where
  each : (m : ℕ) (a : WindowPage) → m < n + 1 → slice_get pages (first + m) ≡ Some a → Is (first + m) a
  each m a l g = pick (cases_eq n m) where
    pick : (n ≡ m) ⊎ (n ≡ m → ⊥) → Is (first + m) a
    pick (inr apart) = e.at m a (omega arith) g
    pick (inl is) =
        subst (λ k. Is (first + k) a) is
        (subst (λ v. Is (first + n) v) (same (get_or pages (first + n) d) a (slice_get pages (first + n)) (slice_get-get_or pages (first + n) d within) (ap (λ k. slice_get pages (first + k)) is ∙ g)) b)

becomes : (Becomes : ℕ → WindowPage → WindowPage → Type 0) (n m : ℕ) (x a y d : WindowPage) → n ≡ m → x ≡ a → y ≡ d → Becomes n x y → Becomes m a d
becomes Becomes n m x a y d k p q b = subst (λ j. Becomes j a d) k (subst (λ v. Becomes n v d) p (subst (λ v. Becomes n x v) q b))

pub set_other : {X : Type 0} (pages : List X) (p q : ℕ) (new : X) → (p ≡ q → ⊥) → slice_get (slice_set pages p new) q ≡ slice_get pages q
set_other [] p q new ne = refl
set_other (x ∷ pages) zero zero new ne = absurd (ne refl)
set_other (x ∷ pages) zero (suc q) new ne = refl
set_other (x ∷ pages) (suc p) zero new ne = refl
set_other (x ∷ pages) (suc p) (suc q) new ne = set_other pages p q new (λ e. ne (ap (λ k. suc k) e))

pub set_own : {X : Type 0} (pages : List X) (p : ℕ) (page new : X) → slice_get pages p ≡ Some page → slice_get (slice_set pages p new) p ≡ Some new
set_own [] p page new e = cc
set_own (x ∷ pages) zero page new e = refl
set_own (x ∷ pages) (suc p) page new e = set_own pages p page new e

pub set_length : {X : Type 0} (pages : List X) (p : ℕ) (new : X) → length (slice_set pages p new) ≡ length pages
set_length [] p new = refl
set_length (x ∷ pages) zero new = refl
set_length (x ∷ pages) (suc p) new = ap (λ k. suc k) (set_length pages p new)

pub unchanged : (Becomes : ℕ → WindowPage → WindowPage → Type 0) (first : ℕ) (pages : List WindowPage) → Changed Becomes first 0 pages pages
unchanged Becomes first pages = record { length = refl; inside = λ n x y l e f. absurd (omega arith); outside = λ i h. refl }

apart_before : (first n i : ℕ) → i < first → first + n ≡ i → ⊥
apart_before first n i l k = absurd (omega arith)

apart_after : (first n i : ℕ) → first + (n + 1) ≤ i → first + n ≡ i → ⊥
apart_after first n i l k = absurd (omega arith)

more_outside : (Becomes : ℕ → WindowPage → WindowPage → Type 0) (first n : ℕ) (old now : List WindowPage) (y : WindowPage) →
    Changed Becomes first n old now → (i : ℕ) → (i < first) ⊎ (first + (n + 1) ≤ i) → slice_get (slice_set now (first + n) y) i ≡ slice_get old i
more_outside Becomes first n old now y c i (inl l) = set_other now (first + n) i y (apart_before first n i l) ∙ c.outside i (inl l)
more_outside Becomes first n old now y c i (inr l) = set_other now (first + n) i y (apart_after first n i l) ∙ c.outside i (inr (omega arith))

apart : (first n m : ℕ) → (n ≡ m → ⊥) → first + n ≡ first + m → ⊥
apart first n m d e = d (omega (arith, e))

more_inside : (Becomes : ℕ → WindowPage → WindowPage → Type 0) (first n : ℕ) (old now : List WindowPage) (x y : WindowPage) →
    Changed Becomes first n old now → slice_get now (first + n) ≡ Some x → Becomes n x y →
    (m : ℕ) (a d : WindowPage) → m < n + 1 → slice_get old (first + m) ≡ Some a → slice_get (slice_set now (first + n) y) (first + m) ≡ Some d → Becomes m a d
more_inside Becomes first n old now x y c e b m a d h g k = pick (cases_eq n m) where
  pick : (n ≡ m) ⊎ (n ≡ m → ⊥) → Becomes m a d
  pick (inr ne) = c.inside m a d (omega arith) g (sym (set_other now (first + n) (first + m) y (apart first n m ne)) ∙ k)
  pick (inl is) =
      let in_old : slice_get old (first + n) ≡ Some x = sym (c.outside (first + n) (inr (omega arith))) ∙ e in
      let is_a : x ≡ a = same x a (slice_get old (first + n)) in_old (ap (λ j. slice_get old (first + j)) is ∙ g) in
      let is_d : y ≡ d = same y d (slice_get (slice_set now (first + n) y) (first + n)) (set_own now (first + n) x y e) (ap (λ j. slice_get (slice_set now (first + n) y) (first + j)) is ∙ k) in
      becomes Becomes n m x a y d is is_a is_d b

-- one page more
pub changed_more : (Becomes : ℕ → WindowPage → WindowPage → Type 0) (first n : ℕ) (old now : List WindowPage) (x y : WindowPage) →
    Changed Becomes first n old now → slice_get now (first + n) ≡ Some x → Becomes n x y → Changed Becomes first (n + 1) old (slice_set now (first + n) y)
changed_more Becomes first n old now x y c e b = record {
  length = set_length now (first + n) y ∙ c.length;
  inside = more_inside Becomes first n old now x y c e b;
  outside = more_outside Becomes first n old now y c;
}

-- no page is there
pub get_none : (pages : List WindowPage) (i : ℕ) → length pages ≤ i → slice_get pages i ≡ None
get_none [] i l = refl
get_none (x ∷ pages) zero l = absurd (omega (arith, l))
get_none (x ∷ pages) (suc i) l = get_none pages i (omega (arith, l))
