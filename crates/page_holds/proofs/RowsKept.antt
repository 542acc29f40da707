-- Pages of a row, and their bytes, one more.
use Rattle.std.proofs.Common.{◌≡◌, ◌∙◌, ℕ, zero, suc, ◌+◌, ◌<◌, ◌≤◌, ◌⊎◌, inl, inr, Bool, true, false, List, [], ◌∷◌, length, Option, Some, None, refl, ap, sym, subst, arith}
use Rattle.std.specs.Prelude.{slice_get, slice_index_or, slice_set}
use Rattle.std.proofs.lemmas.Bool.{cases_eq}
use Rattle.page_holds.specs.Steps.{Took, is_taken}
use Rattle.page_lender.specs.declared.belief.Belief.{Belief}
use Rattle.page_lender.specs.declared.order.Outcome.{Outcome}
use Rattle.window_pages.specs.Bytes.{belief_of, known_of}
use Rattle.window_pages.specs.Counted.{counts_then}
use Rattle.window_pages.specs.declared.counts.PartCounts.{PartCounts}
use Rattle.window_pages.specs.declared.facts.WindowFacts.{WindowFacts}
use Rattle.window_pages.specs.declared.page.WindowPage.{WindowPage}
use Rattle.window_tables.proofs.Counts.{counted_more, parts_stay}
use Rattle.window_tables.proofs.Places.{same, set_length, set_other, set_own}
use Rattle.window_tables.specs.Tables.{Counted, OneChanges, has_parts, part_at}
use Rattle.page_holds.specs.Rows.{Asks, Hears, PageChanges, RowChanges, is_asked}

set_same : {X : Type 0} (xs : List X) (p : ℕ) (x : X) → slice_get xs p ≡ Some x → slice_set xs p x ≡ xs
set_same [] p x e = refl
set_same (y ∷ xs) zero x e = let is : y ≡ x = cc in ap (λ v. v ∷ xs) (sym is)
set_same (y ∷ xs) (suc p) x e = ap (λ v. y ∷ v) (set_same xs p x e)

-- The counts follow a page, or both stay.
pub data Follows (old new : WindowPage) (part part_new : PartCounts) : Type 0 where
  follows : part_new ≡ counts_then old new part → Follows old new part part_new
  stays : new ≡ old → part_new ≡ part → Follows old new part part_new

pub hears_follow : (outcome : Belief → Option Outcome) (old new : WindowPage) (part after : PartCounts) → Hears outcome old new part after → Follows old new part after
hears_follow outcome old new part after h = pick (outcome (belief_of old)) (is_taken (outcome (belief_of old)) (known_of old)) refl h where
  pick : (o : Option Outcome) (is : Bool) → is_taken o (known_of old) ≡ is → Took o old new part after → Follows old new part after
  pick o false e t = stays (t.page e) (t.counts e)
  pick None true e t = cc
  pick (Some its) true e t = follows ((t.done its refl e).counts)

pub asks_follow : (facts : WindowFacts) (byte : ℕ) (old new : WindowPage) (part after : PartCounts) → Asks facts byte old new part after → Follows old new part after
asks_follow facts byte old new part after a = pick (is_asked byte (belief_of old)) refl where
  pick : (is : Bool) → is_asked byte (belief_of old) ≡ is → Follows old new part after
  pick true e = follows ((a.order e).counts)
  pick false e = stays (a.page e) (a.counts e)

-- The counts of the parts stay right, and each page has its part still.
pub record Keeps (lead : ℕ) (old new : List WindowPage) (parts parts_new : List PartCounts) : Type 0 where
  pub counted : Counted lead old parts → Counted lead new parts_new
  pub parted : has_parts lead old parts ≡ true → has_parts lead new parts_new ≡ true

pub keeps : (Becomes : WindowPage → WindowPage → PartCounts → PartCounts → Type 0) (lead place : ℕ) (old new : List WindowPage) (parts parts_new : List PartCounts)
    (o : PageChanges Becomes lead place old new parts parts_new) → Follows o.before o.after o.part o.part_after → Keeps lead old new parts parts_new
keeps Becomes lead place old new parts parts_new o (follows e) =
    let one : OneChanges (λ x y. x ≡ x) lead place old new parts parts_new = record {
      before = o.before;
      after = o.after;
      part = o.part;
      is_there = o.is_there;
      is_part = o.is_part;
      changed = o.changed;
      follows = o.follows ∙ ap (λ q. slice_set parts (part_at lead place) q) e;
      becomes = refl;
    } in
    record {
      counted = counted_more (λ x y. x ≡ x) lead place old new parts parts_new one;
      parted = parts_stay (λ x y. x ≡ x) lead place old new parts parts_new one;
    }
keeps Becomes lead place old new parts parts_new o (stays p q) =
    let is : new ≡ old = o.changed ∙ (ap (λ y. slice_set old place y) p ∙ set_same old place o.before o.is_there) in
    let are : parts_new ≡ parts = o.follows ∙ (ap (λ y. slice_set parts (part_at lead place) y) q ∙ set_same parts (part_at lead place) o.part o.is_part) in
    record {
      counted = λ c. subst (λ v. Counted lead v parts_new) (sym is) (subst (λ v. Counted lead old v) (sym are) c);
      parted = λ h. subst (λ v. has_parts lead v parts_new ≡ true) (sym is) (subst (λ v. has_parts lead old v ≡ true) (sym are) h);
    }

-- ---- one page more ----

pub row_none : (Becomes : ℕ → ℕ → ℕ → WindowPage → WindowPage → Type 0) (first begin : ℕ) (pages : List WindowPage) (row : List ℕ) → RowChanges Becomes first begin 0 pages pages row row
row_none Becomes first begin pages row = record {
  bytes = refl;
  length = refl;
  inside = λ n b c x y l e f g h. absurd (omega (arith, l));
  outside = λ i h. refl;
  other = λ i h. refl;
}

before_it : (f n i : ℕ) → i < f → f + n ≡ i → ⊥
before_it f n i l k = absurd (omega (arith, l, k))

behind_it : (f n i : ℕ) → f + (n + 1) ≤ i → f + n ≡ i → ⊥
behind_it f n i l k = absurd (omega (arith, l, k))

others : {X : Type 0} (f n : ℕ) (old now : List X) (y : X) → ((i : ℕ) → (i < f) ⊎ (f + n ≤ i) → slice_get now i ≡ slice_get old i) →
    (i : ℕ) → (i < f) ⊎ (f + (n + 1) ≤ i) → slice_get (slice_set now (f + n) y) i ≡ slice_get old i
others f n old now y c i (inl l) = set_other now (f + n) i y (before_it f n i l) ∙ c i (inl l)
others f n old now y c i (inr l) = set_other now (f + n) i y (behind_it f n i l) ∙ c i (inr (omega (arith, l)))

apart : (f n m : ℕ) → (n ≡ m → ⊥) → f + n ≡ f + m → ⊥
apart f n m d e = d (omega (arith, e))

same_all : (Becomes : ℕ → ℕ → ℕ → WindowPage → WindowPage → Type 0) (n m b p c q : ℕ) (x v y w : WindowPage) → n ≡ m → b ≡ p → c ≡ q → x ≡ v → y ≡ w → Becomes n b c x y → Becomes m p q v w
same_all Becomes n m b p c q x v y w en eb ec ex ey h =
    subst (λ z. Becomes m p q v z) ey
    (subst (λ z. Becomes m p q z y) ex (subst (λ z. Becomes m p z x y) ec (subst (λ z. Becomes m z c x y) eb (subst (λ z. Becomes z b c x y) en h))))

-- where the run's next page lies
there : (first begin n : ℕ) → first + begin + n ≡ first + (begin + n)
there first begin n = omega arith

pub row_more : (Becomes : ℕ → ℕ → ℕ → WindowPage → WindowPage → Type 0) (first begin n : ℕ) (old now : List WindowPage) (row bytes : List ℕ) (x y : WindowPage) (b c : ℕ) →
    RowChanges Becomes first begin n old now row bytes → slice_get now (first + (begin + n)) ≡ Some x → slice_get bytes (begin + n) ≡ Some b → Becomes n b c x y →
    RowChanges Becomes first begin (n + 1) old (slice_set now (first + (begin + n)) y) row (slice_set bytes (begin + n) c)
row_more Becomes first begin n old now row bytes x y b c r ex eb h = record {
  bytes = set_length bytes (begin + n) c ∙ r.bytes;
  length = set_length now (first + (begin + n)) y ∙ r.length;
  inside = inside;
  outside = outside;
  other = others begin n row bytes c r.other;
} where
  page_in_old : slice_get old (first + (begin + n)) ≡ Some x
  page_in_old = sym (r.outside (first + (begin + n)) (inr (omega arith))) ∙ ex

  byte_in_old : slice_get row (begin + n) ≡ Some b
  byte_in_old = sym (r.other (begin + n) (inr (omega arith))) ∙ eb

  far : (m : ℕ) → (n ≡ m → ⊥) → first + (begin + n) ≡ first + (begin + m) → ⊥
  far m ne e = ne (omega (arith, e))

  inside : (m p q : ℕ) (v w : WindowPage) → m < n + 1 → slice_get row (begin + m) ≡ Some p → slice_get (slice_set bytes (begin + n) c) (begin + m) ≡ Some q →
      slice_get old (first + (begin + m)) ≡ Some v → slice_get (slice_set now (first + (begin + n)) y) (first + (begin + m)) ≡ Some w → Becomes m p q v w
  inside m p q v w l ep eq ev ew = pick (cases_eq n m) where
    pick : (n ≡ m) ⊎ (n ≡ m → ⊥) → Becomes m p q v w
    pick (inr ne) =
        r.inside m p q v w (omega (arith, l)) ep (sym (set_other bytes (begin + n) (begin + m) c (apart begin n m ne)) ∙ eq) ev
        (sym (set_other now (first + (begin + n)) (first + (begin + m)) y (far m ne)) ∙ ew)
    pick (inl is) =
        same_all Becomes n m b p c q x v y w is
        (same b p (slice_get row (begin + n)) byte_in_old (ap (λ j. slice_get row (begin + j)) is ∙ ep))
        (same c q (slice_get (slice_set bytes (begin + n) c) (begin + n)) (set_own bytes (begin + n) b c eb) (ap (λ j. slice_get (slice_set bytes (begin + n) c) (begin + j)) is ∙ eq))
        (same x v (slice_get old (first + (begin + n))) page_in_old (ap (λ j. slice_get old (first + (begin + j))) is ∙ ev))
        (same y w (slice_get (slice_set now (first + (begin + n)) y) (first + (begin + n))) (set_own now (first + (begin + n)) x y ex) (ap (λ j. slice_get (slice_set now (first + (begin + n)) y) (first + (begin + j))) is ∙ ew))
        h

  outside : (i : ℕ) → (i < first + begin) ⊎ (first + (begin + (n + 1)) ≤ i) → slice_get (slice_set now (first + (begin + n)) y) i ≡ slice_get old i
  outside i (inl l) = set_other now (first + (begin + n)) i y (λ e. absurd (omega (arith, l, e))) ∙ r.outside i (inl l)
  outside i (inr l) = set_other now (first + (begin + n)) i y (λ e. absurd (omega (arith, l, e))) ∙ r.outside i (inr (omega (arith, l)))

pub byte_there : (row : List ℕ) (n : ℕ) → n < length row → slice_get row n ≡ Some (slice_index_or row n 0)
byte_there [] n l = absurd (omega (arith, l))
byte_there (b ∷ row) zero l = refl
byte_there (b ∷ row) (suc n) l = byte_there row n (omega (arith, l))

-- one page more of those from the row's first one on
pub row_more_first : (Becomes : ℕ → ℕ → ℕ → WindowPage → WindowPage → Type 0) (first n : ℕ) (old now : List WindowPage) (row bytes : List ℕ) (x y : WindowPage) (b c : ℕ) →
    RowChanges Becomes first 0 n old now row bytes → slice_get now (first + n) ≡ Some x → slice_get bytes n ≡ Some b → Becomes n b c x y →
    RowChanges Becomes first 0 (n + 1) old (slice_set now (first + n) y) row (slice_set bytes n c)
row_more_first Becomes first n old now row bytes x y b c r =
    subst (λ j. slice_get now (first + j) ≡ Some x → slice_get bytes j ≡ Some b → Becomes n b c x y → RowChanges Becomes first 0 (n + 1) old (slice_set now (first + j) y) row (slice_set bytes j c)) (from_none n)
    (row_more Becomes first 0 n old now row bytes x y b c r) where
      from_none : (i : ℕ) → 0 + i ≡ i
      from_none i = omega arith
