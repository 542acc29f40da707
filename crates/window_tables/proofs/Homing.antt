-- Pages that get memory of their own.
use Rattle.std.proofs.Common.{◌≡◌, ◌∙◌, ℕ, zero, suc, ◌+◌, ◌<◌, ◌≤◌, ◌⊎◌, inl, inr, Bool, true, false, List, [], ◌∷◌, length, Some, refl, get_or, ap, sym, subst, arith}
use Rattle.std.specs.Prelude.{◌&&◌, nat_le, slice_get, slice_set}
use Rattle.std.proofs.lemmas.Bool.{cases_eq, le-leb}
use Rattle.std.proofs.lemmas.Option.{slice_get-get_or}
use Rattle.window_pages.specs.Bytes.{known_of}
use Rattle.window_pages.specs.Known.{stays}
use Rattle.window_pages.specs.declared.counts.PartCounts.{PartCounts}
use Rattle.window_pages.specs.declared.facts.WindowFacts.{WindowFacts}
use Rattle.window_pages.specs.declared.page.WindowPage.{WindowPage}
use Rattle.window_tables.proofs.Counts.{counted_more, parts_stay}
use Rattle.window_tables.proofs.Places.{changed_more, same, set_length, set_other, set_own}
use Rattle.window_tables.specs.Changes.{Changed}
use Rattle.window_tables.specs.Facts.{facts_at, only_called}
use Rattle.window_tables.specs.Homes.{Answers, Became, Both, Stays, stays_at}
use Rattle.window_tables.specs.Tables.{Counted, OneChanges, can_note, has_parts}
use Rattle.window_tables.specs.declared.facts.TableFacts.{TableFacts}
use Rattle.window_tables.specs.declared.homes.steps.HomeStep.{HomeStep}

set_same : {X : Type 0} (xs : List X) (p : ℕ) (x : X) → slice_get xs p ≡ Some x → slice_set xs p x ≡ xs
set_same [] p x e = refl
set_same (y ∷ xs) zero x e = let is : y ≡ x = cc in ap (λ v. v ∷ xs) (sym is)
set_same (y ∷ xs) (suc p) x e = ap (λ v. y ∷ v) (set_same xs p x e)

-- ---- one page more ----

-- the step left the page as it is
pub stays_more : (Becomes : ℕ → WindowPage → WindowPage → Type 0) (first n : ℕ) (old now : List WindowPage) (x : WindowPage) →
    Changed Becomes first n old now → slice_get now (first + n) ≡ Some x → Becomes n x x → Changed Becomes first (n + 1) old now
stays_more Becomes first n old now x c e b =
    subst (λ v. Changed Becomes first (n + 1) old v) (set_same now (first + n) x e) (changed_more Becomes first n old now x x c e b)

-- one step follows another
pub then : (One Other : WindowPage → WindowPage → Type 0) (first count : ℕ) (old mid new : List WindowPage) → first + count ≤ length old →
    Changed (λ n. One) first count old mid → Changed (λ n. Other) first count mid new → Changed (λ n. Both One Other) first count old new
then One Other first count old mid new l c d = record {
  length = d.length ∙ c.length;
  inside = inside;
  outside = λ i h. d.outside i h ∙ c.outside i h;
} where
  inside : (n : ℕ) (x y : WindowPage) → n < count → slice_get old (first + n) ≡ Some x → slice_get new (first + n) ≡ Some y → Both One Other x y
  inside n x y h e f =
      let within : first + n < length mid = omega (arith, l, h, c.length) in
      let there : slice_get mid (first + n) ≡ Some (get_or mid (first + n) x) = slice_get-get_or mid (first + n) x within in
      record {
        between = get_or mid (first + n) x;
        first = c.inside n x (get_or mid (first + n) x) h e there;
        second = d.inside n (get_or mid (first + n) x) y h there f;
      }

-- ---- answers ----

pub answers_none : (says : ℕ → Bool → WindowPage → Bool) (first : ℕ) (pages : List WindowPage) (old : List Bool) → Answers says first 0 pages old old
answers_none says first pages old = record { length = refl; inside = λ n was x l e f. absurd (omega (arith, l)); outside = λ n l. refl }

-- one answer more
answer_more : (says : ℕ → Bool → WindowPage → Bool) (first n : ℕ) (pages : List WindowPage) (old now : List Bool) (was : Bool) (x : WindowPage) →
    Answers says first n pages old now → slice_get now n ≡ Some was → slice_get pages (first + n) ≡ Some x → Answers says first (n + 1) pages old (slice_set now n (says n was x))
answer_more says first n pages old now was x a e f = record {
  length = set_length now n (says n was x) ∙ a.length;
  inside = inside;
  outside = λ m l. set_other now n m (says n was x) (λ k. absurd (omega (arith, l, k))) ∙ a.outside m (omega (arith, l));
} where
  was_old : slice_get old n ≡ Some was
  was_old = sym (a.outside n (omega arith)) ∙ e

  inside : (m : ℕ) (b : Bool) (y : WindowPage) → m < n + 1 → slice_get old m ≡ Some b → slice_get pages (first + m) ≡ Some y → slice_get (slice_set now n (says n was x)) m ≡ Some (says m b y)
  inside m b y l g h = pick (cases_eq n m) where
    pick : (n ≡ m) ⊎ (n ≡ m → ⊥) → slice_get (slice_set now n (says n was x)) m ≡ Some (says m b y)
    pick (inr ne) = set_other now n m (says n was x) ne ∙ a.inside m b y (omega (arith, l, ne)) g h
    pick (inl is) =
        let its : was ≡ b = same was b (slice_get old n) was_old (ap (λ j. slice_get old j) is ∙ g) in
        let page : x ≡ y = same x y (slice_get pages (first + n)) f (ap (λ j. slice_get pages (first + j)) is ∙ h) in
        ap (λ j. slice_get (slice_set now n (says n was x)) j) (sym is)
        ∙ set_own now n was (says n was x) e
        ∙ (ap (λ j. Some (says j was x)) is ∙ (ap (λ v. Some (says m v x)) its ∙ ap (λ v. Some (says m b v)) page))

pub answers_more : (says : ℕ → Bool → WindowPage → Bool) (first n : ℕ) (pages : List WindowPage) (old now : List Bool) (d : WindowPage) (answer : Bool) →
    Answers says first n pages old now → n < length now → first + n < length pages → answer ≡ says n (get_or now n false) (get_or pages (first + n) d) →
    Answers says first (n + 1) pages old (slice_set now n answer)
answers_more says first n pages old now d answer a l m e =
    subst (λ v. Answers says first (n + 1) pages old (slice_set now n v)) (sym e)
    (answer_more says first n pages old now (get_or now n false) (get_or pages (first + n) d) a (slice_get-get_or now n false l) (slice_get-get_or pages (first + n) d m))

pub all_answered : (says : ℕ → Bool → WindowPage → Bool) (first n m : ℕ) (pages : List WindowPage) (old now : List Bool) → Answers says first n pages old now → n ≡ m → Answers says first m pages old now
all_answered says first n m pages old now a e = subst (λ k. Answers says first k pages old now) e a

pub staying : (table : TableFacts) (pins : List ℕ) (why facts : WindowFacts) (first n : ℕ) (was answer : Bool) (x : WindowPage) →
    answer ≡ stays facts was (known_of x) → facts ≡ facts_at table pins why (first + n) → answer ≡ stays_at table pins why first n was x
staying table pins why facts first n was answer x e f = e ∙ ap (λ v. stays v was (known_of x)) f

-- ---- steps ----

-- One page more, and the counts follow.
pub record More (Becomes : ℕ → WindowPage → WindowPage → Type 0) (lead first n : ℕ) (old new : List WindowPage) (parts parts_new : List PartCounts) : Type 0 where
  pub changed : Changed Becomes first (n + 1) old new
  pub counted : Counted lead old parts → Counted lead new parts_new
  pub parted : has_parts lead new parts_new ≡ true

pub step_more : (Becomes : ℕ → WindowPage → WindowPage → Type 0) (lead first n : ℕ) (old now new : List WindowPage) (parts_old parts parts_new : List PartCounts) (is : Bool) →
    (is ≡ true → OneChanges (Becomes n) lead (first + n) now new parts parts_new) → (is ≡ false → Stays (Becomes n) (first + n) now) → (is ≡ false → new ≡ now) → (is ≡ false → parts_new ≡ parts) →
    Changed Becomes first n old now → (Counted lead old parts_old → Counted lead now parts) → has_parts lead now parts ≡ true → More Becomes lead first n old new parts_old parts_new
step_more Becomes lead first n old now new parts_old parts parts_new true changes stay same_pages same_parts c k h =
    let o : OneChanges (Becomes n) lead (first + n) now new parts parts_new = changes refl in
    record {
      changed = subst (λ v. Changed Becomes first (n + 1) old v) (sym o.changed) (changed_more Becomes first n old now o.before o.after c o.is_there o.becomes);
      counted = λ w. counted_more (Becomes n) lead (first + n) now new parts parts_new o (k w);
      parted = parts_stay (Becomes n) lead (first + n) now new parts parts_new o h;
    }
step_more Becomes lead first n old now new parts_old parts parts_new false changes stay same_pages same_parts c k h =
    let s : Stays (Becomes n) (first + n) now = stay refl in
    let p : new ≡ now = same_pages refl in
    let q : parts_new ≡ parts = same_parts refl in
    record {
      changed = subst (λ v. Changed Becomes first (n + 1) old v) (sym p) (stays_more Becomes first n old now s.page c s.there s.becomes);
      counted = λ w. subst (λ v. Counted lead v parts_new) (sym p) (subst (λ v. Counted lead now v) (sym q) (k w));
      parted = subst (λ v. has_parts lead v parts_new ≡ true) (sym p) (subst (λ v. has_parts lead now v ≡ true) (sym q) h);
    }

-- where nothing is so of a page
abbrev no_table : TableFacts
no_table = record { elsewhere = 0; may_pin = false; inherited = false; locked = false; ends = false; is_over = false }

pub by_nothing : (step : HomeStep) (facts : WindowFacts) (first count : ℕ) (old new : List WindowPage) → facts ≡ only_called false →
    Changed (λ i. Became step (facts_at no_table [] facts (first + i))) first count old new → Changed (λ i. Became step (only_called false)) first count old new
by_nothing step facts first count old new e c = subst (λ f. Changed (λ i. Became step (facts_at no_table [] f (first + i))) first count old new) e c

-- what becomes of the pages can be noted still
pub can_still : (lead first count : ℕ) (old new : List WindowPage) (parts : List PartCounts) → first + count ≤ length old → length new ≡ length old → has_parts lead new parts ≡ true →
    can_note lead first count new parts ≡ true
can_still lead first count old new parts l e h =
    let there : nat_le (first + count) (length new) ≡ true = le-leb (first + count) (length new) (omega (arith, l, e)) in
    subst (λ b. (b && has_parts lead new parts) ≡ true) (sym there) h
