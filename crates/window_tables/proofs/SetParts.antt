-- Parts that become whole, or are split: what is mapped elsewhere, and how many mappings more come.
use Rattle.std.proofs.Common.{◌≡◌, ◌∙◌, ℕ, suc, ◌+◌, ◌-◌, ◌%◌, ◌<◌, ◌≤◌, ◌⊎◌, inl, inr, Bool, true, false, List, length, Some, refl, ap, sym, subst, arith, get_or}
use Rattle.std.specs.Prelude.{not, slice_get}
use Rattle.std.specs.Option.{option_map, option_map_or}
use Rattle.std.proofs.lemmas.Bool.{cases_lt}
use Rattle.std.proofs.lemmas.Option.{slice_get-get_or}
use Rattle.window_pages.specs.Bytes.{digit}
use Rattle.window_pages.specs.Laws.{new_page}
use Rattle.window_pages.specs.declared.page.WindowPage.{WindowPage}
use Rattle.window_tables.proofs.Differences.{behind_page, differences_count, in_three, none_counts}
use Rattle.window_tables.proofs.Places.{set_other}
use Rattle.window_tables.proofs.Sums.{sum_more, sum_same, sum_split}
use Rattle.window_tables.specs.Laws.{SetsStayInside, SetsTakeTwo}
use Rattle.window_tables.specs.Mappings.{IsSet, StaysOutside, begins_at, is_one, is_whole, mapped_as, mapped_at, mappings_at, mappings_of, sum_from, unmarked}
use Rattle.window_tables.specs.Tables.{part_at}
use Rattle.page_looks.specs.declared.parts.part.Part.{Part}

digit_most : (b : Bool) → digit b ≤ 1
digit_most true = omega arith
digit_most false = omega arith

-- a page of another part
whole_still : (b : Bool) (lead first i : ℕ) (parts parts_new : List Part) → IsSet b lead first parts parts_new → (part_at lead first ≡ part_at lead i → ⊥) →
    is_whole lead parts_new i ≡ is_whole lead parts i
whole_still b lead first i parts parts_new s ne =
    ap (λ (ps : List Part). option_map_or (λ (part : Part). part.whole) (slice_get ps (part_at lead i)) false) s.set
    ∙ ap (λ o. option_map_or (λ (part : Part). part.whole) o false) (set_other parts (part_at lead first) (part_at lead i) (record s.part { whole = b }) ne)

mapped_still : (b : Bool) (lead first i : ℕ) (pages : List WindowPage) (parts parts_new : List Part) → IsSet b lead first parts parts_new → (part_at lead first ≡ part_at lead i → ⊥) →
    mapped_at lead parts_new pages i ≡ mapped_at lead parts pages i
mapped_still b lead first i pages parts parts_new s ne = ap (λ w. option_map (mapped_as w) (slice_get pages i)) (whole_still b lead first i parts parts_new s ne)

before_part : (lead first i : ℕ) → (first + lead) % 512 ≡ 0 → suc i ≤ first → part_at lead first ≡ part_at lead i → ⊥
before_part lead first i e l p = absurd (omega (arith, e, l, p))

behind_part : (lead first i : ℕ) → (first + lead) % 512 ≡ 0 → first + 512 ≤ i → part_at lead first ≡ part_at lead i → ⊥
behind_part lead first i e l p = absurd (omega (arith, e, l, p))

same_part : (lead first i : ℕ) → (first + lead) % 512 ≡ 0 → first ≤ i → i < first + 512 → part_at lead first ≡ part_at lead i
same_part lead first i e l m = omega (arith, e, l, m)

pub sets_stay_inside : SetsStayInside
sets_stay_inside b lead first pages parts parts_new e s = record {
  length = refl;
  before = λ i l. mapped_still b lead first i pages parts parts_new s (before_part lead first i e l);
  behind = ap (λ o. option_map unmarked o) (mapped_still b lead first (first + 512) pages parts parts_new s (behind_part lead first (first + 512) e (omega arith)));
  beyond = λ i l. mapped_still b lead first i pages parts parts_new s (behind_part lead first i e (omega (arith, l)));
}

-- two pages of one part
one_part : (v w : Bool) (x y : WindowPage) → is_one (mapped_as v x) (mapped_as v y) ≡ is_one (mapped_as w x) (mapped_as w y)
one_part true true x y = refl
one_part true false x y = refl
one_part false true x y = refl
one_part false false x y = refl

-- whether a mapping begins at a page that lies in the part of the page before it, whether that part is whole or not
begins_in : (lead p : ℕ) (parts : List Part) (pages : List WindowPage) (x y : WindowPage) → slice_get pages p ≡ Some x → slice_get pages (suc p) ≡ Some y → part_at lead p ≡ part_at lead (suc p) →
    begins_at lead parts pages (suc p) ≡ not (is_one (mapped_as true x) (mapped_as true y))
begins_in lead p parts pages x y e f same =
    behind_page lead parts pages p x y e f
    ∙ (ap (λ k. not (is_one (mapped_as (option_map_or (λ (part : Part). part.whole) (slice_get parts k) false) x) (mapped_as (is_whole lead parts (suc p)) y))) same
    ∙ ap not (one_part (is_whole lead parts (suc p)) true x y))

inner : (lead first p : ℕ) (pages : List WindowPage) (parts parts_new : List Part) → (first + lead) % 512 ≡ 0 → first ≤ p → suc p < first + 512 →
    digit (begins_at lead parts_new pages (suc p)) ≡ digit (begins_at lead parts pages (suc p))
inner lead first p pages parts parts_new e l m = pick (cases_lt (suc p) (length pages)) where
  pick : (suc p < length pages) ⊎ (length pages ≤ suc p) → digit (begins_at lead parts_new pages (suc p)) ≡ digit (begins_at lead parts pages (suc p))
  pick (inr h) = none_counts lead parts_new pages (suc p) h ∙ sym (none_counts lead parts pages (suc p) h)
  pick (inl h) =
      let x : WindowPage = get_or pages p new_page in
      let y : WindowPage = get_or pages (suc p) new_page in
      let at : slice_get pages p ≡ Some x = slice_get-get_or pages p new_page (omega (arith, h)) in
      let next : slice_get pages (suc p) ≡ Some y = slice_get-get_or pages (suc p) new_page h in
      let same : part_at lead p ≡ part_at lead (suc p) = sym (same_part lead first p e l (omega (arith, m))) ∙ same_part lead first (suc p) e (omega (arith, l)) m in
      ap digit (begins_in lead p parts_new pages x y at next same ∙ sym (begins_in lead p parts pages x y at next same))

-- numbers that are 0 or 1, and the same but for the first and the last
two_more : (f g : ℕ → ℕ) (a n : ℕ) → ((i : ℕ) → a + 1 ≤ i → i < a + (n + 1) → g i ≡ f i) → ((i : ℕ) → g i ≤ 1) → sum_from g a (n + 1 + 1) ≤ sum_from f a (n + 1 + 1) + 2
two_more f g a n same most =
    let between : sum_from g (a + 1) n ≡ sum_from f (a + 1) n = sum_same g f (a + 1) n (λ i p q. same i p (omega (arith, q))) in
    let one : 1 + n ≡ n + 1 = omega arith in
    let split : (h : ℕ → ℕ) → sum_from h a (n + 1) ≡ 0 + h (a + 0) + sum_from h (a + 1) n =
    λ h. sym (ap (λ k. sum_from h a k) one) ∙ sum_split h a 1 n (a + 1) refl in
    omega (arith, between, split f, split g, sum_more f a (n + 1), sum_more g a (n + 1), most (a + 0), most (a + (n + 1)))

-- such are the mappings that begin at so many pages and at the one behind them
two_come : (lead first n : ℕ) (pages : List WindowPage) (parts parts_new : List Part) → StaysOutside lead first (n + 1) parts parts_new pages pages →
    ((i : ℕ) → first + 1 ≤ i → i < first + (n + 1) → digit (begins_at lead parts_new pages i) ≡ digit (begins_at lead parts pages i)) →
    mappings_of lead parts_new pages ≤ mappings_of lead parts pages + 2
two_come lead first n pages parts parts_new stays same =
    let most : mappings_at lead parts_new pages first (n + 1) ≤ mappings_at lead parts pages first (n + 1) + 2 =
    two_more (λ place. digit (begins_at lead parts pages place)) (λ place. digit (begins_at lead parts_new pages place)) first n same (λ i. digit_most (begins_at lead parts_new pages i)) in
    omega (arith, most, differences_count lead first (n + 1) parts parts_new pages pages stays, in_three lead parts pages first (n + 1) (length pages) refl)

pub sets_take_two : SetsTakeTwo
sets_take_two b lead first pages parts parts_new e s =
    two_come lead first 511 pages parts parts_new (sets_stay_inside b lead first pages parts parts_new e s) inside where
      inside : (i : ℕ) → first + 1 ≤ i → i < first + 512 → digit (begins_at lead parts_new pages i) ≡ digit (begins_at lead parts pages i)
      inside i p q =
          let is : suc (i - 1) ≡ i = omega (arith, p) in
          subst (λ j. digit (begins_at lead parts_new pages j) ≡ digit (begins_at lead parts pages j)) is
          (inner lead first (i - 1) pages parts parts_new e (omega (arith, p)) (omega (arith, p, q)))
