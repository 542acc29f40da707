-- The first step of a row, and its run.
use Rattle.std.proofs.Common.{◌≡◌, ◌∙◌, ℕ, ◌+◌, ◌-◌, ◌<◌, ◌≤◌, ◌⊎◌, inl, inr, Bool, true, false, ◌&&◌, List, length, ap, refl, sym, subst, arith}
use Rattle.std.specs.Prelude.{◌==◌, if◌then◌else◌, nat_eq}
use Rattle.std.proofs.lemmas.Bool.{cases_eq, cases_lt, eqb-true}
use Rattle.page_holds.specs.declared.place.HoldStep.{HoldStep}
use Rattle.page_holds.specs.declared.place.HoldStep.TheVariants.{Over, Compare, CompareZeros, Map, GiveBack, PutBack, EndWatch}
use Rattle.window_pages.specs.declared.page.WindowPage.{WindowPage}
use Rattle.page_holds.specs.Orders.{IsLeast, IsRun, are_joined, rank, runs_on, step_at}
use Rattle.page_holds.specs.declared.rows.run.RowOrder.{RowOrder}

-- the step of a rank
abbrev ranked : ℕ → HoldStep
ranked n =
    if n == 0 then Compare else (if n == 1 then CompareZeros else (if n == 2 then Map else (if n == 3 then GiveBack else (if n == 4 then PutBack else (if n == 5 then EndWatch else Over)))))

its_rank : (step : HoldStep) → ranked (rank step) ≡ step
its_rank Over = refl
its_rank Compare = refl
its_rank CompareZeros = refl
its_rank Map = refl
its_rank GiveBack = refl
its_rank PutBack = refl
its_rank EndWatch = refl

-- steps of the same rank are the same
pub same_rank : (one other : HoldStep) → rank one ≡ rank other → one ≡ other
same_rank one other e = sym (its_rank one) ∙ (ap (λ n. ranked n) e ∙ its_rank other)

rank_most : (step : HoldStep) → rank step ≤ 6
rank_most Over = omega arith
rank_most Compare = omega arith
rank_most CompareZeros = omega arith
rank_most Map = omega arith
rank_most GiveBack = omega arith
rank_most PutBack = omega arith
rank_most EndWatch = omega arith

-- ---- the first step ----

pub least_none : (first : ℕ) (pages : List WindowPage) (row : List ℕ) → IsLeast first pages row 0 (record { step = Over; first = 0; count = 0 })
least_none first pages row = record {
  least = λ n l. absurd (omega (arith, l));
  before = λ n l. absurd (omega (arith, l));
  place = λ l. absurd (omega (arith, l));
  step = λ l. absurd (omega (arith, l));
  over = λ l. refl;
}

-- what is so of all pages before one, and of that one, is so of one page more
one_more : (first m : ℕ) (pages : List WindowPage) (row : List ℕ) (k : ℕ) → ((i : ℕ) → i < m → k ≤ rank (step_at first pages row i)) → k ≤ rank (step_at first pages row m) →
    (i : ℕ) → i < m + 1 → k ≤ rank (step_at first pages row i)
one_more first m pages row k all its i l = pick (cases_eq m i) where
  pick : (m ≡ i) ⊎ (m ≡ i → ⊥) → k ≤ rank (step_at first pages row i)
  pick (inl is) = subst (λ j. k ≤ rank (step_at first pages row j)) is its
  pick (inr ne) = all i (omega (arith, l, ne))

least_taken : (first : ℕ) (pages : List WindowPage) (row : List ℕ) (n : ℕ) (found : RowOrder) (step : HoldStep) → IsLeast first pages row n found →
    step ≡ step_at first pages row n → rank step < rank found.step → IsLeast first pages row (n + 1) (record { step = step; first = n; count = 1 })
least_taken first pages row n found step h e l = record {
  least = one_more first n pages row (rank step) (λ i b. omega (arith, l, h.least i b)) (omega (arith, ap (λ s. rank s) e));
  before = λ i b. omega (arith, l, h.least i b);
  place = λ b. omega arith;
  step = λ b. sym e;
  over = λ b. absurd (omega (arith, l, b, rank_most found.step));
}

least_kept : (first : ℕ) (pages : List WindowPage) (row : List ℕ) (n : ℕ) (found : RowOrder) (step : HoldStep) → IsLeast first pages row n found →
    step ≡ step_at first pages row n → rank found.step ≤ rank step → IsLeast first pages row (n + 1) found
least_kept first pages row n found step h e l = record {
  least = one_more first n pages row (rank found.step) h.least (omega (arith, l, ap (λ s. rank s) e));
  before = h.before;
  place = λ b. omega (arith, h.place b);
  step = h.step;
  over = h.over;
}

-- one page more
pub least_more : (first : ℕ) (pages : List WindowPage) (row : List ℕ) (n : ℕ) (found new : RowOrder) (step : HoldStep) → IsLeast first pages row n found →
    step ≡ step_at first pages row n → (rank step < rank found.step → new ≡ record { step = step; first = n; count = 1 }) → (rank found.step ≤ rank step → new ≡ found) →
    IsLeast first pages row (n + 1) new
least_more first pages row n found new step h e taken kept = pick (cases_lt (rank step) (rank found.step)) where
  pick : (rank step < rank found.step) ⊎ (rank found.step ≤ rank step) → IsLeast first pages row (n + 1) new
  pick (inl l) = subst (λ o. IsLeast first pages row (n + 1) o) (sym (taken l)) (least_taken first pages row n found step h e l)
  pick (inr l) = subst (λ o. IsLeast first pages row (n + 1) o) (sym (kept l)) (least_kept first pages row n found step h e l)

-- ---- its run ----

-- The run goes as far as a place of the row.
pub record Runs (step : HoldStep) (first begin last : ℕ) (pages : List WindowPage) (row : List ℕ) : Type 0 where
  pub each : (i : ℕ) → begin + i ≤ last → step_at first pages row (begin + i) ≡ step
  pub joined : (i : ℕ) → begin + i < last → runs_on step first pages row (begin + i) ≡ true

itself : (begin i : ℕ) → begin + i ≤ begin → begin ≡ begin + i
itself begin i l = omega (arith, l)

pub runs_none : (step : HoldStep) (first begin : ℕ) (pages : List WindowPage) (row : List ℕ) → step_at first pages row begin ≡ step → Runs step first begin begin pages row
runs_none step first begin pages row e = record {
  each = λ i l. subst (λ j. step_at first pages row j ≡ step) (itself begin i l) e;
  joined = λ i l. absurd (omega (arith, l));
}

first_so : (a b : Bool) → (a && b) ≡ true → a ≡ true
first_so true b e = refl
first_so false b e = e

its_step : (step : HoldStep) (first n : ℕ) (pages : List WindowPage) (row : List ℕ) → runs_on step first pages row n ≡ true → step_at first pages row (n + 1) ≡ step
its_step step first n pages row e =
    same_rank (step_at first pages row (n + 1)) step
    (eqb-true (rank (step_at first pages row (n + 1))) (rank step) (first_so (nat_eq (rank (step_at first pages row (n + 1))) (rank step)) (are_joined step pages (first + n)) e))

pub runs_more : (step : HoldStep) (first begin n : ℕ) (pages : List WindowPage) (row : List ℕ) → Runs step first begin n pages row → runs_on step first pages row n ≡ true →
    Runs step first begin (n + 1) pages row
runs_more step first begin n pages row r e = record { each = each; joined = joined } where
  each : (i : ℕ) → begin + i ≤ n + 1 → step_at first pages row (begin + i) ≡ step
  each i l = pick (cases_eq (n + 1) (begin + i)) where
    pick : (n + 1 ≡ begin + i) ⊎ (n + 1 ≡ begin + i → ⊥) → step_at first pages row (begin + i) ≡ step
    pick (inl is) = subst (λ j. step_at first pages row j ≡ step) is (its_step step first n pages row e)
    pick (inr ne) = r.each i (omega (arith, l, ne))

  joined : (i : ℕ) → begin + i < n + 1 → runs_on step first pages row (begin + i) ≡ true
  joined i l = pick (cases_eq n (begin + i)) where
    pick : (n ≡ begin + i) ⊎ (n ≡ begin + i → ⊥) → runs_on step first pages row (begin + i) ≡ true
    pick (inl is) = subst (λ j. runs_on step first pages row j ≡ true) is e
    pick (inr ne) = r.joined i (omega (arith, l, ne))

-- the next page has another step
pub run_ends : (step : HoldStep) (first begin n : ℕ) (pages : List WindowPage) (row : List ℕ) → begin ≤ n → n + 1 < length row → Runs step first begin n pages row →
    runs_on step first pages row n ≡ false → IsRun step first begin (n + 1 - begin) pages row
run_ends step first begin n pages row b l r e =
    let at : n ≡ begin + (n + 1 - begin) - 1 = omega (arith, b) in
    record {
      some = omega (arith, b);
      within = omega (arith, b, l);
      each = λ i h. r.each i (omega (arith, b, h));
      joined = λ i h. r.joined i (omega (arith, b, h));
      longest = λ h. subst (λ j. runs_on step first pages row j ≡ false) at e;
    }

-- the row ends
pub run_last : (step : HoldStep) (first begin n : ℕ) (pages : List WindowPage) (row : List ℕ) → begin < length row → n + 1 ≡ length row → Runs step first begin n pages row →
    IsRun step first begin (length row - begin) pages row
run_last step first begin n pages row b e r = record {
  some = omega (arith, b);
  within = omega (arith, b);
  each = λ i h. r.each i (omega (arith, b, e, h));
  joined = λ i h. r.joined i (omega (arith, b, e, h));
  longest = λ h. absurd (omega (arith, b, h));
}
