use Rattle.std.proofs.Common.{◌≡◌, ℕ, Bool, true, false, cond, List, [], ◌∷◌, ◌++◌, map, refl, ap, sym, ◌∙◌, ◌+◌, arith}
use Rattle.std.specs.Prelude.{filter}
use Rattle.std.specs.List.{range_with_len}
use Rattle.std.proofs.lemmas.Bool.{lt-ltb, le-ltb}
use Rattle.std.proofs.lemmas.List.{append-nil}
use Rattle.std.proofs.lemmas.List.FromFn.{filter_of_map_range_with_len_more}
use Rattle.page_census.specs.declared.table.CopiesClass.{CopiesClass}
use Rattle.page_census.specs.Counted.{counted_class}
use Rattle.page_census.specs.Numbers.{class_numbers, fewest, has_contents, most}
use Rattle.page_census.proofs.table.copies_table.Goals as goal
use Rattle.page_census.proofs.table.copies_table.Goals.{then-class-gt0, else-class-gt0}

numbers_are : (n : ℕ) → n ≡ 33 → range_with_len 0 n ≡ class_numbers
unfolding class_numbers
numbers_are n e = ap (range_with_len 0) e

module _ (f : ℕ → CopiesClass) (n : ℕ) (table : List CopiesClass) (so_far : table ≡ filter has_contents (map f (range_with_len 0 n))) (class : CopiesClass) (is : class ≡ f n) where
  more : filter has_contents (map f (range_with_len 0 (n + 1))) ≡ table ++ cond (has_contents class) (class ∷ []) []
  more = filter_of_map_range_with_len_more has_contents f 0 n n (omega arith) ∙ rw (← so_far, ← is) refl

  with_it : has_contents class ≡ true → table ++ class ∷ [] ≡ filter has_contents (map f (range_with_len 0 (n + 1)))
  with_it e = sym (more ∙ ap (λ (b : Bool). table ++ cond b (class ∷ []) []) e)

  without_it : has_contents class ≡ false → table ≡ filter has_contents (map f (range_with_len 0 (n + 1)))
  without_it e = sym (more ∙ ap (λ (b : Bool). table ++ cond b (class ∷ []) []) e ∙ append-nil table)

pub loop-number-preserved : goal.loop-number-preserved
loop-number-preserved g c =
    let so_far = c.loop-number.invariant in
    let number = c.loop-number.number in
    let class = c.count_class-class.result in
    let row : ℕ → CopiesClass = λ number. counted_class c.args.copies.now (fewest number) (most number) in
    let is : class ≡ row number = c.count_class-class.ensures ∙ rw (c.fewest.ensures, c.most.ensures) refl in
    record {
      table = elim c.if-class-gt0.branch [
        | then-class-gt0 w ↦ let some : has_contents class ≡ true = lt-ltb 0 class.contents w.if-class-gt0.true in rw w.table-is (w.push_reserved.ensures.items ∙ with_it row number c.loop-number.table.items so_far.table class is some)
        | else-class-gt0 w ↦ let none : has_contents class ≡ false = le-ltb 0 class.contents w.if-class-gt0.false in rw w.table-is (without_it row number c.loop-number.table.items so_far.table class is none)
      ];
      len = elim c.if-class-gt0.branch [
        | then-class-gt0 w ↦ rw w.table-is (omega (arith, so_far.len, w.push_reserved.ensures.len))
        | else-class-gt0 w ↦ rw w.table-is (omega (arith, so_far.len))
      ];
      room = elim c.if-class-gt0.branch [
        | then-class-gt0 w ↦ rw w.table-is (omega (arith, so_far.room, w.push_reserved.ensures.capacity))
        | else-class-gt0 w ↦ rw w.table-is so_far.room
      ];
    }

pub returns : goal.returns
returns g c =
    c.loop-number.invariant.table
    ∙ ap (λ (numbers : List ℕ). filter has_contents (map (λ number. counted_class c.args.copies.now (fewest number) (most number)) numbers)) (numbers_are c.loop-number.number (omega (arith, c.loop-number-test.false, c.loop-number.auto.number-end)))
