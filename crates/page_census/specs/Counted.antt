-- The same numbers, by marks and classes instead of contents.
use Rattle.std.specs.Prelude.{ℕ, zero, suc, ◌+◌, ◌-◌, ◌==◌, ◌&&◌, nat_eq, nat_lt, Bool, if◌then◌else◌}
use Rattle.std.specs.Prelude.{List, [], ◌∷◌, length, map, take, drop, count_by, filter, slice_index, sum_by}
use Rattle.page_census.specs.Numbers.{class_numbers, distinct, fewest, has_contents, is_between, most, shared, sum_alone}
use Rattle.page_census.specs.declared.numbers.GuestNumbers.{GuestNumbers}
use Rattle.page_census.specs.declared.numbers.TotalNumbers.{TotalNumbers}
use Rattle.page_census.specs.declared.table.CopiesClass.{CopiesClass}
use Rattle.page_census.specs.declared.guest.Guest.{Guest}

-- the numbers of pages of these marks and classes, given how often each class occurs among all pages
abbrev pub counted_numbers : List ℕ → List ℕ → List ℕ → GuestNumbers
counted_numbers copies marks classes = record {
  pages = length classes;
  zero = count_by (λ mark. mark == 0) marks;
  distinct = distinct nat_eq classes;
  shared = count_by (λ class. nat_lt 1 (slice_index copies class)) classes;
  within = shared nat_eq classes classes;
  alone = length classes - distinct nat_eq classes;
}

-- those of each guest; the lists have the marks and classes of one guest after the other
abbrev pub counted_guests : {S : Type 0} → (S → List (List ℕ)) → List ℕ → List (Guest S) → List ℕ → List ℕ → List GuestNumbers
counted_guests pages copies [] marks classes = []
counted_guests pages copies (guest ∷ guests) marks classes =
    let n = length (pages guest.source) in
    counted_numbers copies (take n marks) (take n classes) ∷ counted_guests pages copies guests (drop n marks) (drop n classes)

-- the sum of f over the numbers below n
abbrev pub sum_below : (ℕ → ℕ) → ℕ → ℕ
sum_below f zero = 0
sum_below f (suc n) = sum_below f n + f n

-- how many numbers below n pass
abbrev pub count_below : (ℕ → Bool) → ℕ → ℕ
count_below p n = sum_below (λ k. if p k then 1 else 0) n

-- the class occurs, and its first page has the mark of zeros
abbrev pub is_zero_class : List ℕ → List ℕ → ℕ → Bool
is_zero_class copies marks class = slice_index marks class == 0 && nat_lt 0 (slice_index copies class)

-- the numbers in total, if this many classes occur
abbrev pub counted_total : List ℕ → ℕ → List ℕ → List ℕ → List GuestNumbers → TotalNumbers
counted_total copies frames marks classes numbers = record {
  pages = length classes;
  zero = count_by (λ mark. mark == 0) marks;
  shared = count_by (λ class. nat_lt 1 (slice_index copies class)) classes;
  frames = frames;
  reclaimed = length classes - frames;
  zero_reclaimed = count_by (λ mark. mark == 0) marks - count_below (is_zero_class copies marks) (length copies);
  between = length classes - frames - sum_alone numbers;
}

-- the classes with at least `from` and at most `to` copies
abbrev pub counted_class : List ℕ → ℕ → ℕ → CopiesClass
counted_class copies from to = record {
  from = from;
  to = to;
  contents = count_by (is_between from to) copies;
  pages = sum_by (λ count. if is_between from to count then count else 0) copies;
}

abbrev pub counted_table : List ℕ → List CopiesClass
counted_table copies = filter has_contents (map (λ number. counted_class copies (fewest number) (most number)) class_numbers)
