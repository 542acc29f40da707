-- The numbers in total and the copies table, by the classes that occur.
use Rattle.std.proofs.Common.{◌≡◌, ℕ, ◌-◌, ◌<◌, Bool, true, false, ◌&&◌, cond, List, [], ◌∷◌, length, map, get_or, eqb, ltb, refl, ap, sym, ◌∙◌, ⊎_elim, arith}
use Rattle.std.specs.Prelude.{All, count_by, filter, sum_by}
use Rattle.std.specs.List.{list_any}
use Rattle.std.specs.Str.{bytes_eq}
use Rattle.std.proofs.lemmas.Bool.{cases_eq, lt-leb, lt-ltb}
use Rattle.std.proofs.lemmas.List.{get_or-map, length-map}
use Rattle.std.proofs.lemmas.List.Elements.{All-filter, All-head, All-map, All-tail, filter_passes}
use Rattle.std.proofs.lemmas.List.Sums.{passes_at_first, sum_by-cons}
use Rattle.std.proofs.lemmas.Slice.Eq.{bytes_eq-Decides}
use Rattle.page_model.specs.Pages.{blank}
use Rattle.page_census.specs.Classes.{class_of}
use Rattle.page_census.specs.Contents.{Content, content_at, is_same}
use Rattle.page_census.specs.Counted.{count_below, counted_class, counted_table, counted_total, is_zero_class}
use Rattle.page_census.specs.declared.numbers.GuestNumbers.{GuestNumbers}
use Rattle.page_census.specs.declared.numbers.TotalNumbers.{TotalNumbers}
use Rattle.page_census.specs.declared.table.CopiesClass.{CopiesClass}
use Rattle.page_census.specs.Marks.{mark_at}
use Rattle.page_census.specs.Numbers.{class_numbers, copies, copies_class, copies_table, distinct, fewest, has_contents, has_copies, is_between, is_zero, most, shared, sum_alone, zero_salts}
use Rattle.page_census.proofs.Chained.{is_one}
use Rattle.page_census.proofs.Summed.{count_passing, distinct_passing, same_below, sum_by_places}
use Rattle.page_census.proofs.Transfer.{IsIn, all_in, copies_same, distinct_same, mark_zero, shared_same, zero_marked}

both_blank : (a b : Content) → is_zero a ≡ true → is_zero b ≡ true → bytes_eq a.1 b.1 ≡ true
both_blank a b za zb = (bytes_eq-Decides a.1 b.1).1 ((bytes_eq-Decides a.1 blank).0 za ∙ sym ((bytes_eq-Decides b.1 blank).0 zb))

and_true : (t : Bool) → t ≡ (t && true)
and_true true = refl
and_true false = refl

any_salt : (x : Content) → is_zero x ≡ true → (xs : List Content) → All (λ c. is_zero c ≡ true) xs → list_any (eqb x.0) (map (λ (c : Content). c.0) xs) ≡ list_any (is_same x) xs
any_salt x zx [] zs = refl
any_salt x zx (y ∷ ys) zs =
    let here : is_zero y ≡ true = All-head (λ (c : Content). is_zero c ≡ true) y ys zs in
    rw (both_blank x y zx here, any_salt x zx ys (All-tail (λ (c : Content). is_zero c ≡ true) y ys zs), ← (and_true (eqb x.0 y.0))) refl

-- pages of zeros are different where their salts are
pub salts_apart : (xs : List Content) → All (λ c. is_zero c ≡ true) xs → distinct is_same xs ≡ distinct eqb (map (λ (c : Content). c.0) xs)
salts_apart [] zs = refl
salts_apart (x ∷ xs) zs =
    let here : is_zero x ≡ true = All-head (λ (c : Content). is_zero c ≡ true) x xs zs in
    let later = All-tail (λ (c : Content). is_zero c ≡ true) x xs zs in
    rw (any_salt x here xs later, salts_apart xs later) refl

between_some : (from to n : ℕ) → 0 < from → is_between from to n ≡ (is_between from to n && ltb 0 n)
between_some from to n some = ⊎_elim
    (λ none. rw (← none, lt-leb from 0 some) refl)
    (λ more. rw (lt-ltb 0 n (omega (arith, more))) (and_true (is_between from to n)))
    (cases_eq 0 n)

module _ (all : List Content) (p : Content → Bool) (q : ℕ → Bool) (agree : (c : Content) → class_of all c < length all → p c ≡ q (class_of all c)) where
  kept : (t : Bool) (c : Content) (ys : List Content) (ks : List ℕ) → map (class_of all) ys ≡ ks → map (class_of all) (cond t (c ∷ ys) ys) ≡ cond t (class_of all c ∷ ks) ks
  kept true c ys ks e = ap (λ (ms : List ℕ). class_of all c ∷ ms) e
  kept false c ys ks e = e

  -- what passes among contents passes among their classes
  filter_same : (xs : List Content) → All (IsIn all) xs → map (class_of all) (filter p xs) ≡ filter q (map (class_of all) xs)
  filter_same [] within = refl
  filter_same (x ∷ xs) within =
      let rest : List ℕ = filter q (map (class_of all) xs) in
      kept (p x) x (filter p xs) rest (filter_same xs (All-tail (IsIn all) x xs within)) ∙ ap (λ (t : Bool). cond t (class_of all x ∷ rest) rest) (agree x (All-head (IsIn all) x xs within))

  count_same : (xs : List Content) → All (IsIn all) xs → count_by p xs ≡ count_by q (map (class_of all) xs)
  count_same [] within = refl
  count_same (x ∷ xs) within =
      sum_by-cons (λ (c : Content). cond (p c) 1 0) x xs
      ∙ rw (agree x (All-head (IsIn all) x xs within), count_same xs (All-tail (IsIn all) x xs within)) (sym (sum_by-cons (λ (k : ℕ). cond (q k) 1 0) (class_of all x) (map (class_of all) xs)))

module _ (all : List Content) (counts : List ℕ) (len : length counts ≡ length all) (right : (k : ℕ) → k < length all → get_or counts k 0 ≡ copies eqb k (map (class_of all) all)) where
  low : All (λ k. k < length counts) (map (class_of all) all)
  low = rw len (All-map (λ (k : ℕ). k < length all) (class_of all) all (all_in all))

  all_right : (k : ℕ) → k < length counts → get_or counts k 0 ≡ copies eqb k (map (class_of all) all)
  all_right k lt = right k (omega (arith, len, lt))

  different : (p : Content → Bool) (q : ℕ → Bool) → ((c : Content) → class_of all c < length all → p c ≡ q (class_of all c)) → distinct is_same (filter p all) ≡ count_below (λ k. q k && ltb 0 (get_or counts k 0)) (length counts)
  different p q agree =
      distinct_same all (filter p all) (All-filter p (IsIn all) all (all_in all))
      ∙ ap (distinct eqb) (filter_same all p q agree all (all_in all))
      ∙ distinct_passing (map (class_of all) all) counts low all_right q (All-filter q (λ (k : ℕ). k < length counts) (map (class_of all) all) low)

  class_is : (from to : ℕ) → 0 < from → counted_class counts from to ≡ copies_class all from to
  class_is from to some =
      let q : ℕ → Bool = λ k. is_between from to (get_or counts k 0) in
      let agree : (c : Content) → class_of all c < length all → has_copies all from to c ≡ q (class_of all c) = λ c within. ap (is_between from to) (copies_same all c within all ∙ sym (right (class_of all c) within)) in
      let contents : count_by (is_between from to) counts ≡ distinct is_same (filter (has_copies all from to) all) =
      sum_by_places (λ n. cond (is_between from to n) 1 0) counts
      ∙ same_below (λ k. cond (q k) 1 0) (λ k. cond (q k && ltb 0 (get_or counts k 0)) 1 0) (length counts) (λ k lt. ap (λ (t : Bool). cond t 1 0) (between_some from to (get_or counts k 0) some))
      ∙ sym (different (has_copies all from to) q agree) in
      let pages : sum_by (λ n. cond (is_between from to n) n 0) counts ≡ count_by (has_copies all from to) all =
      sum_by_places (λ n. cond (is_between from to n) n 0) counts ∙ sym (count_passing (map (class_of all) all) counts low all_right q) ∙ sym (count_same all (has_copies all from to) q agree all (all_in all)) in
      rw (contents, pages) refl

  rows_same : (numbers : List ℕ) → map (λ number. counted_class counts (fewest number) (most number)) numbers ≡ map (λ number. copies_class all (fewest number) (most number)) numbers
  rows_same [] = refl
  rows_same (n ∷ ns) =
      let row : counted_class counts (fewest n) (most n) ≡ copies_class all (fewest n) (most n) = class_is (fewest n) (most n) (omega arith) in
      let rest : List CopiesClass = map (λ number. counted_class counts (fewest number) (most number)) ns in
      ap (λ (class : CopiesClass). class ∷ rest) row ∙ ap (λ (classes : List CopiesClass). copies_class all (fewest n) (most n) ∷ classes) (rows_same ns)

  -- the table by copies of classes is the table by contents
  pub table_is : counted_table counts ≡ copies_table all
  table_is = ap (filter has_contents) (rows_same class_numbers)

  module _ (hash : ℕ → List ℕ → ℕ) where
    abbrev marks : List ℕ
    marks = map (mark_at hash) all

    zero_at : (c : Content) → class_of all c < length all → is_zero c ≡ eqb (get_or marks (class_of all c) 0) 0
    zero_at c within =
        let first : c ≡ content_at all (class_of all c) = is_one c (content_at all (class_of all c)) (passes_at_first (is_same c) all (0, []) within) in
        let is : get_or marks (class_of all c) 0 ≡ mark_at hash c = get_or-map (mark_at hash) all (class_of all c) (0, []) 0 within ∙ ap (mark_at hash) (sym first) in
        sym (mark_zero (bytes_eq c.1 blank) (hash c.0 c.1)) ∙ ap (λ (m : ℕ). eqb m 0) (sym is)

    zero_classes : count_below (is_zero_class counts marks) (length counts) ≡ zero_salts all
    zero_classes = sym (different is_zero (λ k. eqb (get_or marks k 0) 0) zero_at) ∙ salts_apart (filter is_zero all) (filter_passes is_zero all)

    -- the numbers in total by classes are those by contents
    pub total_is : (frames : ℕ) (numbers : List GuestNumbers) → frames ≡ distinct eqb (map (class_of all) all)
        → let meant : TotalNumbers = record {
          pages = length all;
          zero = count_by is_zero all;
          shared = shared is_same all all;
          frames = distinct is_same all;
          reclaimed = length all - distinct is_same all;
          zero_reclaimed = count_by is_zero all - zero_salts all;
          between = length all - distinct is_same all - sum_alone numbers;
        } in
        counted_total counts frames marks (map (class_of all) all) numbers ≡ meant
    total_is frames numbers e =
        let s : shared is_same all all ≡ count_by (λ class. ltb 1 (get_or counts class 0)) (map (class_of all) all) = shared_same all counts right all (all_in all) in
        let f : frames ≡ distinct is_same all = e ∙ sym (distinct_same all all (all_in all)) in
        rw (length-map all (class_of all), zero_marked hash all, zero_classes, ← s, f) refl
