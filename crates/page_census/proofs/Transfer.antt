-- What is counted of contents is what is counted of their classes and marks.
use Rattle.std.proofs.Common.{◌≡◌, ℕ, ◌++◌, ◌<◌, Bool, true, false, cond, max, List, [], ◌∷◌, length, map, get_or, eqb, ltb, refl, ap, sym, ◌∙◌, ⊎_elim, arith}
use Rattle.std.specs.Prelude.{count_by, All}
use Rattle.std.specs.List.{list_any}
use Rattle.std.specs.Str.{bytes_eq}
use Rattle.std.proofs.lemmas.Bool.{both_ways, cases_lt, eq-eqb, ne_eqb}
use Rattle.std.proofs.lemmas.List.{drop_at, get_or-map, length-map, map-append, take_at}
use Rattle.std.proofs.lemmas.Slice.Eq.{bytes_eq-Decides}
use Rattle.std.proofs.lemmas.List.Elements.{All-drop, All-from_get_or, All-head, All-tail, All-take}
use Rattle.std.proofs.lemmas.List.Sums.{fails_before_first, passes_at_first, sum_by-cons}
use Rattle.page_model.specs.Pages.{blank}
use Rattle.page_census.specs.Classes.{DistinguishedBy, class_of}
use Rattle.page_census.specs.Contents.{Content, content_at, contents, contents_of, is_same}
use Rattle.page_census.specs.Counted.{counted_guests, counted_numbers}
use Rattle.page_census.specs.declared.guest.Guest.{Guest}
use Rattle.page_census.specs.Marks.{mark_at}
use Rattle.page_census.specs.Numbers.{copies, distinct, guest_numbers, is_zero, shared}
use Rattle.page_census.proofs.Chained.{is_itself, is_one}

pub mark_zero : (z : Bool) (h : ℕ) → eqb (cond z 0 (max h 1)) 0 ≡ z
mark_zero true h = refl
mark_zero false h = ne_eqb (max h 1) 0 (λ e. omega (arith, e))

pub zero_marked : (hash : ℕ → List ℕ → ℕ) (cs : List Content) → count_by (λ mark. eqb mark 0) (map (mark_at hash) cs) ≡ count_by is_zero cs
zero_marked hash [] = refl
zero_marked hash (c ∷ cs) =
    let here : eqb (mark_at hash c) 0 ≡ is_zero c = mark_zero (bytes_eq c.1 blank) (hash c.0 c.1) in
    sum_by-cons (λ (m : ℕ). cond (eqb m 0) 1 0) (mark_at hash c) (map (mark_at hash) cs) ∙ rw (here, zero_marked hash cs) (sym (sum_by-cons (λ (x : Content). cond (is_zero x) 1 0) c cs))

module _ (all : List Content) where
  abbrev pub IsIn : Content → Type 0
  IsIn c = class_of all c < length all

  -- two pages have one class exactly where their contents are one
  pub same_class : (a b : Content) → IsIn a → is_same a b ≡ eqb (class_of all a) (class_of all b)
  same_class a b within = pick (is_same a b) refl
    where
      pick : (t : Bool) → is_same a b ≡ t → t ≡ eqb (class_of all a) (class_of all b)
      pick true e = sym (eq-eqb (class_of all a) (class_of all b) (ap (class_of all) (is_one a b e)))
      pick false e = sym (ne_eqb (class_of all a) (class_of all b) (λ same.
          let first : a ≡ content_at all (class_of all a) = is_one a (content_at all (class_of all a)) (passes_at_first (is_same a) all (0, []) within) in
          let other : b ≡ content_at all (class_of all b) = is_one b (content_at all (class_of all b)) (passes_at_first (is_same b) all (0, []) (omega (arith, same, within))) in
          let one : a ≡ b = first ∙ ap (content_at all) same ∙ sym other in
          both_ways _ e (rw (← one) (is_itself a))))

  pub all_in : All IsIn all
  all_in = All-from_get_or IsIn all (0, []) (λ k lt. ⊎_elim
      (λ early. omega (arith, early, lt))
      (λ late. ⊎_elim
      (λ past. absurd (both_ways _ (fails_before_first (is_same (content_at all k)) all k (0, []) past) (is_itself (content_at all k))))
      (λ here. omega (arith, here, lt))
      (cases_lt k (class_of all (content_at all k))))
      (cases_lt (class_of all (content_at all k)) k))

  pub copies_same : (x : Content) → IsIn x → (xs : List Content) → copies is_same x xs ≡ copies eqb (class_of all x) (map (class_of all) xs)
  copies_same x within [] = refl
  copies_same x within (y ∷ ys) =
      sum_by-cons (λ (z : Content). cond (is_same x z) 1 0) y ys ∙ rw (same_class x y within, copies_same x within ys) (sym (sum_by-cons (λ (k : ℕ). cond (eqb (class_of all x) k) 1 0) (class_of all y) (map (class_of all) ys)))

  any_same : (x : Content) → IsIn x → (xs : List Content) → list_any (is_same x) xs ≡ list_any (eqb (class_of all x)) (map (class_of all) xs)
  any_same x within [] = refl
  any_same x within (y ∷ ys) = rw (same_class x y within, any_same x within ys) refl

  pub distinct_same : (xs : List Content) → All IsIn xs → distinct is_same xs ≡ distinct eqb (map (class_of all) xs)
  distinct_same [] within = refl
  distinct_same (x ∷ xs) within = rw (any_same x (All-head IsIn x xs within) xs, distinct_same xs (All-tail IsIn x xs within)) refl

  -- by a list of the copies of each class
  pub shared_same : (counts : List ℕ) → ((k : ℕ) → k < length all → get_or counts k 0 ≡ copies eqb k (map (class_of all) all)) → (xs : List Content) → All IsIn xs
      → shared is_same all xs ≡ count_by (λ class. ltb 1 (get_or counts class 0)) (map (class_of all) xs)
  shared_same counts right [] within = refl
  shared_same counts right (x ∷ xs) within =
      let here = All-head IsIn x xs within in
      let counted : copies is_same x all ≡ get_or counts (class_of all x) 0 = copies_same x here all ∙ sym (right (class_of all x) here) in
      sum_by-cons (λ (y : Content). cond (ltb 1 (copies is_same y all)) 1 0) x xs
      ∙ rw (counted, shared_same counts right xs (All-tail IsIn x xs within)) (sym (sum_by-cons (λ (k : ℕ). cond (ltb 1 (get_or counts k 0)) 1 0) (class_of all x) (map (class_of all) xs)))

  -- how many of xs have a second copy among own is known by classes
  pub within_same : (own xs : List Content) → All IsIn xs → shared is_same own xs ≡ shared eqb (map (class_of all) own) (map (class_of all) xs)
  within_same own [] within = refl
  within_same own (x ∷ xs) within =
      let here = All-head IsIn x xs within in
      sum_by-cons (λ (y : Content). cond (ltb 1 (copies is_same y own)) 1 0) x xs
      ∙ rw (copies_same x here own, within_same own xs (All-tail IsIn x xs within)) (sym (sum_by-cons (λ (k : ℕ). cond (ltb 1 (copies eqb k (map (class_of all) own))) 1 0) (class_of all x) (map (class_of all) xs)))

blank_of : (hash : ℕ → List ℕ → ℕ) (c : Content) → mark_at hash c ≡ 0 → c.1 ≡ blank
blank_of hash c e = (bytes_eq-Decides c.1 blank).0 (sym (mark_zero (bytes_eq c.1 blank) (hash c.0 c.1)) ∙ eq-eqb (mark_at hash c) 0 e)

-- marks distinguish contents
pub distinguished : (hash : ℕ → List ℕ → ℕ) (all : List Content) (marks : List ℕ) → marks ≡ map (mark_at hash) all → DistinguishedBy all marks
distinguished hash all marks e = record {
  equal = λ i j li lj same. at i li ∙ ap (mark_at hash) same ∙ sym (at j lj);
  zeros = λ i li zero. blank_of hash (content_at all i) (sym (at i li) ∙ zero);
}
  where
    at : (i : ℕ) → i < length all → get_or marks i 0 ≡ mark_at hash (content_at all i)
    at i lt = ap (λ (ms : List ℕ). get_or ms i 0) e ∙ get_or-map (mark_at hash) all i (0, []) 0 lt

module _ {S : Type 0} (pages : S → List (List ℕ)) (hash : ℕ → List ℕ → ℕ) (all : List Content) (counts : List ℕ) (right : (k : ℕ) → k < length all → get_or counts k 0 ≡ copies eqb k (map (class_of all) all)) where
  one_guest : (own : List Content) → All (IsIn all) own → counted_numbers counts (map (mark_at hash) own) (map (class_of all) own) ≡ guest_numbers all own
  one_guest own within =
      rw (length-map own (class_of all), zero_marked hash own, ← (distinct_same all own within), ← (shared_same all counts right own within), ← (within_same all own own within)) refl

  -- the numbers of all guests are those that their contents give
  pub counted_are : (guests : List (Guest S)) → All (IsIn all) (contents pages guests)
      → counted_guests pages counts guests (map (mark_at hash) (contents pages guests)) (map (class_of all) (contents pages guests)) ≡ map (λ (guest : Guest S). guest_numbers all (contents_of pages guest)) guests
  counted_are [] within = refl
  counted_are (guest ∷ guests) within =
      let own : List Content = contents_of pages guest in
      let rest : List Content = contents pages guests in
      let n : ℕ = length (pages guest.source) in
      let count : length own ≡ n = length-map (pages guest.source) (λ (bytes : List ℕ). let c : Content = (guest.salt, bytes) in c) in
      let marks_len : length (map (mark_at hash) own) ≡ n = length-map own (mark_at hash) ∙ count in
      let classes_len : length (map (class_of all) own) ≡ n = length-map own (class_of all) ∙ count in
      let first : All (IsIn all) own = let t = All-take (IsIn all) n (own ++ rest) within in rw (take_at own rest n count) at t in
      let later : All (IsIn all) rest = let t = All-drop (IsIn all) n (own ++ rest) within in rw (drop_at own rest n count) at t in
      rw (
        map-append (mark_at hash) own rest,
        map-append (class_of all) own rest,
        take_at (map (mark_at hash) own) (map (mark_at hash) rest) n marks_len,
        take_at (map (class_of all) own) (map (class_of all) rest) n classes_len,
        drop_at (map (mark_at hash) own) (map (mark_at hash) rest) n marks_len,
        drop_at (map (class_of all) own) (map (class_of all) rest) n classes_len,
        one_guest own first,
        counted_are guests later,
      ) refl
