-- The walk through the first pages of a bucket.
use Rattle.std.proofs.Common.{◌≡◌, ℕ, zero, suc, ◌%◌, ◌<◌, ◌≤◌, Bool, true, false, ◌&&◌, cond, List, [], length, take, get_or, eqb, refl, sym, ap, subst, ◌∙◌, ⊎_elim, arith}
use Rattle.std.proofs.lemmas.Bool.{eqb-true, eq-eqb, and_parts, both_ways, cases_order, and_from, false_from_ne_true}
use Rattle.std.proofs.lemmas.List.{get_or-map, get_or-take, length-take}
use Rattle.std.proofs.lemmas.List.Sums.{passes_at_first, position_or_len_is}
use Rattle.std.proofs.lemmas.Slice.Eq.{bytes_eq-Decides}
use Rattle.std.specs.Str.{bytes_eq}
use Rattle.page_census.specs.Contents.{Content, content_at, is_same}
use Rattle.page_census.specs.Classes.{Classed, class_of, last_in}

-- what is known once the first pages down to a link were compared with the page of this number
pub record Walks (steady : Type 0) (all : List Content) (marks classes : List ℕ) (buckets number link : ℕ) : Type 0 where
  pub bound : ℕ
  pub within : bound ≤ number
  pub is : link ≡ last_in marks classes buckets (get_or marks number 0 % buckets) bound
  pub passed : steady → (j : ℕ) → link ≤ j → j < number → get_or classes j 0 ≡ j → content_at all j ≡ content_at all number → ⊥

module _ (marks classes : List ℕ) (buckets bucket : ℕ) where
  abbrev is_first : ℕ → Bool
  is_first n = eqb (get_or classes n 0) n && eqb (get_or marks n 0 % buckets) bucket

  -- what the last first page is
  pub record Found (n first : ℕ) : Type 0 where
    pub within : first < n
    pub own : get_or classes first 0 ≡ first
    pub bucket_is : get_or marks first 0 % buckets ≡ bucket

  found_step : (n first : ℕ) (t : Bool) → (eqb (get_or classes n 0) n && eqb (get_or marks n 0 % buckets) bucket) ≡ t → (last_in marks classes buckets bucket n ≡ suc first → Found n first)
      → cond t (suc n) (last_in marks classes buckets bucket n) ≡ suc first → Found (suc n) first
  found_step n first true t before e =
      let here : n ≡ first = omega (arith, e) in
      let both = and_parts (eqb (get_or classes n 0) n) (eqb (get_or marks n 0 % buckets) bucket) t in
      let P : ℕ → Type 0 = λ m. Found (suc n) m in
      subst P here (record { within = omega arith; own = eqb-true (get_or classes n 0) n both.0; bucket_is = eqb-true (get_or marks n 0 % buckets) bucket both.1 })
  found_step n first false t before e = let f = before e in record { within = omega (arith, f.within); own = f.own; bucket_is = f.bucket_is }

  pub found : (n first : ℕ) → last_in marks classes buckets bucket n ≡ suc first → Found n first
  found zero first e = absurd (omega (arith, e))
  found (suc n) first e = found_step n first (is_first n) refl (found n first) e

  last_step : (n : ℕ) (t : Bool) → last_in marks classes buckets bucket n ≤ n → cond t (suc n) (last_in marks classes buckets bucket n) ≤ suc n
  last_step n true before = omega arith
  last_step n false before = omega arith

  pub last_le : (n : ℕ) → last_in marks classes buckets bucket n ≤ n
  last_le zero = omega arith
  last_le (suc n) = last_step n (is_first n) (last_le n)

  skipped_step : (n j : ℕ) (t : Bool) → (eqb (get_or classes n 0) n && eqb (get_or marks n 0 % buckets) bucket) ≡ t → j < suc n → get_or classes j 0 ≡ j → get_or marks j 0 % buckets ≡ bucket
      → (last_in marks classes buckets bucket n ≤ j → j < n → ⊥) → cond t (suc n) (last_in marks classes buckets bucket n) ≤ j → ⊥
  skipped_step n j true t high own same before low = absurd (omega arith)
  skipped_step n j false t high own same before low = ⊎_elim
      (λ e. both_ways _ t (and_from _ _ (eq-eqb (get_or classes n 0) n (rw e at own)) (eq-eqb (get_or marks n 0 % buckets) bucket (rw e at same))))
      (λ o. ⊎_elim (λ lt. before low lt) (λ gt. absurd (omega arith)) o) (cases_order j n)

  -- no first page of the bucket stands from there on
  pub skipped : (n j : ℕ) → last_in marks classes buckets bucket n ≤ j → j < n → get_or classes j 0 ≡ j → get_or marks j 0 % buckets ≡ bucket → ⊥
  skipped zero j low high own same = absurd (omega arith)
  skipped (suc n) j low high own same = skipped_step n j (is_first n) refl high own same (λ l h. skipped n j l h own same) low

pair_is : (x y : ℕ) (u v : List ℕ) → x ≡ y → u ≡ v → let a : Content = (x, u) in let b : Content = (y, v) in a ≡ b
pair_is x y u v e f = rw (e, f) refl

-- contents that are the same are one, and each is the same as itself
pub is_one : (a b : Content) → is_same a b ≡ true → a ≡ b
is_one a b t =
    let both = and_parts (eqb a.0 b.0) (bytes_eq a.1 b.1) t in
    pair_is a.0 b.0 a.1 b.1 (eqb-true a.0 b.0 both.0) ((bytes_eq-Decides a.1 b.1).0 both.1)

pub is_itself : (a : Content) → is_same a a ≡ true
is_itself a = and_from (eqb a.0 a.0) (bytes_eq a.1 a.1) (eq-eqb a.0 a.0 refl) ((bytes_eq-Decides a.1 a.1).1 refl)

module _ (steady : Type 0) (all : List Content) (marks classes links heads : List ℕ) (known : Classed steady all marks classes links heads) (number : ℕ) (next : number ≡ length classes) (more : number < length all) where
  abbrev pub bucket : ℕ
  bucket = get_or marks number 0 % length heads

  -- the class of a first page
  first_class : steady → (j : ℕ) → j < number → get_or classes j 0 ≡ class_of all (content_at all j)
  first_class steady j lt =
      let within : j < length (take (length classes) all) = omega (arith, length-take (length classes) all, next) in
      let taken : content_at (take (length classes) all) j ≡ content_at all j = get_or-take (length classes) all j (0, []) (omega arith) in
      ap (λ (cs : List ℕ). get_or cs j 0) (known.right steady) ∙ get_or-map (class_of all) (take (length classes) all) j (0, []) 0 within ∙ ap (class_of all) taken

  pub starts : (link : ℕ) → link ≡ last_in marks classes (length heads) (get_or marks number 0 % length heads) (length classes) → Walks steady all marks classes (length heads) number link
  starts link e =
      let is : link ≡ last_in marks classes (length heads) bucket number = e ∙ ap (last_in marks classes (length heads) bucket) (sym next) in
      record {
        bound = number;
        within = omega arith;
        is = is;
        passed = λ s j low high own same.
            skipped marks classes (length heads) bucket number j (omega (arith, is)) high own
            (ap (λ (m : ℕ). m % length heads) (known.alike s j number (omega arith) more same));
      }

  module _ (link : ℕ) (walk : Walks steady all marks classes (length heads) number link) where
    -- the first page that a link leads to
    pub at_link : (first : ℕ) → link ≡ suc first → Found marks classes (length heads) bucket walk.bound first
    at_link first e = found marks classes (length heads) bucket walk.bound first (sym walk.is ∙ e)

    pub goes_on : (first after : ℕ) → link ≡ suc first → after ≡ get_or links first 0 → (steady → is_same (content_at all number) (content_at all first) ≡ false) → Walks steady all marks classes (length heads) number after
    goes_on first after e ea other =
        let f = at_link first e in
        let w = walk.within in
        let lower = f.within in
        let is : after ≡ last_in marks classes (length heads) bucket first = ea ∙ known.links_are first (omega arith) ∙ ap (λ (b : ℕ). last_in marks classes (length heads) b first) f.bucket_is in
        record {
          bound = first;
          within = omega arith;
          is = is;
          passed = λ s j low high own same. ⊎_elim
              (λ here. both_ways _ (other s) (let at : content_at all number ≡ content_at all first = sym same ∙ ap (content_at all) here in rw at (is_itself (content_at all first))))
              (λ o. ⊎_elim
              (λ lt. skipped marks classes (length heads) bucket first j (omega (arith, is)) lt own (ap (λ (m : ℕ). m % length heads) (known.alike s j number (omega arith) more same)))
              (λ gt. walk.passed s j (omega arith) high own same) o)
              (cases_order j first);
        }

    pub ends_same : steady → (first : ℕ) → link ≡ suc first → is_same (content_at all number) (content_at all first) ≡ true → first ≡ class_of all (content_at all number)
    ends_same s first e t =
        let f = at_link first e in
        let w = walk.within in
        let lower = f.within in
        sym f.own ∙ first_class s first (omega arith) ∙ ap (class_of all) (sym (is_one (content_at all number) (content_at all first) t))

    pub ends_none : steady → link ≡ 0 → number ≡ class_of all (content_at all number)
    ends_none s e = sym (position_or_len_is (is_same (content_at all number)) all number (0, []) (omega arith)
        (λ k lt. false_from_ne_true _ (λ t.
        let same : content_at all number ≡ content_at all k = is_one (content_at all number) (content_at all k) t in
        let first : ℕ = class_of all (content_at all k) in
        let is : get_or classes k 0 ≡ first = first_class s k lt in
        let low = known.below k (omega arith) in
        let back : first ≤ k = omega (arith, is, low) in
        let at : content_at all k ≡ content_at all first = is_one (content_at all k) (content_at all first) (passes_at_first (is_same (content_at all k)) all (0, []) (omega (arith, back))) in
        let own : get_or classes first 0 ≡ first = first_class s first (omega (arith, back)) ∙ ap (class_of all) (sym at) in
        walk.passed s first (omega (arith, e)) (omega (arith, back)) own (sym at ∙ sym same)))
        (λ lt. is_itself (content_at all number)))
