-- The fingerprints of pages, and what holds of contents once the classes of fingerprints are confirmed.
use Rattle.std.proofs.Common.{◌≡◌, ℕ, ◌+◌, ◌*◌, ◌<◌, ◌≤◌, Bool, true, false, ◌&&◌, eqb, List, [], ◌∷◌, ◌++◌, length, map, get_or, refl, sym, ap, ◌∙◌, ⊎_elim, arith}
use Rattle.std.proofs.lemmas.Bool.{both_ways, cases_lt, false_from_ne_true}
use Rattle.std.proofs.lemmas.List.{ext_get_or, get_or-map, length-map, length_push}
use Rattle.std.proofs.lemmas.List.FromFn.{length-map-range_with_len, get_or-map-range_with_len}
use Rattle.std.proofs.lemmas.List.Sums.{fails_before_first, position_or_len_is}
use Rattle.std.proofs.lemmas.Slice.Eq.{bytes_eq-Decides}
use Rattle.std.specs.Str.{bytes_eq}
use Rattle.page_census.specs.Classes.{AreAlike, DistinguishedBy, class_of}
use Rattle.page_census.specs.Contents.{Content, content_at, is_same}
use Rattle.page_census.specs.Fingerprints.{AreConfirmed, Sure, fingerprint_at, fingerprints, seen}
use Rattle.page_census.specs.declared.compare.Compare.{Compare}
use Rattle.page_census.specs.declared.compare.Compare.TheVariants.{Marks, Bytes}
use Rattle.page_census.proofs.Chained.{is_itself, is_one}

module _ (all : List Content) (marks : List ℕ) where
  length-fingerprints : length (fingerprints all marks) ≡ length all
  length-fingerprints = length-map-range_with_len (fingerprint_at all marks) 0 (length all)

  pub fingerprint_is : (n : ℕ) → n < length all → content_at (fingerprints all marks) n ≡ fingerprint_at all marks n
  fingerprint_is n lt = get_or-map-range_with_len (fingerprint_at all marks) 0 (length all) n n (0, []) lt (omega arith)

  pub length-seen : (by : Compare) → length (seen by all marks) ≡ length all
  length-seen Marks = length-fingerprints
  length-seen Bytes = refl

  equal_fingerprints : AreAlike (fingerprints all marks) marks
  equal_fingerprints i j li lj same =
      let one : fingerprint_at all marks i ≡ fingerprint_at all marks j = sym (fingerprint_is i (omega (arith, li, length-fingerprints))) ∙ same ∙ fingerprint_is j (omega (arith, lj, length-fingerprints)) in
      ap (λ (fingerprint : Content). get_or fingerprint.1 0 0) one

  pub alike_seen : (by : Compare) (steady : Type 0) → (steady → DistinguishedBy all marks) → Sure by steady → AreAlike (seen by all marks) marks
  alike_seen Marks steady apart sure = equal_fingerprints
  alike_seen Bytes steady apart sure = (apart sure).equal

  -- fingerprints differ where marks do
  pub other_fingerprint : (a b : ℕ) → a < length all → b < length all → (get_or marks a 0 ≡ get_or marks b 0 → ⊥) → false ≡ is_same (content_at (fingerprints all marks) a) (content_at (fingerprints all marks) b)
  other_fingerprint a b la lb differ = sym (false_from_ne_true _ (λ t.
      let one : fingerprint_at all marks a ≡ fingerprint_at all marks b = sym (fingerprint_is a la) ∙ is_one (content_at (fingerprints all marks) a) (content_at (fingerprints all marks) b) t ∙ fingerprint_is b lb in
      differ (ap (λ (fingerprint : Content). get_or fingerprint.1 0 0) one)))

  -- and under one mark where salts do
  pub salt_fingerprint : (a b x y : ℕ) → a < length all → b < length all → get_or marks a 0 ≡ get_or marks b 0 → (content_at all a).0 ≡ x → (content_at all b).0 ≡ y
      → eqb x y ≡ is_same (content_at (fingerprints all marks) a) (content_at (fingerprints all marks) b)
  salt_fingerprint a b x y la lb e ex ey =
      let one : bytes_eq (get_or marks a 0 ∷ []) (get_or marks b 0 ∷ []) ≡ true = (bytes_eq-Decides (get_or marks a 0 ∷ []) (get_or marks b 0 ∷ [])).1 (ap (λ (m : ℕ). m ∷ []) e) in
      let same_there : is_same (content_at (fingerprints all marks) a) (content_at (fingerprints all marks) b) ≡ is_same (fingerprint_at all marks a) (fingerprint_at all marks b) =
      ap (λ (fingerprint : Content). is_same fingerprint (content_at (fingerprints all marks) b)) (fingerprint_is a la) ∙ ap (is_same (fingerprint_at all marks a)) (fingerprint_is b lb) in
      sym (same_there ∙ ap (λ (t : Bool). eqb (content_at all a).0 (content_at all b).0 && t) one ∙ and_true (eqb (content_at all a).0 (content_at all b).0) ∙ ap (λ (m : ℕ). eqb m (content_at all b).0) ex ∙ ap (eqb x) ey)
    where
      and_true : (t : Bool) → (t && true) ≡ t
      and_true true = refl
      and_true false = refl

  -- the classes of fingerprints are those of contents once they are confirmed
  pub confirmed_right : (steady : Type 0) (classes : List ℕ) → length marks ≡ length all → classes ≡ map (class_of (fingerprints all marks)) (fingerprints all marks) → (steady → DistinguishedBy all marks)
      → AreConfirmed steady all classes 0 (length all) → steady → classes ≡ map (class_of all) all
  confirmed_right steady classes marked is apart confirmed s = ext_get_or 0 classes (map (class_of all) all) (len ∙ sym (length-map all (class_of all))) (λ i lt.
      let within : i < length all = omega (arith, lt, len) in
      guessed i within ∙ sym (right i within) ∙ sym (get_or-map (class_of all) all i (0, []) 0 within))
    where
      len : length classes ≡ length all
      len = ap length is ∙ length-map (fingerprints all marks) (class_of (fingerprints all marks)) ∙ length-fingerprints

      guess : ℕ → ℕ
      guess i = class_of (fingerprints all marks) (fingerprint_at all marks i)

      guessed : (i : ℕ) → i < length all → get_or classes i 0 ≡ class_of (fingerprints all marks) (fingerprint_at all marks i)
      guessed i lt = ap (λ (cs : List ℕ). get_or cs i 0) is ∙ get_or-map (class_of (fingerprints all marks)) (fingerprints all marks) i (0, []) 0 (omega (arith, lt, length-fingerprints)) ∙ ap (class_of (fingerprints all marks)) (fingerprint_is i lt)

      early : (i : ℕ) → i < length all → class_of (fingerprints all marks) (fingerprint_at all marks i) ≤ i
      early i lt = ⊎_elim
          (λ late. absurd (both_ways _ (fails_before_first (is_same (fingerprint_at all marks i)) (fingerprints all marks) i (0, []) late) (ap (is_same (fingerprint_at all marks i)) (fingerprint_is i lt) ∙ is_itself (fingerprint_at all marks i))))
          (λ le. le)
          (cases_lt i (class_of (fingerprints all marks) (fingerprint_at all marks i)))

      one_fingerprint : (i k : ℕ) → i < length all → k < length all → content_at all i ≡ content_at all k → fingerprint_at all marks i ≡ fingerprint_at all marks k
      one_fingerprint i k li lk same =
          let mark : get_or marks i 0 ≡ get_or marks k 0 = (apart s).equal i k li lk same in
          rw (same, mark) refl

      right : (i : ℕ) → i < length all → class_of all (content_at all i) ≡ class_of (fingerprints all marks) (fingerprint_at all marks i)
      right i lt =
          let first : ℕ = class_of (fingerprints all marks) (fingerprint_at all marks i) in
          let low : class_of (fingerprints all marks) (fingerprint_at all marks i) ≤ i = early i lt in
          position_or_len_is (is_same (content_at all i)) all (class_of (fingerprints all marks) (fingerprint_at all marks i)) (0, []) (omega (arith, low, lt))
          (λ k less. false_from_ne_true _ (λ t.
          let there : k < length all = omega (arith, less, low, lt) in
          let fingerprint : fingerprint_at all marks i ≡ fingerprint_at all marks k = one_fingerprint i k lt there (is_one (content_at all i) (content_at all k) t) in
          let fails : is_same (fingerprint_at all marks i) (content_at (fingerprints all marks) k) ≡ false = fails_before_first (is_same (fingerprint_at all marks i)) (fingerprints all marks) k (0, []) less in
          both_ways _ fails (ap (is_same (fingerprint_at all marks i)) (fingerprint_is k there ∙ sym fingerprint) ∙ is_itself (fingerprint_at all marks i))))
          (λ there. let same : content_at all i ≡ content_at all (class_of (fingerprints all marks) (fingerprint_at all marks i)) = confirmed.right s i (omega arith) lt lt ∙ ap (content_at all) (guessed i lt) in
          ap (is_same (content_at all i)) (sym same) ∙ is_itself (content_at all i))

-- one page more is confirmed
pub one_confirmed : (all : List Content) (classes : List ℕ) (from i : ℕ) → ((n : ℕ) → from ≤ n → n < i → content_at all n ≡ content_at all (get_or classes n 0))
    → content_at all i ≡ content_at all (get_or classes i 0) → (n : ℕ) → from ≤ n → n < i + 1 → content_at all n ≡ content_at all (get_or classes n 0)
one_confirmed all classes from i before here n low lt = ⊎_elim
    (λ less. before n low less)
    (λ late. let is : n ≡ i = omega arith in rw is here)
    (cases_lt n i)

module _ (steady : Type 0) (all : List Content) (classes : List ℕ) where
  -- one part more
  pub part_confirmed : {X : Type 0} (size : ℕ) (done : List X) (one : X) → AreConfirmed steady all classes 0 (size * length done)
      → AreConfirmed steady all classes (size * length done) (size * length done + size) → AreConfirmed steady all classes 0 (size * length (done ++ one ∷ []))
  part_confirmed size done one before here =
      let more : size * length (done ++ one ∷ []) ≡ size * length done + size = rw (length_push done one) (omega arith) in
      record {
        right = λ s n low lt within. ⊎_elim
            (λ less. before.right s n low less within)
            (λ late. here.right s n late (omega (arith, more, lt)) within)
            (cases_lt n (size * length done));
      }

  -- all are where the parts cover all
  pub all_confirmed : (to : ℕ) → length all ≤ to → AreConfirmed steady all classes 0 to → AreConfirmed steady all classes 0 (length all)
  all_confirmed to cover done = record { right = λ s n low lt within. done.right s n low (omega (arith, cover, lt)) within }
