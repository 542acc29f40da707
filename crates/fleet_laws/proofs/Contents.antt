-- What is counted of contents is what is counted of their digests.
use Rattle.std.proofs.Common.{◌≡◌, ℕ, Bool, true, false, ◌&&◌, List, get_or, map, eqb, ltb, refl, ap, sym, ◌∙◌}
use Rattle.std.specs.Prelude.{All, count_by}
use Rattle.std.specs.List.{Contains}
use Rattle.std.specs.Str.{bytes_eq}
use Rattle.std.proofs.lemmas.Bool.{both_ways, eq-eqb, ne_eqb}
use Rattle.std.proofs.lemmas.Slice.Eq.{bytes_eq-Decides}
use Rattle.page_model.specs.Pages.{blank}
use Rattle.guest_digests.specs.Samples.{zeros_digest}
use Rattle.page_census.specs.Contents.{Content, is_same}
use Rattle.page_census.specs.Numbers.{copies, distinct, is_zero, shared}
use Rattle.page_census.proofs.Chained.{is_itself, is_one}
use Rattle.fleet_laws.specs.Merges.{AreApart, digest}
use Rattle.fleet_laws.proofs.Keys.{copies_by, distinct_by, passing_by}

module _ (known : List Content) (apart : AreApart known) where
  -- two contents have one digest exactly where they are one
  pub same_by_digest : (a b : Content) → Contains known a → Contains known b → is_same a b ≡ eqb (digest a) (digest b)
  same_by_digest a b ka kb = pick (is_same a b) refl
    where
      pick : (t : Bool) → is_same a b ≡ t → t ≡ eqb (digest a) (digest b)
      pick true e = sym (eq-eqb (digest a) (digest b) (ap digest (is_one a b e)))
      pick false e = sym (ne_eqb (digest a) (digest b) (λ same.
          let one : a ≡ b = apart.each a b ka kb same in
          both_ways _ e (rw (← one) (is_itself a))))

  pub copies_by_digest : (x : Content) → Contains known x → (xs : List Content) → All (Contains known) xs → copies is_same x xs ≡ copies eqb (digest x) (map digest xs)
  copies_by_digest = copies_by (Contains known) is_same digest same_by_digest

  pub distinct_by_digest : (xs : List Content) → All (Contains known) xs → distinct is_same xs ≡ distinct eqb (map digest xs)
  distinct_by_digest = distinct_by (Contains known) is_same digest same_by_digest

  pub shared_by_digest : (all xs : List Content) → All (Contains known) all → All (Contains known) xs → shared is_same all xs ≡ count_by (λ k. ltb 1 (copies eqb k (map digest all))) (map digest xs)
  shared_by_digest all xs ka ks =
      passing_by digest (λ x. ltb 1 (copies is_same x all)) (λ k. ltb 1 (copies eqb k (map digest all))) xs (λ i d lt. ap (ltb 1) (copies_by_digest (get_or xs i d) (ks i d lt) all ka))

  -- a page of zeros is known by the digest of zeros under its salt
  pub zero_by_digest : (salt : ℕ) (bytes : List ℕ) → let zeros : Content = (salt, blank) in let c : Content = (salt, bytes) in
      Contains known zeros → Contains known c → is_zero c ≡ eqb (digest c) (zeros_digest salt)
  zero_by_digest salt bytes kz kc =
      let zeros : Content = (salt, blank) in
      let c : Content = (salt, bytes) in
      ap (λ (b : Bool). b && bytes_eq bytes blank) (sym (eq-eqb salt salt refl)) ∙ same_by_digest c zeros kc kz

-- pages of zeros are the same where their salts are
zeros_same : (a b : Content) → is_zero a ≡ true → is_zero b ≡ true → is_same a b ≡ eqb a.0 b.0
zeros_same a b za zb =
    let one : bytes_eq a.1 b.1 ≡ true = (bytes_eq-Decides a.1 b.1).1 ((bytes_eq-Decides a.1 blank).0 za ∙ sym ((bytes_eq-Decides b.1 blank).0 zb)) in
    ap (λ (t : Bool). eqb a.0 b.0 && t) one ∙ and_true (eqb a.0 b.0)
  where
    and_true : (t : Bool) → (t && true) ≡ t
    and_true true = refl
    and_true false = refl
