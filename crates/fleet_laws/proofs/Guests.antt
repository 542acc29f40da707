-- What the rows of a whole digest list of a guest's pages.
use Rattle.std.proofs.Common.{◌≡◌, ℕ, ◌+◌, ◌%◌, ◌^◌, Bool, true, false, cond, List, [], ◌∷◌, length, map, eqb, refl, ap, sym, ◌∙◌, ⊎_elim, arith}
use Rattle.std.specs.Prelude.{All, filter}
use Rattle.std.specs.List.{Contains}
use Rattle.std.proofs.lemmas.Bool.{cases_eq, eq-eqb, eqb-true, ne_eqb}
use Rattle.std.proofs.lemmas.List.{length-map}
use Rattle.std.proofs.lemmas.List.Elements.{All-cons, All-head, All-nil, All-tail}
use Rattle.std.proofs.lemmas.List.Sums.{sum_by-cons}
use Rattle.page_model.specs.Pages.{blank}
use Rattle.page_digest.specs.Hashes.{content_digest}
use Rattle.guest_digests.specs.Counted.{AreCounted, count_of, listed_copies}
use Rattle.guest_digests.specs.Samples.{digests_of, is_kept, kept_digests, zeros_digest}
use Rattle.guest_digests.specs.declared.line.DigestLine.{DigestLine}
use Rattle.digest_text.specs.Fields.{Row}
use Rattle.digest_text.specs.Reread.{head_by}
use Rattle.digest_text.specs.Written.{rows_of}
use Rattle.digest_text.specs.declared.head.DigestHead.{DigestHead}
use Rattle.page_census.specs.Contents.{Content, contents_of}
use Rattle.page_census.specs.Numbers.{copies, is_zero}
use Rattle.page_census.specs.declared.guest.Guest.{Guest}
use Rattle.fleet_census.specs.Fleets.{copies_of, lines_of, pages_of, zero_of}
use Rattle.fleet_laws.specs.Merges.{AreRowsOf, AreApart, digest, whole}
use Rattle.fleet_laws.proofs.Contents.{zero_by_digest}
use Rattle.fleet_laws.proofs.Keys.{Agrees, filter_by}

-- the rows count the digests of these contents
pub record AreCounts (own : List Content) (rows : List Row) : Type 0 where
  pub copies_are : (d : ℕ) → copies_of d rows ≡ copies eqb d (map digest own)
  pub zero_are : (d : ℕ) → zero_of d rows ≡ copies eqb d (map digest (filter is_zero own))
  pub pages_are : pages_of rows ≡ length own

-- a sample of 1 keeps all
pub all_kept : (salt : ℕ) (ds : List ℕ) → filter (is_kept (whole salt)) ds ≡ ds
all_kept salt [] = refl
all_kept salt (d ∷ ds) =
    let one : d % 2 ^ 16 % 1 ≡ 0 = omega arith in
    rw (one, all_kept salt ds) refl

abbrev contents_with : ℕ → List (List ℕ) → List Content
contents_with salt pages = map (λ bytes. (salt, bytes)) pages

digests_are : (salt : ℕ) (pages : List (List ℕ)) → digests_of salt pages ≡ map digest (contents_with salt pages)
digests_are salt [] = refl
digests_are salt (bytes ∷ pages) = ap (λ (ds : List ℕ). content_digest salt bytes ∷ ds) (digests_are salt pages)

lines_are : (head : DigestHead) (lines : List DigestLine) → lines_of (rows_of head lines) ≡ lines
lines_are head [] = refl
lines_are head (line ∷ lines) = ap (λ (ls : List DigestLine). line ∷ ls) (lines_are head lines)

-- equal the other way round
flipped : (d : ℕ) (ds : List ℕ) → count_of d ds ≡ copies eqb d ds
flipped d [] = refl
flipped d (x ∷ ds) =
    sum_by-cons (λ (k : ℕ). cond (eqb k d) 1 0) x ds ∙ rw (turned x d, flipped d ds) (sym (sum_by-cons (λ (k : ℕ). cond (eqb d k) 1 0) x ds))
  where
    turned : (a b : ℕ) → eqb a b ≡ eqb b a
    turned a b = ⊎_elim (λ e. rw (eq-eqb a b e) (sym (eq-eqb b a (sym e)))) (λ ne. rw (ne_eqb a b ne) (sym (ne_eqb b a (λ e. ne (sym e))))) (cases_eq a b)

-- what passes among the copies of a digest: all or none
pub copies_passing : (q : ℕ → Bool) (d : ℕ) (ds : List ℕ) → copies eqb d (filter q ds) ≡ cond (q d) (copies eqb d ds) 0
copies_passing q d [] = none (q d)
  where
    none : (b : Bool) → 0 ≡ cond {A = ℕ} b 0 0
    none true = refl
    none false = refl
copies_passing q d (x ∷ ds) =
    first (q x) (filter q ds)
    ∙ ap (λ (m : ℕ). cond (q x) (cond (eqb d x) 1 0) 0 + m) (copies_passing q d ds)
    ∙ both (eqb d x) refl (copies eqb d ds)
    ∙ ap (λ (m : ℕ). cond (q d) m 0) (sym (sum_by-cons (λ (k : ℕ). cond (eqb d k) 1 0) x ds))
  where
    first : (t : Bool) (ys : List ℕ) → copies eqb d (cond t (x ∷ ys) ys) ≡ cond t (cond (eqb d x) 1 0) 0 + copies eqb d ys
    first true ys = sum_by-cons (λ (k : ℕ). cond (eqb d k) 1 0) x ys
    first false ys = omega arith

    there : (b : Bool) (m : ℕ) → cond b 1 0 + cond b m 0 ≡ cond b (1 + m) 0
    there true m = omega arith
    there false m = omega arith

    elsewhere : (b c : Bool) (m : ℕ) → cond {A = ℕ} b 0 0 + cond c m 0 ≡ cond c (0 + m) 0
    elsewhere true true m = omega arith
    elsewhere true false m = omega arith
    elsewhere false true m = omega arith
    elsewhere false false m = omega arith

    both : (t : Bool) → eqb d x ≡ t → (m : ℕ) → cond (q x) (cond t 1 0) 0 + cond (q d) m 0 ≡ cond (q d) (cond t 1 0 + m) 0
    both true e m = ap (λ (b : Bool). cond b 1 0 + cond (q d) m 0) (ap q (sym (eqb-true d x e))) ∙ there (q d) m
    both false e m = elsewhere (q x) (q d) m

module _ (known : List Content) (apart : AreApart known) (salt : ℕ) (zeros_known : let zeros : Content = (salt, blank) in Contains known zeros) where
  zeros_agree : (pages : List (List ℕ)) → All (Contains known) (contents_with salt pages) → All (Agrees digest is_zero (λ k. eqb k (zeros_digest salt))) (contents_with salt pages)
  zeros_agree [] ks = All-nil (Agrees digest is_zero (λ k. eqb k (zeros_digest salt)))
  zeros_agree (bytes ∷ pages) ks =
      let c : Content = (salt, bytes) in
      All-cons (Agrees digest is_zero (λ k. eqb k (zeros_digest salt))) c (contents_with salt pages)
      (zero_by_digest known apart salt bytes zeros_known (All-head (Contains known) c (contents_with salt pages) ks))
      (zeros_agree pages (All-tail (Contains known) c (contents_with salt pages) ks))

  -- of rows of these lines
  by_lines : (pages : List (List ℕ)) (name : List ℕ) (lines : List DigestLine) → All (Contains known) (contents_with salt pages)
      → AreCounted (kept_digests (whole salt) pages) lines → AreCounts (contents_with salt pages) (rows_of (head_by name (whole salt) pages) lines)
  by_lines [] name [] ks counted = record { copies_are = λ d. refl; zero_are = λ d. none (eqb d (zeros_digest 0)); pages_are = refl }
    where
      none : (b : Bool) → cond {A = ℕ} b 0 0 ≡ 0
      none true = refl
      none false = refl
  by_lines (bytes ∷ pages) name [] ks counted =
      let none : 0 ≡ length (digests_of salt (bytes ∷ pages)) = counted.total ∙ ap length (all_kept salt (digests_of salt (bytes ∷ pages))) in
      absurd (omega (arith, none))
  by_lines pages name (line ∷ lines) ks counted =
      let head : DigestHead = head_by name (whole salt) pages in
      let own : List Content = contents_with salt pages in
      let of : (d : ℕ) → copies_of d (rows_of head (line ∷ lines)) ≡ copies eqb d (map digest own) = λ d.
      ap (listed_copies d) (lines_are head (line ∷ lines)) ∙ counted.copies d ∙ ap (count_of d) (all_kept salt (digests_of salt pages) ∙ digests_are salt pages) ∙ flipped d (map digest own) in
      record {
        copies_are = of;
        zero_are = λ d.
            ap (λ (m : ℕ). cond (eqb d (zeros_digest salt)) m 0) (of d)
            ∙ sym (ap (copies eqb d) (filter_by digest is_zero (λ k. eqb k (zeros_digest salt)) own (zeros_agree pages ks)) ∙ copies_passing (λ k. eqb k (zeros_digest salt)) d (map digest own));
        pages_are = sym (length-map pages (λ (bytes : List ℕ). let c : Content = (salt, bytes) in c));
      }

-- of a guest's rows
pub guest_counts : (known : List Content) → AreApart known → {S : Type 0} (pages : S → List (List ℕ)) (guest : Guest S) (rows : List Row)
    → (let zeros : Content = (guest.salt, blank) in Contains known zeros) → All (Contains known) (contents_of pages guest) → AreRowsOf pages guest rows
    → AreCounts (contents_of pages guest) rows
guest_counts known apart pages guest rows kz ks are = rw are.are (by_lines known apart guest.salt kz (pages guest.source) are.name are.lines ks are.counted)
