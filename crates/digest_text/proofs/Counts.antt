-- The lines of counted digests are lines that can be read.
use Rattle.std.proofs.Common.{◌≡◌, ℕ, ◌<◌, ◌≤◌, ◌^◌, ◌==◌, ◌%◌, Bool, true, cond, List, [], ◌∷◌, length, get_or, refl, ap, ◌∙◌, arith, inl, inr}
use Rattle.std.specs.Prelude.{All, filter}
use Rattle.std.proofs.lemmas.Bool.{cases_Bool, eq-eqb, eqb-true}
use Rattle.std.proofs.lemmas.List.{length-map}
use Rattle.std.proofs.lemmas.List.Sums.{count_by-le-length, get_or-le-sum_by, length-filter, sum_by-cons}
use Rattle.page_digest.specs.Hashes.{content_digest}
use Rattle.guest_digests.specs.Counted.{AreCounted, count_of}
use Rattle.guest_digests.specs.Samples.{Sampled, digests_of, is_kept, kept_digests}
use Rattle.guest_digests.specs.declared.line.DigestLine.{DigestLine}
use Rattle.digest_text.specs.Reread.{AreLines, head_by}

-- what is found among the elements that pass, passes
found_passes : (p : ℕ → Bool) (d : ℕ) (xs : List ℕ) → 1 ≤ count_of d (filter p xs) → p d ≡ true
found_passes p d [] h = absurd (omega arith)
found_passes p d (x ∷ xs) h = elim (cases_Bool (p x)) [
  | inl passes ↦ elim (cases_Bool (x == d)) [
    | inl same ↦ let e : x ≡ d = eqb-true x d same in rw e at passes
    | inr other ↦
        let kept : 1 ≤ count_of d (x ∷ filter p xs) = rw passes at h in
        let none : count_of d (x ∷ filter p xs) ≡ count_of d (filter p xs) = sum_by-cons (λ (y : ℕ). cond (y == d) 1 0) x (filter p xs) ∙ rw other (omega arith) in
        found_passes p d xs (omega (arith, kept, none))
  ]
  | inr fails ↦ found_passes p d xs (rw fails at h)
]

-- where all pass, none is left out
all_pass : (p : ℕ → Bool) → ((x : ℕ) → p x ≡ true) → (xs : List ℕ) → filter p xs ≡ xs
all_pass p each [] = refl
all_pass p each (x ∷ xs) = rw (each x) (ap (λ (ys : List ℕ). x ∷ ys) (all_pass p each xs))

one_keeps : (by : Sampled) (digest : ℕ) → by.every ≡ 1 → is_kept by digest ≡ true
one_keeps by digest one = rw (one, eq-eqb (digest % 2 ^ 16 % 1) 0 (omega arith)) refl

pub digests_are_lines : (guest : List ℕ) (by : Sampled) (read : List (List ℕ)) (lines : List DigestLine)
    → All (λ line. line.digest < 2 ^ 128) lines → AreCounted (kept_digests by read) lines → AreLines (head_by guest by read) lines
digests_are_lines guest by read lines fits c =
    let all : List ℕ = digests_of by.salt read in
    let long : length all ≡ length read = length-map read (content_digest by.salt) in
    record {
      fits = fits;
      some = c.some;
      kept = λ k d within.
          let digest = (get_or lines k d).digest in
          let listed = get_or-le-sum_by (λ (line : DigestLine). cond (line.digest == digest) line.copies 0) lines k d within in
          let own : cond (digest == digest) (get_or lines k d).copies 0 ≡ (get_or lines k d).copies = rw (eq-eqb digest digest refl) refl in
          found_passes (is_kept by) digest all (omega (arith, listed, own, c.some k d within, c.copies digest));
      rising = c.rising;
      few = omega (arith, c.total, length-filter (is_kept by) all, count_by-le-length (is_kept by) all, long);
      whole = λ one. c.total ∙ ap length (all_pass (is_kept by) (λ x. one_keeps by x one) all) ∙ long;
    }
