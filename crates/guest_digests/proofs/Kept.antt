-- The digests of more pages are kept.
use Rattle.std.proofs.Common.{◌≡◌, ℕ, ◌+◌, Bool, true, false, cond, List, [], ◌∷◌, ◌++◌, take, drop, refl, ap, ◌∙◌, append_assoc}
use Rattle.std.proofs.lemmas.List.{map-append}
use Rattle.std.proofs.lemmas.List.Elements.{filter-append}
use Rattle.std.proofs.Math.Seq.{take-add}
use Rattle.std.specs.Prelude.{filter}
use Rattle.std.specs.List.{flat_map}
use Rattle.page_digest.specs.Hashes.{content_digest}
use Rattle.guest_digests.specs.Samples.{Sampled, digests_of, is_kept, kept_digests}

kept_apart : (by : Sampled) (xs ys : List (List ℕ)) → kept_digests by (xs ++ ys) ≡ kept_digests by xs ++ kept_digests by ys
kept_apart by xs ys =
    ap (filter (is_kept by)) (map-append (content_digest by.salt) xs ys) ∙ filter-append (is_kept by) (digests_of by.salt xs) (digests_of by.salt ys)

-- the digests that are kept of pages up to n, and of k more
kept_more : (by : Sampled) (pages : List (List ℕ)) (n k : ℕ)
    → kept_digests by (take (n + k) pages) ≡ kept_digests by (take n pages) ++ kept_digests by (take k (drop n pages))
kept_more by pages n k = ap (kept_digests by) (take-add n k pages) ∙ kept_apart by (take n pages) (take k (drop n pages))

-- what stands there once k more are kept
pub kept_on : (by : Sampled) (pages : List (List ℕ)) (n k : ℕ) (start before after : List ℕ)
    → before ≡ start ++ kept_digests by (take n pages) → after ≡ before ++ kept_digests by (take k (drop n pages))
    → after ≡ start ++ kept_digests by (take (n + k) pages)
kept_on by pages n k start before after eb ea =
    ea ∙ rw (eb, kept_more by pages n k) (append_assoc start (kept_digests by (take n pages)) (kept_digests by (take k (drop n pages))))

-- the digest that a page gives, if it is kept
abbrev pub given : Sampled → List ℕ → List ℕ
given by page = kept_digests by (page ∷ [])

one_given : (t : Bool) (digest : ℕ) (more kept : List ℕ) → more ≡ kept → cond t (digest ∷ []) [] ++ more ≡ cond t (digest ∷ kept) kept
one_given true digest more kept e = ap (λ (ds : List ℕ). digest ∷ ds) e
one_given false digest more kept e = e

-- pages give the digests of them that are kept
pub all_given : (by : Sampled) (pages : List (List ℕ)) → flat_map (given by) pages ≡ kept_digests by pages
all_given by [] = refl
all_given by (page ∷ pages) =
    let digest : ℕ = content_digest by.salt page in
    one_given (is_kept by digest) digest (flat_map (given by) pages) (kept_digests by pages) (all_given by pages)
