-- A range that is taken out of a table.
use Rattle.std.proofs.Common.{◌≡◌, ◌∙◌, ℕ, ◌-◌, ◌<◌, ◌≤◌, List, [], ◌∷◌, ◌++◌, length, take, Some, option_map, ap, arith}
use Rattle.std.specs.Prelude.{slice_get}
use Rattle.std.specs.List.{remove}
use Rattle.std.proofs.Math.ListN.{get_or}
use Rattle.std.proofs.Math.Seq.{take-append_seam}
use Rattle.std.proofs.lemmas.List.{append_assoc, get_or-take, length-take-le}
use Rattle.std.proofs.lemmas.List.Edits.{length-remove}
use Rattle.std.proofs.lemmas.Option.{slice_get-get_or}
use Rattle.offered_ranges.specs.declared.range.OfferedRange.{OfferedRange}
use Rattle.offered_ranges.proofs.Found.{no_range}

some_same : {A : Type 0} (x y : A) → Some x ≡ Some y → x ≡ y
some_same x y e = cc

-- the table without its last place, where the range was moved
pub without_last : (live new rest : List OfferedRange) (place : ℕ) → place < length live →
    Some new ≡ option_map (λ last. remove live place ++ last ∷ []) (slice_get live place) →
    take (length live - 1) (new ++ rest) ≡ remove live place
without_last live new rest place l e =
    let last : OfferedRange = get_or live place no_range in
    let is : new ≡ remove live place ++ last ∷ [] =
    some_same new (remove live place ++ last ∷ []) (e ∙ ap (λ o. option_map (λ x. remove live place ++ x ∷ []) o) (slice_get-get_or live place no_range l)) in
    let less : length live - 1 ≡ length (remove live place) = omega (arith, length-remove live place l) in
    ap (λ xs. take (length live - 1) (xs ++ rest)) is
    ∙ ap (λ xs. take (length live - 1) xs) (append_assoc (remove live place) (last ∷ []) rest)
    ∙ ap (λ n. take n (remove live place ++ (last ∷ [] ++ rest))) less
    ∙ take-append_seam (remove live place) (last ∷ [] ++ rest)

-- the range at a place that is used
pub used_at : (places : List OfferedRange) (count place : ℕ) → place < count → count ≤ length places →
    slice_get (take count places) place ≡ Some (get_or places place no_range)
used_at places count place l w =
    let long : length (take count places) ≡ count = length-take-le count places w in
    slice_get-get_or (take count places) place no_range (omega (arith, long))
    ∙ ap (λ r. Some r) (get_or-take count places place no_range l)
