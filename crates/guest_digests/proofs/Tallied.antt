-- More digests are counted.
use Rattle.std.proofs.Common.{◌≡◌, ℕ, Bool, true, false, cond, ◌+◌, ◌*◌, ◌<◌, ◌≤◌, List, [], ◌∷◌, ◌++◌, length, take, drop, map, get_or, replicate, ap, sym, ◌∙◌, arith, length-append, inl, inr}
use Rattle.std.proofs.lemmas.Bool.{cases_lt}
use Rattle.std.proofs.lemmas.List.{length_push, length-replicate, map-append, get_or_append_left}
use Rattle.std.proofs.lemmas.List.Elements.{All-push, All-map}
use Rattle.std.proofs.lemmas.List.Folds.{sum_by-replicate}
use Rattle.std.proofs.lemmas.List.Sorted.{sum_by-IsPermutation, length_permutation}
use Rattle.std.proofs.lemmas.List.Sums.{sum_by-append}
use Rattle.std.proofs.Math.Seq.{take-add, get_or-append_seam}
use Rattle.std.specs.List.Sorted.{IsNonDecreasing, IsPermutation, IsStrictlyIncreasing}
use Rattle.std.specs.Prelude.{All, ◌==◌}
use Rattle.memory_pages.specs.Made.{AreMade}
use Rattle.guest_digests.specs.Counted.{AreCounted, AreDigests, count_of}
use Rattle.guest_digests.specs.Samples.{Sampled}
use Rattle.guest_digests.proofs.Kept.{all_given, given}
use Rattle.guest_digests.specs.declared.line.DigestLine.{DigestLine}

-- a greater number after numbers that rise
rising_push : (xs : List ℕ) (y : ℕ) → IsStrictlyIncreasing xs → All (λ x. x < y) xs → IsStrictlyIncreasing (xs ++ y ∷ [])
rising_push xs y rising below k within = elim (cases_lt (k + 1) (length xs)) [
  | inl lt ↦ rw (get_or_append_left xs (y ∷ []) 0 k (omega arith), get_or_append_left xs (y ∷ []) 0 (k + 1) lt) (rising k lt)
  | inr ge ↦
      let end : k + 1 ≡ length xs = omega (arith, length_push xs y, within) in
      let last : get_or (xs ++ y ∷ []) (k + 1) 0 ≡ y = rw end (get_or-append_seam xs y [] 0) in
      let before : get_or (xs ++ y ∷ []) k 0 ≡ get_or xs k 0 = get_or_append_left xs (y ∷ []) 0 k (omega arith) in
      let least : get_or xs k 0 < y = below k 0 (omega arith) in
      omega (arith, last, before, least)
]

-- what n copies of a digest add for each digest
copies_add : (same : Bool) (n : ℕ) → n * cond same 1 0 ≡ 0 + cond same n 0
copies_add true n = omega arith
copies_add false n = omega arith

-- a line more, of as many copies as come next
pub line_more : (digests : List ℕ) (done n d : ℕ) (lines after : List DigestLine)
    → AreCounted (take done digests) lines → All (λ line. line.digest < d) lines → 1 ≤ n
    → take n (drop done digests) ≡ replicate n d → after ≡ lines ++ record { digest = d; copies = n } ∷ []
    → AreCounted (take (done + n) digests) after
line_more digests done n d lines after so_far below some next e =
    let line : DigestLine = record { digest = d; copies = n } in
    let apart : take (done + n) digests ≡ take done digests ++ replicate n d = take-add done n digests ∙ ap (λ (more : List ℕ). take done digests ++ more) next in
    rw (apart, e) (record {
      rising = rw (map-append (λ (l : DigestLine). l.digest) lines (line ∷ [])) (rising_push (map (λ (l : DigestLine). l.digest) lines) d so_far.rising (All-map (λ (x : ℕ). x < d) (λ (l : DigestLine). l.digest) lines below));
      some = All-push (λ (l : DigestLine). 1 ≤ l.copies) lines line so_far.some some;
      copies = λ x.
          sum_by-append (λ (l : DigestLine). cond (l.digest == x) l.copies 0) lines (line ∷ [])
          ∙ rw (so_far.copies x) (sym (sum_by-append (λ (other : ℕ). cond (other == x) 1 0) (take done digests) (replicate n d) ∙ rw (sum_by-replicate (λ (other : ℕ). cond (other == x) 1 0) n d) (ap (λ (m : ℕ). count_of x (take done digests) + m) (copies_add (d == x) n))));
      total = omega (arith, sum_by-append (λ (l : DigestLine). l.copies) lines (line ∷ []), so_far.total, length-append (take done digests) (replicate n d), length-replicate n d);
    })

-- the lines count what was read, in whichever order
pub digested : (steady : Type 0) (pages : List (List ℕ)) (by : Sampled) (digests sorted : List ℕ) (lines : List DigestLine)
    → AreMade steady pages (given by) [] digests → IsPermutation digests sorted → AreCounted sorted lines → AreDigests steady pages by lines
digested steady pages by digests sorted lines read same counted = record {
  read = read.read;
  all = read.all;
  same = read.same;
  counted = record {
    rising = counted.rising;
    some = counted.some;
    copies = λ x. counted.copies x ∙ sum_by-IsPermutation (λ (other : ℕ). cond (other == x) 1 0) digests sorted same ∙ ap (count_of x) (read.added ∙ all_given by read.read);
    total = counted.total ∙ length_permutation digests sorted same ∙ ap length (read.added ∙ all_given by read.read);
  };
}

-- a digest that comes after the lines' and isn't the last one is greater than all of these
pub below_more : (digests : List ℕ) (done n d : ℕ) (lines after : List DigestLine)
    → IsNonDecreasing digests → All (λ line. line.digest < d) lines → d ≡ get_or digests done 0
    → done + n < length digests → ¬ (get_or digests (done + n) 0 ≡ d) → after ≡ lines ++ record { digest = d; copies = n } ∷ []
    → All (λ line. line.digest < get_or digests (done + n) 0) after
below_more digests done n d lines after rising below is within other e =
    let most : get_or digests done 0 ≤ get_or digests (done + n) 0 = rising done (done + n) 0 (omega arith) within in
    let less : d < get_or digests (done + n) 0 = omega (arith, most, is, other) in
    let line : DigestLine = record { digest = d; copies = n } in
    rw e (All-push (λ (l : DigestLine). l.digest < get_or digests (done + n) 0) lines line (λ k x lt. let under = below k x lt in omega (arith, under, less)) less)
