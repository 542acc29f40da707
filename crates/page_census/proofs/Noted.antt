-- The classes after the next page came.
use Rattle.std.proofs.Common.{◌≡◌, ℕ, zero, suc, ◌+◌, ◌%◌, ◌^◌, ◌<◌, ◌≤◌, Bool, true, false, ◌&&◌, cond, List, [], ◌∷◌, ◌++◌, length, take, get_or, set, eqb, map, replicate, refl, sym, ap, subst, ◌∙◌, ⊎_elim, arith, add-one}
use Rattle.std.proofs.lemmas.Bool.{eqb-true, eqb-false, cases_lt}
use Rattle.std.proofs.lemmas.List.{get_or_append_left, get_or_push, get_or-replicate, get_or-set_same, get_or-set_other, length-replicate, length-set, length_push, map_more}
use Rattle.page_census.specs.Contents.{Content, content_at}
use Rattle.page_census.specs.Classes.{AreAlike, Classed, class_of, headed, last_in}

-- before the first page came
pub none_known : (steady : Type 0) (all : List Content) (marks heads : List ℕ) (n : ℕ) → length marks ≡ length all → length all < 2 ^ 32 → (steady → AreAlike all marks) → heads ≡ replicate (n + 1) 0
    → Classed steady all marks [] [] heads
none_known steady all marks heads n count few alike e = record {
  count = count;
  few = few;
  done = omega arith;
  linked = refl;
  buckets = let size : length heads ≡ n + 1 = ap length e ∙ length-replicate (n + 1) 0 in omega (arith, size);
  heads_are = λ bucket lt. ap (λ (hs : List ℕ). get_or hs bucket 0) e ∙ get_or-replicate (n + 1) bucket 0 0 (let size : length heads ≡ n + 1 = ap length e ∙ length-replicate (n + 1) 0 in omega (arith, size, lt));
  links_are = λ k lt. absurd (omega (arith, lt));
  below = λ k lt. absurd (omega (arith, lt));
  alike = alike;
  right = λ s. refl;
}

-- one class more changes no earlier first page
stays : (marks classes : List ℕ) (class buckets bucket n : ℕ) → n ≤ length classes → last_in marks (classes ++ class ∷ []) buckets bucket n ≡ last_in marks classes buckets bucket n
stays marks classes class buckets bucket zero le = refl
stays marks classes class buckets bucket (suc n) le =
    rw (get_or_append_left classes (class ∷ []) 0 n (omega arith), stays marks classes class buckets bucket n (omega arith)) refl

length_of : (t : Bool) (heads : List ℕ) (bucket link : ℕ) → length (cond t (set heads bucket link) heads) ≡ length heads
length_of true heads bucket link = length-set heads bucket link
length_of false heads bucket link = refl

head_of : (heads : List ℕ) (at bucket number before : ℕ) (t u : Bool) → eqb at bucket ≡ u → at < length heads → get_or heads bucket 0 ≡ before
    → get_or (cond t (set heads at (number + 1)) heads) bucket 0 ≡ cond (t && u) (suc number) before
head_of heads at bucket number before true true e lt old = let P : ℕ → Type 0 = λ b. get_or (set heads at (number + 1)) b 0 ≡ suc number in subst P (eqb-true at bucket e) (get_or-set_same heads at (number + 1) 0 lt ∙ add-one number)
head_of heads at bucket number before true false e lt old = get_or-set_other heads at bucket (number + 1) 0 (λ same. eqb-false at bucket e (sym same)) ∙ old
head_of heads at bucket number before false u e lt old = old

module _ (steady : Type 0) (all : List Content) (marks classes links heads : List ℕ) (known : Classed steady all marks classes links heads) (class : ℕ) (more : length classes < length all) (low : class ≤ length classes)
    (is : steady → class ≡ class_of all (content_at all (length classes))) where
  abbrev number : ℕ
  number = length classes

  abbrev at : ℕ
  at = get_or marks number 0 % length heads

  at_within : at < length heads
  at_within = let some = known.buckets in omega (arith, some)

  grown : length (classes ++ class ∷ []) ≡ suc number
  grown = length_push classes class ∙ add-one number

  pub noted : (after : List ℕ) → after ≡ headed heads at number class → Classed steady all marks (classes ++ class ∷ []) (links ++ get_or heads at 0 ∷ []) after
  noted after e =
      let same : length after ≡ length heads = ap length e ∙ length_of (eqb class number) heads at (number + 1) in
      let linked = known.linked in
      record {
        count = known.count;
        few = known.few;
        done = omega (arith, grown);
        linked = omega (arith, linked, grown, length_push links (get_or heads at 0));
        buckets = omega (arith, same, known.buckets);
        heads_are = λ bucket lt.
            let before = known.heads_are bucket (omega (arith, same)) in
            let pushed : get_or (classes ++ class ∷ []) number 0 ≡ class = get_or_push classes class 0 number refl in
            let ends : get_or after bucket 0 ≡ cond (eqb class number && eqb at bucket) (suc number) (last_in marks classes (length heads) bucket number) =
            ap (λ (hs : List ℕ). get_or hs bucket 0) e ∙ head_of heads at bucket number _ (eqb class number) (eqb at bucket) refl at_within before in
            rw (same, grown) (rw (pushed, stays marks classes class (length heads) bucket number (omega arith)) ends);
        links_are = λ n lt. rw same (⊎_elim
            (λ early. get_or_append_left links (get_or heads at 0 ∷ []) 0 n (omega (arith, linked)) ∙ known.links_are n early ∙ sym (stays marks classes class (length heads) (get_or marks n 0 % length heads) n (omega arith)))
            (λ late.
            let here : n ≡ number = omega (arith, grown) in
            let P : ℕ → Type 0 = λ n. get_or (links ++ get_or heads at 0 ∷ []) n 0 ≡ last_in marks (classes ++ class ∷ []) (length heads) (get_or marks n 0 % length heads) n in
            subst P (sym here) (get_or_push links (get_or heads at 0) 0 number linked ∙ known.heads_are at at_within ∙ sym (stays marks classes class (length heads) at number (omega arith))))
            (cases_lt n number));
        below = λ n lt. ⊎_elim
            (λ early. rw (get_or_append_left classes (class ∷ []) 0 n early) (known.below n early))
            (λ late. let here : n ≡ number = omega (arith, grown) in let P : ℕ → Type 0 = λ n. get_or (classes ++ class ∷ []) n 0 ≤ n in subst P (sym here) (rw (get_or_push classes class 0 number refl) low))
            (cases_lt n number);
        alike = known.alike;
        right = λ s.
            let before = known.right s in
            let one : map (class_of all) (take (number + 1) all) ≡ map (class_of all) (take number all) ++ class_of all (content_at all number) ∷ [] = map_more (class_of all) all number (0, []) more in
            rw (length_push classes class, one, ← before, ← (is s)) refl;
      }
