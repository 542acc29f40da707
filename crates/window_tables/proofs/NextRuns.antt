-- Runs of pages that are the next ones.
use Rattle.std.proofs.Common.{◌≡◌, ◌∙◌, ℕ, zero, suc, ◌+◌, ◌-◌, ◌<◌, ◌≤◌, ◌⊎◌, inl, inr, Bool, true, false, cond, List, [], ◌∷◌, length, Some, None, Option, refl, ap, sym, subst, arith, take, drop}
use Rattle.std.specs.Prelude.{◌==◌, option_map, slice_get}
use Rattle.std.specs.List.{prefix_len}
use Rattle.std.proofs.lemmas.Bool.{cases_lt}
use Rattle.std.proofs.lemmas.Bool.Decides.{nat_tests}
use Rattle.std.proofs.lemmas.List.{length-drop}
use Rattle.std.proofs.lemmas.List.Sums.{prefix_len-le-length}
use Rattle.window_pages.specs.declared.page.WindowPage.{WindowPage}
use Rattle.window_tables.specs.Runs.{EachRunIsNext, IsNextRun, NoRunIsMissed, between, counts_as, is_kind, run_of}
use Rattle.window_tables.specs.declared.runs.PageRun.{PageRun}

-- ---- lists ----

get_drop : {X : Type 0} (n : ℕ) (xs : List X) (i : ℕ) → slice_get (drop n xs) i ≡ slice_get xs (n + i)
get_drop zero xs i = ap (λ j. slice_get xs j) (omega arith)
get_drop (suc n) [] i = refl
get_drop (suc n) (x ∷ xs) i =
    let next : suc (n + i) ≡ suc n + i = omega arith in
    get_drop n xs i ∙ ap (λ j. slice_get (x ∷ xs) j) next

get_take : {X : Type 0} (n : ℕ) (xs : List X) (i : ℕ) → i < n → slice_get (take n xs) i ≡ slice_get xs i
get_take zero xs i l = absurd (omega (arith, l))
get_take (suc n) [] i l = refl
get_take (suc n) (x ∷ xs) zero l = refl
get_take (suc n) (x ∷ xs) (suc i) l = get_take n xs i (omega (arith, l))

take_most : {X : Type 0} (n : ℕ) (xs : List X) → length (take n xs) ≤ n
take_most zero xs = omega arith
take_most (suc n) [] = omega arith
take_most (suc n) (x ∷ xs) = omega (arith, take_most n xs)

clash : {X : Type 0} (o : Option X) (x : X) → o ≡ None → o ≡ Some x → ⊥
clash o x e f = cc

none_at : {X : Type 0} (xs : List X) (i : ℕ) (x : X) → slice_get xs 0 ≡ None → slice_get xs i ≡ Some x → ⊥
none_at [] i x e f = clash None x refl f
none_at (y ∷ xs) i x e f = clash (Some y) y e refl

-- what is so of the first ones, and not of the one behind them
each_of : {X : Type 0} (b : Bool) (q : X → Bool) (y : X) (xs : List X) (i : ℕ) (x : X) → q y ≡ b →
    ((j : ℕ) → j < prefix_len q xs → slice_get xs j ≡ Some x → q x ≡ true) → i < cond b (1 + prefix_len q xs) 0 → slice_get (y ∷ xs) i ≡ Some x → q x ≡ true
each_of false q y xs i x e rest l f = absurd (omega (arith, l))
each_of true q y xs zero x e rest l f = let is : y ≡ x = cc in sym (ap q is) ∙ e
each_of true q y xs (suc i) x e rest l f = rest i (omega (arith, l)) f

prefix_each : {X : Type 0} (q : X → Bool) (xs : List X) (i : ℕ) (x : X) → i < prefix_len q xs → slice_get xs i ≡ Some x → q x ≡ true
prefix_each q [] i x l f = absurd (omega (arith, l))
prefix_each q (y ∷ xs) i x l f = each_of (q y) q y xs i x refl (λ j m g. prefix_each q xs j x m g) l f

stops_of : {X : Type 0} (b : Bool) (q : X → Bool) (y : X) (xs : List X) (x : X) → q y ≡ b → (slice_get xs (prefix_len q xs) ≡ Some x → q x ≡ false) →
    slice_get (y ∷ xs) (cond b (1 + prefix_len q xs) 0) ≡ Some x → q x ≡ false
stops_of false q y xs x e rest f = let is : y ≡ x = cc in sym (ap q is) ∙ e
stops_of true q y xs x e rest f =
    let next : 1 + prefix_len q xs ≡ suc (prefix_len q xs) = omega arith in
    rest (ap (λ j. slice_get (y ∷ xs) j) (sym next) ∙ f)

prefix_stops : {X : Type 0} (q : X → Bool) (xs : List X) (x : X) → slice_get xs (prefix_len q xs) ≡ Some x → q x ≡ false
prefix_stops q [] x f = absurd (clash None x refl f)
prefix_stops q (y ∷ xs) x f = stops_of (q y) q y xs x refl (λ g. prefix_stops q xs x g) f

some_of : (b : Bool) (n : ℕ) → b ≡ true → 0 < cond b (1 + n) 0
some_of true n e = omega arith
some_of false n e = cc

prefix_some : {X : Type 0} (q : X → Bool) (xs : List X) (x : X) → slice_get xs 0 ≡ Some x → q x ≡ true → 0 < prefix_len q xs
prefix_some q [] x f e = absurd (clash None x refl f)
prefix_some q (y ∷ xs) x f e = let is : y ≡ x = cc in some_of (q y) (prefix_len q xs) (ap q is ∙ e)

-- ---- numbers ----

equal : (a b : ℕ) → (a == b) ≡ true → a ≡ b
equal a b e = grind (arith, nat_tests, e)

itself : (a : ℕ) → (a == a) ≡ true
itself a = grind (arith, nat_tests)

differ : (a b : ℕ) → (a == b) ≡ false → a ≡ b → ⊥
differ a b e f = grind (arith, nat_tests, e, f)

-- ---- runs ----

-- a page between two
in_between : (first end i : ℕ) (pages : List WindowPage) → first ≤ i → i < end → slice_get (between first end pages) (i - first) ≡ slice_get pages i
in_between first end i pages l m =
    let is : first + (i - first) ≡ i = omega (arith, l) in
    get_drop first (take end pages) (i - first) ∙ (ap (λ j. slice_get (take end pages) j) is ∙ get_take end pages i m)

-- and behind so many of them
in_rest : (first end i g : ℕ) (pages : List WindowPage) → first + g ≤ i → i < end → slice_get (drop g (between first end pages)) (i - first - g) ≡ slice_get pages i
in_rest first end i g pages l m =
    let is : g + (i - first - g) ≡ i - first = omega (arith, l) in
    get_drop g (between first end pages) (i - first - g)
    ∙ (ap (λ j. slice_get (between first end pages) j) is ∙ in_between first end i pages (omega (arith, l)) m)

none_map : {X Y : Type 0} (f : X → Y) (o : Option X) → option_map f o ≡ None → o ≡ None
none_map f None e = refl
none_map f (Some x) e = absurd (clash (Some (f x)) (f x) e refl)

pub no_run_is_missed : NoRunIsMissed
no_run_is_missed kinds first end pages none i x l m at = pick (cases_lt (i - first) g) where
  g : ℕ
  g = run_of kinds 0 (between first end pages)

  pick : (i - first < g) ⊎ (g ≤ i - first) → counts_as kinds x ≡ 0
  pick (inl h) = equal (counts_as kinds x) 0 (prefix_each (is_kind kinds 0) (between first end pages) (i - first) x h (in_between first end i pages l m ∙ at))
  pick (inr h) =
      absurd (none_at (drop g (between first end pages)) (i - first - g) x (none_map _ (slice_get (drop g (between first end pages)) 0) none)
      (in_rest first end i g pages (omega (arith, l, h)) m ∙ at))

-- the run behind the pages of no kind that is looked for, which begins with this page
abbrev run_with : ℕ → ℕ → List WindowPage → WindowPage → PageRun
run_with kinds first pages p = record {
  first = first + run_of kinds 0 pages;
  count = run_of kinds (counts_as kinds p) (drop (run_of kinds 0 pages) pages);
  kind = counts_as kinds p;
}

-- such a run, so many pages behind the first
run_at : (kinds first end : ℕ) (pages : List WindowPage) (p : WindowPage) (g : ℕ) → g ≡ run_of kinds 0 (between first end pages) →
    slice_get (drop g (between first end pages)) 0 ≡ Some p →
    IsNextRun kinds first end pages (record { first = first + g; count = run_of kinds (counts_as kinds p) (drop g (between first end pages)); kind = counts_as kinds p })
run_at kinds first end pages p g is there =
    record { begins = omega arith; ends = ends; some = some; looked_for = looked_for; before = before; each = each; behind = behind } where
      all : List WindowPage
      all = between first end pages

      rest : List WindowPage
      rest = drop g all

      k : ℕ
      k = counts_as kinds p

      some : 0 < run_of kinds k rest
      some = prefix_some (is_kind kinds k) rest p there (itself k)

      ends : first + g + run_of kinds k rest ≤ end
      ends =
          omega
          (arith, some, prefix_len-le-length (is_kind kinds k) rest, length-drop g all, length-drop first (take end pages), take_most end pages)

      looked_for : counts_as kinds p ≡ 0 → ⊥
      looked_for =
          let at : slice_get all (run_of kinds 0 all) ≡ Some p = ap (λ j. slice_get all j) (sym is) ∙ (ap (λ j. slice_get all j) (plus g) ∙ (sym (get_drop g all 0) ∙ there)) in
          differ (counts_as kinds p) 0 (prefix_stops (is_kind kinds 0) all p at) where
            plus : (n : ℕ) → n ≡ n + 0
            plus n = omega arith

      before : (i : ℕ) (x : WindowPage) → first ≤ i → i < first + g → slice_get pages i ≡ Some x → counts_as kinds x ≡ 0
      before i x l m at =
          equal (counts_as kinds x) 0
          (prefix_each (is_kind kinds 0) all (i - first) x (omega (arith, l, m, is)) (in_between first end i pages l (omega (arith, m, ends)) ∙ at))

      each : (i : ℕ) (x : WindowPage) → first + g ≤ i → i < first + g + run_of kinds k rest → slice_get pages i ≡ Some x → counts_as kinds x ≡ k
      each i x l m at =
          equal (counts_as kinds x) k
          (prefix_each (is_kind kinds k) rest (i - first - g) x (omega (arith, l, m)) (in_rest first end i g pages l (omega (arith, m, ends)) ∙ at))

      behind : (x : WindowPage) → first + g + run_of kinds k rest < end → slice_get pages (first + g + run_of kinds k rest) ≡ Some x → counts_as kinds x ≡ k → ⊥
      behind x l at =
          let n : first + g + run_of kinds k rest - first - g ≡ run_of kinds k rest = omega arith in
          let here : slice_get rest (run_of kinds k rest) ≡ Some x =
          ap (λ j. slice_get rest j) (sym n) ∙ (in_rest first end (first + g + run_of kinds k rest) g pages (omega arith) l ∙ at) in
          differ (counts_as kinds x) k (prefix_stops (is_kind kinds k) rest x here)

from_page : (kinds first end : ℕ) (pages : List WindowPage) (run : PageRun) (o : Option WindowPage) →
    slice_get (drop (run_of kinds 0 (between first end pages)) (between first end pages)) 0 ≡ o →
    option_map (λ p. run_with kinds first (between first end pages) p) o ≡ Some run → IsNextRun kinds first end pages run
from_page kinds first end pages run None e f = absurd (clash None run refl f)
from_page kinds first end pages run (Some p) e f =
    let is : run_with kinds first (between first end pages) p ≡ run = cc in
    subst (λ r. IsNextRun kinds first end pages r) is (run_at kinds first end pages p (run_of kinds 0 (between first end pages)) refl e)

pub each_run_is_next : EachRunIsNext
each_run_is_next kinds first end pages run e =
    from_page kinds first end pages run (slice_get (drop (run_of kinds 0 (between first end pages)) (between first end pages)) 0) refl e
