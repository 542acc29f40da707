-- Counts stay right where one page becomes another.
use Rattle.std.proofs.Common.{◌≡◌, ◌∙◌, ℕ, ◌+◌, ◌*◌, ◌-◌, ◌≤◌, Bool, true, false, cond, List, ◌∷◌, ◌++◌, length, refl, ap, arith}
use Rattle.std.specs.Prelude.{min, replicate}
use Rattle.std.specs.List.{count_by}
use Rattle.std.proofs.lemmas.List.Sums.{count_by-le-length, sum_by-append, sum_by-cons}
use Rattle.std.proofs.lemmas.List.{length-append}
use Rattle.std.proofs.lemmas.List.Folds.{sum_by-replicate}
use Rattle.page_lender.specs.Decisions.{shows}
use Rattle.window_pages.specs.Bytes.{digit, known_of, notes_of}
use Rattle.window_pages.specs.Counted.{count_then, is_to_release}
use Rattle.window_pages.specs.Known.{is_given_back, shows_past}
use Rattle.window_pages.specs.Laws.{BeginsCounted, EachIsCounted, NoneIsLost, new_page}
use Rattle.window_pages.specs.declared.page.WindowPage.{WindowPage}

digit_one : (b : Bool) → digit b ≡ cond b 1 0
digit_one true = refl
digit_one false = refl

split : (p : WindowPage → Bool) (xs ys : List WindowPage) (z : WindowPage) → count_by p (xs ++ z ∷ ys) ≡ count_by p xs + (cond (p z) 1 0 + count_by p ys)
split p xs ys z = sum_by-append (λ x. cond (p x) 1 0) xs (z ∷ ys) ∙ ap (λ n. count_by p xs + n) (sum_by-cons (λ x. cond (p x) 1 0) z ys)

step : (p : WindowPage → Bool) (xs ys : List WindowPage) (old new : WindowPage) (n : ℕ) → length (xs ++ old ∷ ys) ≤ 65535 → n ≡ count_by p (xs ++ old ∷ ys) →
    count_then n (p old) (p new) ≡ count_by p (xs ++ new ∷ ys)
step p xs ys old new n h e =
    let before : count_by p (xs ++ old ∷ ys) ≡ count_by p xs + (cond (p old) 1 0 + count_by p ys) = split p xs ys old in
    let after : count_by p (xs ++ new ∷ ys) ≡ count_by p xs + (cond (p new) 1 0 + count_by p ys) = split p xs ys new in
    let long : length (xs ++ old ∷ ys) ≡ length xs + length (old ∷ ys) = length-append xs (old ∷ ys) in
    pick (p old) (p new) (count_by p xs) (count_by p ys) n (omega (arith, long, h, count_by-le-length p xs, count_by-le-length p ys)) (e ∙ before) ∙ sym_of after where
      sym_of : {a b : ℕ} → a ≡ b → b ≡ a
      sym_of {a} {b} q = omega (arith, q)

      pick : (s t : Bool) (a b m : ℕ) → a + b ≤ 65534 → m ≡ a + (cond s 1 0 + b) → min 65535 (m - digit s + digit t) ≡ a + (cond t 1 0 + b)
      pick true true a b m l q = omega (arith, l, q)
      pick true false a b m l q = omega (arith, l, q)
      pick false true a b m l q = omega (arith, l, q)
      pick false false a b m l q = omega (arith, l, q)

pub each_is_counted : EachIsCounted
each_is_counted xs ys old new part h c = record {
  releases = step (λ p. is_to_release (known_of p)) xs ys old new part.releases h c.releases;
  lent = step (λ p. shows (known_of p).belief) xs ys old new part.lent h c.lent;
  zeros = step (λ p. is_given_back (known_of p)) xs ys old new part.zeros h c.zeros;
  past = step (λ p. shows_past (known_of p)) xs ys old new part.past h c.past;
  shareable = step (λ p. (notes_of p).seen) xs ys old new part.shareable h c.shareable;
}

none_in : (p : WindowPage → Bool) (n : ℕ) → p new_page ≡ false → 0 ≡ count_by p (replicate n new_page)
none_in p n e =
    let sum : count_by p (replicate n new_page) ≡ n * cond (p new_page) 1 0 = sum_by-replicate (λ x. cond (p x) 1 0) n new_page in
    let zeros : n * cond (p new_page) 1 0 ≡ n * 0 = ap (λ b. n * cond b 1 0) e in
    omega (arith, sum, zeros)

pub begins_counted : BeginsCounted
begins_counted n = record {
  releases = none_in (λ p. is_to_release (known_of p)) n refl;
  lent = none_in (λ p. shows (known_of p).belief) n refl;
  zeros = none_in (λ p. is_given_back (known_of p)) n refl;
  past = none_in (λ p. shows_past (known_of p)) n refl;
  shareable = none_in (λ p. (notes_of p).seen) n refl;
}

none : (b : Bool) → digit b ≡ 0 → b ≡ false
none true e = cc
none false e = refl

pub none_is_lost : NoneIsLost
none_is_lost xs ys page part c e =
    let all : count_by (λ p. is_to_release (known_of p)) (xs ++ page ∷ ys) ≡ count_by (λ p. is_to_release (known_of p)) xs + (cond (is_to_release (known_of page)) 1 0 + count_by (λ p. is_to_release (known_of p)) ys) = split (λ p. is_to_release (known_of p)) xs ys page in
    let its : digit (is_to_release (known_of page)) ≡ cond (is_to_release (known_of page)) 1 0 = digit_one (is_to_release (known_of page)) in
    none (is_to_release (known_of page)) (omega (arith, all, e, c.releases, its))
