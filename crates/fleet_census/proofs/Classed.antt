-- The class of a number of copies.
use Rattle.std.proofs.Common.{◌≡◌, ◌≢◌, ℕ, suc, ◌+◌, ◌-◌, ◌/◌, ◌^◌, ◌<◌, ◌≤◌, true, false, List, length, set, refl, ◌∙◌, arith, inl, inr, get_or-set_other, get_or-set_same}
use Rattle.std.proofs.lemmas.Bool.{cases_lt, cases_eq}
use Rattle.std.proofs.lemmas.Bool.Decides.{nat_tests}
use Rattle.std.proofs.Math.Nat.{pow-succ'}
use Rattle.std.proofs.Math.Pow.{pow_mono}
use Rattle.std.specs.Prelude.{◌&&◌, nat_le}
use Rattle.fleet_census.specs.Classes.{IsInClass, class_after, class_at, class_with, fewest, is_in_class, most, no_class}
use Rattle.fleet_census.specs.declared.class.FleetClass.{FleetClass}
use Rattle.fleet_census.specs.declared.content.Content.{Content}

pub half_power : (n : ℕ) → 2 ^ suc n / 2 ≡ 2 ^ n
half_power n = let e = pow-succ' 2 n in omega (arith, e)

pub fewest_above : (n below : ℕ) → n ≡ suc below → fewest n ≡ 2 ^ below + 1
fewest_above n below e = rw e (omega (arith, half_power below))

not_high : (low high copies : ℕ) → high < copies → (nat_le low copies && nat_le copies high) ≡ false
not_high low high copies over = grind (arith, nat_tests)

pub not_low : (low high copies : ℕ) → copies < low → (nat_le low copies && nat_le copies high) ≡ false
not_low low high copies under = grind (arith, nat_tests)

in_class : (copies number : ℕ) → IsInClass copies number → is_in_class copies number ≡ true
in_class copies number is = let low = is.low in let high = is.high in grind (arith, nat_tests)

-- no number of copies is in two classes
other_class : (copies number other : ℕ) → 1 ≤ copies → IsInClass copies number → other ≢ number → is_in_class copies other ≡ false
other_class copies number other some is ne = elim (cases_lt other number) [
  | inl lt ↦
      let below : number ≡ suc (number - 1) = omega arith in
      let up : 2 ^ other ≤ 2 ^ (number - 1) = pow_mono {i = other} {j = number - 1} (omega arith) in
      let over : most other < copies = omega (arith, is.low, fewest_above number (number - 1) below, up) in
      not_high (fewest other) (most other) copies over
  | inr ge ↦
      let below : other ≡ suc (other - 1) = omega arith in
      let up : 2 ^ number ≤ 2 ^ (other - 1) = pow_mono {i = number} {j = other - 1} (omega arith) in
      let under : copies < fewest other = omega (arith, is.high, fewest_above other (other - 1) below, up) in
      not_low (fewest other) (most other) copies under
]

-- the classes after a content came
pub classes_more : (content : Content) (classes : List FleetClass) (number : ℕ) (after : FleetClass) → 1 ≤ content.copies → IsInClass content.copies number
    → number < length classes → after ≡ class_with content (class_at classes number)
    → (other : ℕ) → class_at (set classes number after) other ≡ class_after content other (class_at classes other)
classes_more content classes number after some is within e other = elim (cases_eq other number) [
  | inl same ↦
      let here : class_at (set classes number after) other ≡ after = rw same (get_or-set_same classes number after no_class within) in
      let in_it : is_in_class content.copies other ≡ true = rw same (in_class content.copies number is) in
      here ∙ e ∙ rw (in_it, same) refl
  | inr ne ↦
      let here : class_at (set classes number after) other ≡ class_at classes other = get_or-set_other classes number other after no_class ne in
      let out : is_in_class content.copies other ≡ false = other_class content.copies number other some is ne in
      here ∙ rw out refl
]
