-- What one call pays, in numbers.
use Rattle.std.proofs.Common.{◌≡◌, ◌∙◌, ℕ, ◌+◌, ◌-◌, ◌*◌, ◌/◌, ◌≤◌, ap, sym, arith}
use Rattle.std.specs.Prelude.{min}
use Rattle.std.proofs.Math.Nat.{add-mul}

pub min_first : (a b : ℕ) → min a b ≤ a
min_first a b = omega arith

pub min_second : (a b : ℕ) → min a b ≤ b
min_second a b = omega arith

-- a hundred parts of a hundred are no more than the whole
pub whole : (x : ℕ) → 100 * (x / 100) ≤ x
whole x = omega arith

-- s, h and c are what is paid by what was saved, by the share, and by the credit; p is a hundred times the share, at least
pub pays : (saved owed credit used share p s h c kept : ℕ) → s ≤ saved → s ≤ owed + used → h ≤ share → h ≤ owed + used - s → c ≤ credit →
    c ≤ owed + used - s - h → kept ≤ (saved - s) + (share - h) → 100 * share ≤ p →
    100 * used + 100 * owed + 100 * kept + 100 * (credit - c) ≤ p + 100 * (owed + used - s - h - c) + 100 * saved + 100 * credit
pays saved owed credit used share p s h c kept a b d e f g i j =
    let all : s + h + c ≤ owed + used = omega arith in
    omega arith

-- the same with what the burst adds to the share: q is a hundred times that, at least
pub bursts : (saved owed used share extra p q s h c kept : ℕ) → s ≤ saved → s ≤ owed + used → h ≤ share → h ≤ owed + used - s → c ≤ extra →
    c ≤ owed + used - s - h → kept ≤ (saved - s) + (share - h) → 100 * share ≤ p → 100 * extra ≤ q →
    100 * used + 100 * owed + 100 * kept ≤ (p + q) + 100 * (owed + used - s - h - c) + 100 * saved
bursts saved owed used share extra p q s h c kept a b d e f g i j k =
    let all : s + h + c ≤ owed + used = omega arith in
    omega arith

-- the share and what the burst adds are the burst
pub whole_burst : (percent burst t : ℕ) → percent ≤ burst → percent * t + (burst - percent) * t ≡ burst * t
whole_burst percent burst t h =
    let is : percent + (burst - percent) ≡ burst = omega arith in
    sym (add-mul percent (burst - percent) t) ∙ ap (λ k. k * t) is
