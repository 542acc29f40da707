-- A thread that waits for as long as it is to may work then.
use Rattle.std.proofs.Common.{◌≡◌, ◌∙◌, ℕ, ◌+◌, ◌-◌, ◌*◌, ◌/◌, ◌<◌, ◌≤◌, Bool, true, false, cond, refl, ap, sym, subst, arith}
use Rattle.std.specs.Prelude.{min, nat_eq}
use Rattle.std.proofs.lemmas.Bool.{le-leb, leb-true}
use Rattle.std.proofs.Math.Nat.{lt-div-mul-add, mul_comm}
use Rattle.look_tasks.specs.Budgets.{settled, may_work, wait_of, rate, part_of, due, by_saved, share, by_share, by_credit}
use Rattle.look_tasks.specs.Stretches.{WaitsEnough}

-- what is owed once nothing was used, if the share is enough
owes_none : (saved owed share s h c : ℕ) → s ≡ min saved owed → h ≡ min share (owed - s) → owed ≤ share → owed - s - h - c ≡ 0
owes_none saved owed share s h c e f k = omega arith

owes_less : (owed s h c : ℕ) → owed - s - h - c ≤ owed
owes_less owed s h c = omega arith

nothing_used : (owed spent : ℕ) → owed + (spent - spent) ≡ owed
nothing_used owed spent = omega arith

-- the time until so much is paid, rounded up, pays it
is_enough : (owed percent t : ℕ) → 1 ≤ percent → t ≡ (owed * 100 + percent - 1) / percent → owed ≤ percent * t / 100
is_enough owed percent t h e =
    let above : owed * 100 + percent - 1 < (owed * 100 + percent - 1) / percent * percent + percent = lt-div-mul-add {a = owed * 100 + percent - 1} {b = percent} (omega (arith, h)) in
    let is : (owed * 100 + percent - 1) / percent * percent ≡ percent * t = ap (λ k. k * percent) (sym e) ∙ mul_comm t percent in
    omega (arith, above, is, h)

passes : (now t : ℕ) → now + t - now ≡ t
passes now t = omega arith

pub waits_enough : WaitsEnough
waits_enough b least none owed = pick (may_work b) refl where
  pick : (m : Bool) → may_work b ≡ m → may_work (settled b (b.time + wait_of b) b.spent) ≡ true
  pick true m =
      let less : (settled b (b.time + wait_of b) b.spent).owed ≤ b.owed =
      subst (λ d. d - by_saved b b.spent - by_share b (b.time + wait_of b) b.spent - by_credit b (b.time + wait_of b) b.spent ≤ b.owed) (sym (nothing_used b.owed b.spent)) (owes_less b.owed _ _ _) in
      le-leb _ _ (omega (arith, less, leb-true b.owed b.owed_most m))
  pick false m =
      let is_rate : rate b ≡ b.percent = ap (λ k. cond (nat_eq k 0) b.percent b.burst) none in
      let short : min b.owed 10000000000 ≡ b.owed = omega (arith, owed) in
      let is_wait : wait_of b ≡ (b.owed * 100 + b.percent - 1) / b.percent =
      ap (λ x. cond x 0 ((min b.owed 10000000000 * 100 + rate b - 1) / rate b)) m
      ∙ ap (λ r. (min b.owed 10000000000 * 100 + r - 1) / r) is_rate
      ∙ ap (λ o. (o * 100 + b.percent - 1) / b.percent) short in
      let enough : b.owed ≤ share b (b.time + wait_of b) = subst (λ t. b.owed ≤ part_of b.percent t) (sym (passes b.time (wait_of b))) (is_enough b.owed b.percent (wait_of b) least is_wait) in
      let same : due b b.spent ≡ b.owed = nothing_used b.owed b.spent in
      let zero_owed : (settled b (b.time + wait_of b) b.spent).owed ≡ 0 =
      ap (λ d. d - by_saved b b.spent - by_share b (b.time + wait_of b) b.spent - by_credit b (b.time + wait_of b) b.spent) same
      ∙ owes_none b.saved b.owed (share b (b.time + wait_of b)) (by_saved b b.spent) (by_share b (b.time + wait_of b) b.spent) (by_credit b (b.time + wait_of b) b.spent)
      (ap (λ d. min b.saved d) same) (ap (λ d. min (share b (b.time + wait_of b)) (d - by_saved b b.spent)) same) enough in
      le-leb _ _ (omega (arith, zero_owed))
