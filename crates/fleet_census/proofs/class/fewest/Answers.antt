use Rattle.std.proofs.Common.{◌≡◌, ◌+◌, ◌-◌, suc, sym, ap, arith, ◌∙◌, ℕ}
use Rattle.fleet_census.proofs.Classed.{fewest_above}
use Rattle.fleet_census.proofs.class.fewest.Goals as goal

pub returns-else-number-eq0 : goal.returns-else-number-eq0
returns-else-number-eq0 c =
    let n = c.args.number in
    let e : n ≡ suc (n - 1) = omega arith in
    ap (λ (power : ℕ). power + 1) c.pow.ensures ∙ sym (fewest_above n (n - 1) e)
