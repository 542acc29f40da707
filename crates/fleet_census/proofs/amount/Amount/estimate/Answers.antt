use Rattle.std.proofs.Common.{◌≡◌, ◌+◌, ◌*◌, ◌-◌, ◌^◌, ℕ, min, arith, ◌∙◌}
use Rattle.fleet_census.proofs.amount.Amount.estimate.Goals as goal

-- a sum that ends at a number may end there earlier
ends_twice : (kept others most : ℕ) → min (kept + min others most) most ≡ min (kept + others) most
ends_twice kept others most = omega arith

pub returns : goal.returns
returns c =
    let self = c.args.self.now in
    c.saturating_add.ensures ∙ rw (c.saturating_mul-others.ensures, c.from.ensures) (ends_twice self.zeros (self.others * c.args.sample) (2 ^ 64 - 1))
