use Rattle.std.proofs.Common.{◌≡◌, ◌<◌, length}
use Rattle.std.specs.Prelude.{IfSome}
use Rattle.share_domain.specs.Leaving.{first_slot}
use Rattle.share_domain.proofs.Leaves.{Released}
use Rattle.share_domain.proofs.domain.Domain.release_from.Given as goal

-- the slot that was found is the first of those that are left
abbrev pub invariant-loop-i : goal.invariant-loop-i
invariant-loop-i g l = record {
  so_far : Released l.client l.fn.freed l.fn.self l.i l.freed l.self;
  found : l.found ≡ first_slot l.client l.self.machines;
  within : IfSome l.found (λ slot. slot.machine < length l.self.machines);
}
