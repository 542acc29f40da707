use Rattle.std.proofs.Common.{◌≡◌, drop}
use Rattle.share_domain.specs.Leaving.{slot_from}
use Rattle.share_domain.proofs.leave.find_slot.Given as goal

-- what is left gives the same first slot
abbrev pub invariant-loop-m : goal.invariant-loop-m
invariant-loop-m g l = record {
  same : l.machines.items ≡ l.fn.machines.items;
  left : slot_from l.client l.m (drop l.m l.fn.machines.items) ≡ slot_from l.client l.first (drop l.first l.fn.machines.items);
}
