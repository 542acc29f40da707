use Rattle.std.proofs.Common.{◌≡◌, ◌*◌, ◌≤◌, take}
use Rattle.page_model.specs.declared.limits.TheConstants.{MAX_PAGES}
use Rattle.share_domain.specs.Totals.{slots_of}
use Rattle.share_domain.proofs.report.count_slots.Given as goal

abbrev pub invariant-loop-machine : goal.invariant-loop-machine
invariant-loop-machine g l = record {
  slots : l.slots ≡ slots_of l.client (take l.machine-index l.machines.items);
  few : l.slots ≤ MAX_PAGES * l.machine-index;
}
