use Rattle.std.proofs.Common.{◌≡◌, ◌*◌, ◌≤◌, take}
use Rattle.std.specs.Prelude.{sum_by}
use Rattle.page_model.specs.declared.limits.TheConstants.{MAX_FRAMES, MAX_PAGES}
use Rattle.lent_slots.specs.Totals.{held_slots, shared_slots, frames_in_use}
use Rattle.share_domain.proofs.report.report.Given as goal

abbrev pub invariant-loop-machine : goal.invariant-loop-machine
invariant-loop-machine g l = record {
  slots : l.slots ≡ sum_by held_slots (take l.machine-index l.machines.items);
  frames : l.frames ≡ sum_by frames_in_use (take l.machine-index l.machines.items);
  shared : l.shared ≡ sum_by shared_slots (take l.machine-index l.machines.items);
  few_slots : l.slots ≤ MAX_PAGES * l.machine-index;
  few_frames : l.frames ≤ MAX_FRAMES * l.machine-index;
  few_shared : l.shared ≤ MAX_PAGES * l.machine-index;
}
