use Rattle.std.proofs.Common.{◌≡◌, ◌≤◌, ◌++◌, length, replicate, vec_len}
use Rattle.std.specs.Prelude.{vec_capacity}
use Rattle.std.specs.Vec.Iter.{into_iter_items}
use Rattle.machine_frames.specs.FrameMap.{no_frames}
use Rattle.lent_slots.specs.Totals.{empty_machine}
use Rattle.share_domain.proofs.make.new_machines.Given as goal

abbrev pub invariant-loop-own : goal.invariant-loop-own
invariant-loop-own g l = record {
  whole : l.yielded ++ into_iter_items l.own-iterator ≡ replicate l.config.machines (no_frames l.config.frames);
  made : l.machines.items ≡ replicate (length l.yielded) (empty_machine l.config.slots l.config.frames);
  len : vec_len l.machines ≡ length l.yielded;
  room : l.config.machines ≤ vec_capacity l.machines;
}
