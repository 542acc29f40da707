use Rattle.std.proofs.Common.{◌≡◌, ◌≤◌, length, vec_capacity}
use Rattle.slab.specs.Slab.{slab_len}
use Rattle.machine_frames.specs.InBlocks.{AreBlocks}
use Rattle.machine_frames.proofs.blocks.Blocks.new.Given as goal

abbrev pub invariant-loop-number : goal.invariant-loop-number
invariant-loop-number g l = record {
  sound : AreBlocks l.keys.items l.blocks 0 l.fn.capacity;
  made : length l.keys.items ≡ l.number;
  stored : slab_len l.blocks ≡ l.number;
  room : l.count ≤ l.blocks.capacity;
  keys : l.count ≤ vec_capacity l.keys;
}
