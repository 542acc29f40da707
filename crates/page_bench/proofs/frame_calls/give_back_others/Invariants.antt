use Rattle.std.proofs.Common.{◌≡◌, ℕ, ◌≤◌, ◌<◌, length}
use Rattle.machine_frames.specs.FrameMap.{IsTaken}
use Rattle.page_bench.proofs.frame_calls.give_back_others.Given as goal

abbrev pub invariant-loop-mpn : goal.invariant-loop-mpn
invariant-loop-mpn l = record {
  rest : (i : ℕ) → l.mpn ≤ i → i < length l.held.frames → IsTaken l.held.frames i;
  total : length l.held.frames ≡ l.total;
}
