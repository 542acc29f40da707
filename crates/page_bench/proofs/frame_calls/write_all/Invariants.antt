use Rattle.std.proofs.Common.{◌≡◌, length}
use Rattle.machine_frames.specs.FrameMap.{used}
use Rattle.page_bench.proofs.frame_calls.write_all.Given as goal

abbrev pub invariant-loop-mpn : goal.invariant-loop-mpn
invariant-loop-mpn l = record { all : used l.held.frames ≡ length l.held.frames; total : length l.held.frames ≡ l.total }
