use Rattle.std.proofs.Common.{arith}
use Rattle.page_bench.proofs.AllTaken.{each_taken}
use Rattle.page_bench.proofs.frame_calls.write_all.Goals as goal

pub write-requires-clause-taken : goal.write-requires-clause-taken
write-requires-clause-taken c = each_taken c.loop-mpn.held.frames c.loop-mpn.mpn c.loop-mpn.invariant.all (omega (arith, c.loop-mpn-test.true, c.loop-mpn.invariant.total))
