use Rattle.std.proofs.Common.{arith, sym}
use Rattle.page_bench.proofs.AllTaken.{each_taken}
use Rattle.page_bench.proofs.frame_calls.give_back_others.Goals as goal

pub loop-mpn-init : goal.loop-mpn-init
loop-mpn-init c = record {
  rest = λ i above below. each_taken c.args.held.now.frames i (omega (arith, c.used.ensures.value, c.used.ensures.within, c.total-total.ensures, c.if-used-total.false)) below;
  total = sym c.total-total.ensures;
}
