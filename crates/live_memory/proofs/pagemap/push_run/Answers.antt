use Rattle.std.proofs.Common.{length, refl, arith, ◌∙◌}
use Rattle.live_memory.specs.PageMaps.{numbers}
use Rattle.live_memory.proofs.Paged.{run_more}
use Rattle.live_memory.proofs.pagemap.push_run.Goals as goal

pub loop-i-preserved : goal.loop-i-preserved
loop-i-preserved g c = record {
  whole = (c.in_ok-push_if.ensures {u = tt}).whole;
  pushed = λ steady. run_more c.args.state (g.P.ReadAt.bytes c.args.pagemap.now) c.read_at.new.into (numbers c.loop-i.segments.items) (numbers c.push_if.new.segments.items) (numbers c.args.segments.now.items)
      c.args.first c.loop-i.i (length c.args.into.now) (c.in_default.ensures.read steady) (omega (arith, c.requires.eights, c.loop-i-test.true)) (c.loop-i.invariant.pushed steady) (c.in_ok-push_if.ensures {u = tt}).pushed;
}
