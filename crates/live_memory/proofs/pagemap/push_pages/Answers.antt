use Rattle.std.proofs.Common.{◌/◌, length, refl, arith, ap, ◌++◌, ◌∙◌}
use Rattle.std.specs.Prelude.{filter}
use Rattle.live_memory.specs.PageMaps.{is_page_in, numbers, pages_from}
use Rattle.live_memory.proofs.Paged.{range_all, range_more}
use Rattle.live_memory.proofs.pagemap.push_pages.Goals as goal

pub loop-done-preserved : goal.loop-done-preserved
loop-done-preserved g c = record {
  whole = (c.in_ok-push_run.ensures {u = tt}).whole;
  few = omega (arith, c.min-run.ensures);
  pushed = λ steady. range_more (is_page_in c.args.state (g.P.ReadAt.bytes c.args.pagemap.now)) (numbers c.args.segments.now.items) (numbers c.loop-done.segments.items) (numbers c.push_run.new.segments.items)
      (c.args.range.offset / 4096) c.loop-done.done c.min-run.result (c.loop-done.invariant.pushed steady) ((c.in_ok-push_run.ensures {u = tt}).pushed steady);
}

pub returns-clause-pushed : goal.returns-clause-pushed
returns-clause-pushed g c = λ steady.
    c.loop-done.invariant.pushed steady ∙ range_all (is_page_in c.args.state (g.P.ReadAt.bytes c.args.pagemap.now)) (numbers c.args.segments.now.items) c.args.range c.loop-done.done c.requires.range.1 (omega (arith, c.loop-done-test.false, c.loop-done.invariant.few))
