use Rattle.std.proofs.Common.{◌≡◌, [], arith, drop, length, take, refl}
use Rattle.std.proofs.lemmas.List.{length-take}
use Rattle.memory_pages.proofs.Made.{nothing_read, run_read}
use Rattle.memory_pages.proofs.part.read_items.Goals as goal

pub loop-done-init : goal.loop-done-init
loop-done-init g c = record {
  within = omega arith;
  pages = c.in_ok-pages.ensures;
  made = nothing_read (g.S.PageSource.is_steady c.args.source.now) (g.W.PageWork.gives c.args.work.now) (drop c.args.from (g.S.PageSource.pages c.args.source.now)) 0 [] _ refl c.in_ok-items.ensures.items;
}

pub loop-done-preserved : goal.loop-done-preserved
loop-done-preserved g c =
    let so_far = c.loop-done.invariant in
    let pages = g.S.PageSource.pages c.args.source.now in
    let n = c.min-run.result in
    let long : length (take n c.deref_mut.result.now) ≡ n = omega (arith, length-take n c.deref_mut.result.now, c.deref_mut.ensures.len, c.min-run.ensures, so_far.pages) in
    let same : length c.read_run.new.into ≡ n = omega (arith, long, c.read_run.auto.into) in
    record {
      within = omega (arith, c.min-run.ensures);
      pages = so_far.pages;
      made = run_read (g.S.PageSource.is_steady c.args.source.now) (g.W.PageWork.gives c.args.work.now) pages c.args.from c.loop-done.done n c.read_run.new.into [] _ _
          so_far.made same (omega (arith, c.min-run.ensures, c.requires.within)) (λ s. rw long at (c.in_ok-read_run.ensures {u = tt} s)) c.in_ok-push.ensures;
    }
