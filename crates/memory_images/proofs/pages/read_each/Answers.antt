use Rattle.std.proofs.Common.{◌+◌, length, arith, ◌∙◌}
use Rattle.std.proofs.lemmas.List.{length-set}
use Rattle.memory_images.specs.Words.{part}
use Rattle.memory_images.specs.Pages.{page_of}
use Rattle.memory_images.proofs.Cut.{run_read, one_more}
use Rattle.memory_images.proofs.pages.read_each.Goals as goal

pub returns : goal.returns
returns g c = λ steady.
    run_read (g.R.ReadAt.bytes c.args.reader.now) c.args.segment c.args.first (length c.args.into.now) c.loop-i.into c.requires.within c.requires.pages c.loop-i.invariant.len
    (λ k l. c.loop-i.invariant.read steady k (omega (arith, l, c.loop-i-test.false)))

pub loop-i-preserved : goal.loop-i-preserved
loop-i-preserved g c = record {
  len = length-set c.loop-i.into c.loop-i.i c.read_page.new.into ∙ c.loop-i.invariant.len;
  read = λ steady. one_more (λ k. page_of (part (g.R.ReadAt.bytes c.args.reader.now) c.args.segment.offset c.args.segment.len) (c.args.first + k)) c.loop-i.i c.loop-i.into c.read_page.new.into
      (omega (arith, c.loop-i-test.true, c.loop-i.invariant.len)) (c.in_ok-read_page.ensures {u = tt} steady) (c.loop-i.invariant.read steady);
}
