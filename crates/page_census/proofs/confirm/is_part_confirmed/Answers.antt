use Rattle.std.proofs.Common.{arith}
use Rattle.page_census.specs.Contents.{contents}
use Rattle.page_census.proofs.Fingerprints.{one_confirmed}
use Rattle.page_census.proofs.confirm.is_part_confirmed.Goals as goal

pub loop-number-preserved : goal.loop-number-preserved
loop-number-preserved g c = record {
  own = c.loop-number.invariant.own;
  other = c.loop-number.invariant.other;
  right = λ steady. one_confirmed (contents g.S.PageSource.pages c.args.guests.now) c.args.classes.now _ c.loop-number.number (c.loop-number.invariant.right steady) (c.in_ok-is_one_content.ensures {u = tt} c.if-not-branch.false steady);
}

pub returns : goal.returns
returns g c = λ _. record {
  right = λ steady n low lt within.
      let classed = c.requires.classed in
      c.loop-number.invariant.right steady n (omega (arith, low, c.saturating_mul-from.ensures))
      (omega (arith, low, lt, within, c.loop-number-test.false, c.min-end.ensures, c.saturating_mul-from.ensures, c.saturating_add.ensures, classed.classed, classed.few));
}
