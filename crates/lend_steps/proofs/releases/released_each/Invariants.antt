use Rattle.std.proofs.Common.{◌≡◌, true, []}
use Rattle.lend_steps.specs.Lists.{InTurn}
use Rattle.lend_steps.specs.Releases.{ReleasedAt}
use Rattle.window_tables.specs.Tables.{Counted, has_parts}
use Rattle.lend_steps.proofs.releases.released_each.Given as goal

abbrev pub invariant-loop-n : goal.invariant-loop-n
invariant-loop-n l = record {
  turns : InTurn (ReleasedAt l.is_done) l.lead l.numbers l.fn.pages l.fn.parts [] l.n l.pages l.parts [];
  counted : Counted l.lead l.fn.pages l.fn.parts → Counted l.lead l.pages l.parts;
  parts : has_parts l.lead l.pages l.parts ≡ true;
}
