use Rattle.std.proofs.Common.{◌≡◌, true, length}
use Rattle.lend_steps.specs.Asks.{takes_none}
use Rattle.lend_steps.specs.Holds.{GivesBackAt}
use Rattle.lend_steps.specs.Lists.{InTurnWith}
use Rattle.window_tables.specs.Tables.{Counted, has_parts}
use Rattle.lend_steps.proofs.holds.to_give_back_each.Given as goal

abbrev pub invariant-loop-n : goal.invariant-loop-n
invariant-loop-n l = record {
  turns : InTurnWith (GivesBackAt l.table l.pins l.most l.lead l.wholes l.numbers) takes_none l.lead l.numbers l.fn.pages l.fn.parts l.fn.answers l.taken l.n l.taken l.pages l.parts l.answers;
  counted : Counted l.lead l.fn.pages l.fn.parts → Counted l.lead l.pages l.parts;
  parts : has_parts l.lead l.pages l.parts ≡ true;
  count : length l.answers ≡ length l.numbers;
}
