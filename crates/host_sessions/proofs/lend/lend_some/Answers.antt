use Rattle.std.proofs.Common.{List, ◌++◌, replicate, ap, ◌∙◌}
use Rattle.host_messages.specs.declared.item.Lent.{Lent}
use Rattle.host_sessions.specs.Turns.{not_lent}
use Rattle.host_sessions.proofs.lend.lend_some.Goals as goal

pub returns-clause-lends : goal.returns-clause-lends
returns-clause-lends g c = record {
  lent = c.lend_each-lent.result.items;
  lends = c.lend_each-lent.ensures.lends;
  loans-is = c.with_refused.ensures ∙ ap (λ (ls : List Lent). ls ++ replicate c.args.others not_lent) c.as_slice.ensures.value;
}
