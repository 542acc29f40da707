use Rattle.std.proofs.Common.{sym, ◌∙◌}
use Rattle.share_table.proofs.Kept.{hint_got}
use Rattle.share_table.proofs.Table.find_hint.Goals as goal

pub returns : goal.returns
returns g c = rw (← c.self.view_is) (c.hint_entry.ensures ∙ sym (hint_got c.self.inside.references c.self.inside.chains c.self.inside.wide c.self.invariant c.args.key))
