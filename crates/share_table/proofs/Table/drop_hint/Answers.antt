use Rattle.share_table.proofs.Kept.{note_there, hint_gone, drop_kept}
use Rattle.share_table.proofs.Table.drop_hint.Goals as goal

pub remove-requires : goal.remove-requires
remove-requires g c = record { present = note_there c.self.inside.references c.self.inside.chains c.self.inside.wide c.self.invariant c.args.key (rw (← c.self.view_is) at c.requires.present) }

pub invariant_of-self : goal.invariant_of-self
invariant_of-self g c = rw c.remove.ensures (drop_kept c.self.inside.references c.self.inside.chains c.self.inside.wide c.self.invariant c.args.key (rw (← c.self.view_is) at c.requires.present))

pub returns : goal.returns
returns g c = rw (← c.self.view_is, c.remove.ensures) (hint_gone c.self.inside.references c.self.inside.chains c.self.inside.wide c.self.invariant c.args.key (rw (← c.self.view_is) at c.requires.present))
