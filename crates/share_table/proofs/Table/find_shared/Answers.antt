use Rattle.std.proofs.Common.{refl}
use Rattle.share_table.proofs.Kept.{none_at, frame_here, entry_in, entry_agrees}
use Rattle.share_table.proofs.Table.find_shared.Goals as goal

pub returns-in_err-entry : goal.returns-in_err-entry
returns-in_err-entry g c =
    rw (← c.self.view_is, c.from_residual.ensures, none_at c.self.inside.references c.self.inside.chains c.self.inside.wide c.self.invariant c.args.hash c.shared_entry.result c.shared_entry.ensures.found c.in_err-entry.was) refl

pub count_of-requires : goal.count_of-requires
count_of-requires g c =
    entry_agrees c.self.inside.references c.self.inside.chains c.self.inside.wide c.self.invariant c.in_ok-entry.entry
    (entry_in c.self.inside.references c.self.inside.chains c.self.inside.wide c.self.invariant c.args.hash c.shared_entry.result
    c.shared_entry.ensures.found c.in_ok-entry.entry c.in_ok-entry.was c.in_ok-entry.ensures.hash)

pub returns : goal.returns
returns g c =
    rw (← c.self.view_is, frame_here c.self.inside.references c.self.inside.chains c.self.inside.wide c.self.invariant c.args.hash c.shared_entry.result c.shared_entry.ensures.found c.in_ok-entry.entry c.in_ok-entry.was c.in_ok-entry.ensures.hash, c.count_of.ensures) refl
