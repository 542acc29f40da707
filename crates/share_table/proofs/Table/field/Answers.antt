use Rattle.std.proofs.Common.{Some, refl, ap}
use Rattle.std.specs.FinMap.{get}
use Rattle.share_table.specs.declared.entries.SharedEntry.{SharedEntry}
use Rattle.share_table.proofs.Tables.{field_is_kept}
use Rattle.share_table.proofs.Kept.{none_at, frame_here, entry_in, entry_agrees}
use Rattle.share_table.proofs.Table.field.Goals as goal

pub returns-in_err-entry : goal.returns-in_err-entry
returns-in_err-entry g c =
    rw (← c.self.view_is, c.from_residual.ensures, none_at c.self.inside.references c.self.inside.chains c.self.inside.wide c.self.invariant c.args.hash c.shared_entry.result c.shared_entry.ensures.found c.in_err-entry.was) refl

pub returns : goal.returns
returns g c =
    let e : SharedEntry = c.in_ok-entry.entry in
    let agrees =
    entry_agrees c.self.inside.references c.self.inside.chains c.self.inside.wide c.self.invariant e
    (entry_in c.self.inside.references c.self.inside.chains c.self.inside.wide c.self.invariant c.args.hash c.shared_entry.result
    c.shared_entry.ensures.found e c.in_ok-entry.was c.in_ok-entry.ensures.hash) in
    rw (← c.self.view_is, frame_here c.self.inside.references c.self.inside.chains c.self.inside.wide c.self.invariant c.args.hash c.shared_entry.result c.shared_entry.ensures.found e c.in_ok-entry.was c.in_ok-entry.ensures.hash)
    (ap Some (field_is_kept e (get c.self.inside.wide e.hash) agrees))
