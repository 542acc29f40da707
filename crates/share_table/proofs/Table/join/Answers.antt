use Rattle.std.proofs.Common.{◌≡◌, ◌≢◌, ◌+◌, ◌<◌, sym, ap, ◌∙◌, arith}
use Rattle.share_table.specs.TableMaps.{references}
use Rattle.share_table.specs.Stored.{maps_of}
use Rattle.share_table.proofs.Counted.{frame_for, there_at, field_at, count_is, up_maps, up_kept}
use Rattle.share_table.proofs.Table.join.Goals as goal

pub count_up-field-requires : goal.count_up-field-requires
count_up-field-requires g c =
    let F = frame_for c.self.inside.references c.self.inside.chains c.self.inside.wide c.self.invariant c.args.hash (rw (← c.self.view_is) at c.requires.present) in
    record { present = there_at c.self.inside.references c.self.inside.chains c.self.inside.wide c.self.invariant c.args.hash F.e F.hash_is F.first_is F.entry_is }

pub invariant_of-self-2 : goal.invariant_of-self-2
invariant_of-self-2 g c =
    let F = frame_for c.self.inside.references c.self.inside.chains c.self.inside.wide c.self.invariant c.args.hash (rw (← c.self.view_is) at c.requires.present) in
    let same : c.count_up-field.result ≡ F.e.field = c.count_up-field.ensures.before ∙ field_at c.self.inside.references c.self.inside.chains c.self.inside.wide c.self.invariant c.args.hash F.e F.hash_is F.first_is F.entry_is in
    let some : F.e.field ≢ 0 = λ z. c.if-field-eq-EXTENDED.false (same ∙ z) in
    let room : F.e.field ≢ 65535 = λ z. c.if-field.false (same ∙ z) in
    let sum : references (maps_of c.self.inside.chains c.self.inside.wide) < 1048576 = rw (← c.self.view_is) at c.requires.references in
    let total : references (maps_of c.self.inside.chains c.self.inside.wide) ≡ c.self.inside.references = c.self.invariant.counted.summed in
    rw c.count_up-field.ensures.counted (up_kept c.self.inside.references c.self.inside.chains c.self.inside.wide c.self.invariant c.args.hash F.e F.hash_is F.first_is F.entry_is some room (omega (arith, sum, total)))

pub returns-clause-count : goal.returns-clause-count
returns-clause-count g c =
    let F = frame_for c.self.inside.references c.self.inside.chains c.self.inside.wide c.self.invariant c.args.hash (rw (← c.self.view_is) at c.requires.present) in
    let same : c.count_up-field.result ≡ F.e.field = c.count_up-field.ensures.before ∙ field_at c.self.inside.references c.self.inside.chains c.self.inside.wide c.self.invariant c.args.hash F.e F.hash_is F.first_is F.entry_is in
    let some : F.e.field ≢ 0 = λ z. c.if-field-eq-EXTENDED.false (same ∙ z) in
    rw (← c.self.view_is) (ap (λ n. n + 1) (c.from.ensures ∙ same ∙ sym (count_is c.self.inside.references c.self.inside.chains c.self.inside.wide c.self.invariant c.args.hash F.e F.hash_is F.first_is F.entry_is some)))

pub returns-clause-joined : goal.returns-clause-joined
returns-clause-joined g c =
    let F = frame_for c.self.inside.references c.self.inside.chains c.self.inside.wide c.self.invariant c.args.hash (rw (← c.self.view_is) at c.requires.present) in
    let same : c.count_up-field.result ≡ F.e.field = c.count_up-field.ensures.before ∙ field_at c.self.inside.references c.self.inside.chains c.self.inside.wide c.self.invariant c.args.hash F.e F.hash_is F.first_is F.entry_is in
    let some : F.e.field ≢ 0 = λ z. c.if-field-eq-EXTENDED.false (same ∙ z) in
    let room : F.e.field ≢ 65535 = λ z. c.if-field.false (same ∙ z) in
    rw (← c.self.view_is, c.count_up-field.ensures.counted) (up_maps c.self.inside.references c.self.inside.chains c.self.inside.wide c.self.invariant c.args.hash F.e F.hash_is F.first_is F.entry_is some room)
