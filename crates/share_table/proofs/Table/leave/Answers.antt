use Rattle.std.proofs.Common.{◌≡◌, ◌≢◌, sym, ◌∙◌, arith}
use Rattle.share_table.proofs.Counted.{frame_for, there_at, field_at, wide_at, count_is, field_within, down_none, left_maps, left_kept}
use Rattle.share_table.proofs.Table.leave.Goals as goal

pub count_down-field-requires : goal.count_down-field-requires
count_down-field-requires g c =
    let F = frame_for c.self.inside.references c.self.inside.chains c.self.inside.wide c.self.invariant c.args.hash (rw (← c.self.view_is) at c.requires.present) in
    record { present = there_at c.self.inside.references c.self.inside.chains c.self.inside.wide c.self.invariant c.args.hash F.e F.hash_is F.first_is F.entry_is }

pub leave_wide-requires-clause-wide : goal.leave_wide-requires-clause-wide
leave_wide-requires-clause-wide g c =
    let F = frame_for c.self.inside.references c.self.inside.chains c.self.inside.wide c.self.invariant c.args.hash (rw (← c.self.view_is) at c.requires.present) in
    let same : c.count_down-field.result ≡ F.e.field = c.count_down-field.ensures.before ∙ field_at c.self.inside.references c.self.inside.chains c.self.inside.wide c.self.invariant c.args.hash F.e F.hash_is F.first_is F.entry_is in
    let zero : F.e.field ≡ 0 = sym same ∙ c.if-field-eq-EXTENDED.true in
    rw (
      c.count_down-field.ensures.counted,
      down_none c.self.inside.references c.self.inside.chains c.self.inside.wide c.self.invariant c.args.hash
          F.e F.hash_is F.first_is F.entry_is zero,
    )
    (wide_at c.self.inside.references c.self.inside.chains c.self.inside.wide c.self.invariant c.args.hash F.e F.hash_is F.first_is F.entry_is
    zero)

pub overflow_sub-self : goal.overflow_sub-self
overflow_sub-self g c =
    let F = frame_for c.self.inside.references c.self.inside.chains c.self.inside.wide c.self.invariant c.args.hash (rw (← c.self.view_is) at c.requires.present) in
    let same : c.count_down-field.result ≡ F.e.field = c.count_down-field.ensures.before ∙ field_at c.self.inside.references c.self.inside.chains c.self.inside.wide c.self.invariant c.args.hash F.e F.hash_is F.first_is F.entry_is in
    let some : F.e.field ≢ 0 = λ z. c.if-field-eq-EXTENDED.false (same ∙ z) in
    let within = field_within c.self.inside.references c.self.inside.chains c.self.inside.wide c.self.invariant c.args.hash F.e F.hash_is F.first_is F.entry_is some in
    omega (arith, within, some)

pub invariant_of-self-2 : goal.invariant_of-self-2
invariant_of-self-2 g c =
    let F = frame_for c.self.inside.references c.self.inside.chains c.self.inside.wide c.self.invariant c.args.hash (rw (← c.self.view_is) at c.requires.present) in
    let same : c.count_down-field.result ≡ F.e.field = c.count_down-field.ensures.before ∙ field_at c.self.inside.references c.self.inside.chains c.self.inside.wide c.self.invariant c.args.hash F.e F.hash_is F.first_is F.entry_is in
    let some : F.e.field ≢ 0 = λ z. c.if-field-eq-EXTENDED.false (same ∙ z) in
    rw c.count_down-field.ensures.counted (left_kept c.self.inside.references c.self.inside.chains c.self.inside.wide c.self.invariant c.args.hash F.e F.hash_is F.first_is F.entry_is some)

pub returns-clause-count : goal.returns-clause-count
returns-clause-count g c =
    let F = frame_for c.self.inside.references c.self.inside.chains c.self.inside.wide c.self.invariant c.args.hash (rw (← c.self.view_is) at c.requires.present) in
    let same : c.count_down-field.result ≡ F.e.field = c.count_down-field.ensures.before ∙ field_at c.self.inside.references c.self.inside.chains c.self.inside.wide c.self.invariant c.args.hash F.e F.hash_is F.first_is F.entry_is in
    let some : F.e.field ≢ 0 = λ z. c.if-field-eq-EXTENDED.false (same ∙ z) in
    let counted = count_is c.self.inside.references c.self.inside.chains c.self.inside.wide c.self.invariant c.args.hash F.e F.hash_is F.first_is F.entry_is some in
    rw (← c.self.view_is) (omega (arith, c.from.ensures, same, counted, some))

pub returns-clause-left : goal.returns-clause-left
returns-clause-left g c =
    let F = frame_for c.self.inside.references c.self.inside.chains c.self.inside.wide c.self.invariant c.args.hash (rw (← c.self.view_is) at c.requires.present) in
    let same : c.count_down-field.result ≡ F.e.field = c.count_down-field.ensures.before ∙ field_at c.self.inside.references c.self.inside.chains c.self.inside.wide c.self.invariant c.args.hash F.e F.hash_is F.first_is F.entry_is in
    let some : F.e.field ≢ 0 = λ z. c.if-field-eq-EXTENDED.false (same ∙ z) in
    rw (← c.self.view_is, c.count_down-field.ensures.counted) (left_maps c.self.inside.references c.self.inside.chains c.self.inside.wide c.self.invariant c.args.hash F.e F.hash_is F.first_is F.entry_is some)
