use Rattle.std.proofs.Common.{◌≡◌, ℕ, ◌+◌, ◌<◌, refl, ap, arith}
use Rattle.share_table.specs.TableMaps.{references, field_of}
use Rattle.share_table.specs.declared.entries.SharedEntry.{SharedEntry}
use Rattle.share_table.specs.Stored.{maps_of}
use Rattle.share_table.proofs.Tables.{wide_fits}
use Rattle.share_table.proofs.Kept.{some_frame, entry_in, first_in, entry_agrees, entry_most, entry_counts, counts_as, count_changed, count_kept}
use Rattle.share_table.proofs.Table.join_wide.Goals as goal

pub unwrap-entry-requires : goal.unwrap-entry-requires
unwrap-entry-requires g c =
    some_frame c.self.inside.references c.self.inside.chains c.self.inside.wide c.self.invariant c.args.hash c.shared_entry.result c.shared_entry.ensures.found (rw (← c.self.view_is) at c.requires.present)

pub count_of-count-requires : goal.count_of-count-requires
count_of-count-requires g c =
    let e : SharedEntry = c.unwrap-entry.result in
    let hash_is : e.hash ≡ c.args.hash = rw c.unwrap-entry.ensures at c.shared_entry.ensures.hash in
    let at = entry_in c.self.inside.references c.self.inside.chains c.self.inside.wide c.self.invariant c.args.hash c.shared_entry.result c.shared_entry.ensures.found e c.unwrap-entry.ensures hash_is in
    entry_agrees c.self.inside.references c.self.inside.chains c.self.inside.wide c.self.invariant e at

pub overflow_add-count : goal.overflow_add-count
overflow_add-count g c =
    let e : SharedEntry = c.unwrap-entry.result in
    let hash_is : e.hash ≡ c.args.hash = rw c.unwrap-entry.ensures at c.shared_entry.ensures.hash in
    let at = entry_in c.self.inside.references c.self.inside.chains c.self.inside.wide c.self.invariant c.args.hash c.shared_entry.result c.shared_entry.ensures.found e c.unwrap-entry.ensures hash_is in
    omega (arith, entry_most c.self.inside.references c.self.inside.chains c.self.inside.wide c.self.invariant e at, c.count_of-count.ensures, c.self.invariant.counted.bounded)

pub store-field-requires-clause-agrees : goal.store-field-requires-clause-agrees
store-field-requires-clause-agrees g c =
    let e : SharedEntry = c.unwrap-entry.result in
    let hash_is : e.hash ≡ c.args.hash = rw c.unwrap-entry.ensures at c.shared_entry.ensures.hash in
    let at = entry_in c.self.inside.references c.self.inside.chains c.self.inside.wide c.self.invariant c.args.hash c.shared_entry.result c.shared_entry.ensures.found e c.unwrap-entry.ensures hash_is in
    entry_agrees c.self.inside.references c.self.inside.chains c.self.inside.wide c.self.invariant e at

pub store-field-requires-clause-room : goal.store-field-requires-clause-room
store-field-requires-clause-room g c =
    let e : SharedEntry = c.unwrap-entry.result in
    let hash_is : e.hash ≡ c.args.hash = rw c.unwrap-entry.ensures at c.shared_entry.ensures.hash in
    let at = entry_in c.self.inside.references c.self.inside.chains c.self.inside.wide c.self.invariant c.args.hash c.shared_entry.result c.shared_entry.ensures.found e c.unwrap-entry.ensures hash_is in
    let first = first_in c.self.inside.references c.self.inside.chains c.self.inside.wide c.self.invariant c.args.hash c.shared_entry.result c.shared_entry.ensures.found e c.unwrap-entry.ensures hash_is in
    let n : ℕ = c.count_of-count.result in
    let sum : references (maps_of c.self.inside.chains c.self.inside.wide) < 1048576 = rw (← c.self.view_is) at c.requires.references in
    let total : references (maps_of c.self.inside.chains c.self.inside.wide) ≡ c.self.inside.references = c.self.invariant.counted.summed in
    let kept = count_kept c.self.inside.references c.self.inside.chains c.self.inside.wide c.self.invariant e first at (n + 1) (field_of (n + 1)) refl (omega arith) (c.self.inside.references + 1) (omega (arith, c.count_of-count.ensures)) (omega (arith, sum, total)) in
    wide_fits _ _ _ kept.counted

pub invariant_of-self : goal.invariant_of-self
invariant_of-self g c =
    let e : SharedEntry = c.unwrap-entry.result in
    let hash_is : e.hash ≡ c.args.hash = rw c.unwrap-entry.ensures at c.shared_entry.ensures.hash in
    let at = entry_in c.self.inside.references c.self.inside.chains c.self.inside.wide c.self.invariant c.args.hash c.shared_entry.result c.shared_entry.ensures.found e c.unwrap-entry.ensures hash_is in
    let first = first_in c.self.inside.references c.self.inside.chains c.self.inside.wide c.self.invariant c.args.hash c.shared_entry.result c.shared_entry.ensures.found e c.unwrap-entry.ensures hash_is in
    let n : ℕ = c.count_of-count.result in
    let sum : references (maps_of c.self.inside.chains c.self.inside.wide) < 1048576 = rw (← c.self.view_is) at c.requires.references in
    let total : references (maps_of c.self.inside.chains c.self.inside.wide) ≡ c.self.inside.references = c.self.invariant.counted.summed in
    rw (c.replace.ensures, c.of.ensures, c.store-field.ensures.counts)
    (count_kept c.self.inside.references c.self.inside.chains c.self.inside.wide c.self.invariant e first at (n + 1) c.store-field.result c.store-field.ensures.field (omega arith) (c.self.inside.references + 1) (omega (arith, c.count_of-count.ensures)) (omega (arith, sum, total)))

pub returns-clause-count : goal.returns-clause-count
returns-clause-count g c =
    let e : SharedEntry = c.unwrap-entry.result in
    let hash_is : e.hash ≡ c.args.hash = rw c.unwrap-entry.ensures at c.shared_entry.ensures.hash in
    let at = entry_in c.self.inside.references c.self.inside.chains c.self.inside.wide c.self.invariant c.args.hash c.shared_entry.result c.shared_entry.ensures.found e c.unwrap-entry.ensures hash_is in
    rw (← c.self.view_is, ← hash_is, entry_counts c.self.inside.references c.self.inside.chains c.self.inside.wide c.self.invariant e at) (ap (λ n. n + 1) c.count_of-count.ensures)

pub returns-clause-joined : goal.returns-clause-joined
returns-clause-joined g c =
    let e : SharedEntry = c.unwrap-entry.result in
    let hash_is : e.hash ≡ c.args.hash = rw c.unwrap-entry.ensures at c.shared_entry.ensures.hash in
    let at = entry_in c.self.inside.references c.self.inside.chains c.self.inside.wide c.self.invariant c.args.hash c.shared_entry.result c.shared_entry.ensures.found e c.unwrap-entry.ensures hash_is in
    let first = first_in c.self.inside.references c.self.inside.chains c.self.inside.wide c.self.invariant c.args.hash c.shared_entry.result c.shared_entry.ensures.found e c.unwrap-entry.ensures hash_is in
    let n : ℕ = c.count_of-count.result in
    rw (
      ← c.self.view_is,
      ← hash_is,
      entry_counts c.self.inside.references c.self.inside.chains c.self.inside.wide c.self.invariant e at,
      ← c.count_of-count.ensures,
      counts_as c.self.inside.references c.self.inside.chains c.self.inside.wide c.self.invariant e at (n + 1),
      c.replace.ensures,
      c.of.ensures,
      c.store-field.ensures.counts,
    )
    (count_changed c.self.inside.references c.self.inside.chains c.self.inside.wide c.self.invariant e first at (n + 1) c.store-field.result c.store-field.ensures.field (omega arith))
