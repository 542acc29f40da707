use Rattle.std.proofs.Common.{◌≡◌, ℕ, ◌-◌, ◌≤◌, sym, refl, ap, ◌∙◌, arith}
use Rattle.std.specs.FinMap.{get}
use Rattle.share_table.specs.TableMaps.{field_of, count_at}
use Rattle.share_table.specs.declared.entries.SharedEntry.{SharedEntry}
use Rattle.share_table.specs.Stored.{widened, maps_of}
use Rattle.share_table.proofs.Tables.{wide_fits}
use Rattle.share_table.proofs.Kept.{some_frame, entry_in, first_in, entry_agrees, entry_least, entry_most, entry_counts, one_less_of_more, count_changed, count_kept}
use Rattle.share_table.proofs.Table.leave_wide.Goals as goal

pub unwrap-entry-requires : goal.unwrap-entry-requires
unwrap-entry-requires g c =
    some_frame c.self.inside.references c.self.inside.chains c.self.inside.wide c.self.invariant c.args.hash c.shared_entry.result c.shared_entry.ensures.found (rw (← c.self.view_is) at c.requires.present)

pub count_of-count-requires : goal.count_of-count-requires
count_of-count-requires g c =
    let e : SharedEntry = c.unwrap-entry.result in
    let hash_is : e.hash ≡ c.args.hash = rw c.unwrap-entry.ensures at c.shared_entry.ensures.hash in
    let at = entry_in c.self.inside.references c.self.inside.chains c.self.inside.wide c.self.invariant c.args.hash c.shared_entry.result c.shared_entry.ensures.found e c.unwrap-entry.ensures hash_is in
    entry_agrees c.self.inside.references c.self.inside.chains c.self.inside.wide c.self.invariant e at

pub overflow_sub-count : goal.overflow_sub-count
overflow_sub-count g c =
    let e : SharedEntry = c.unwrap-entry.result in
    let hash_is : e.hash ≡ c.args.hash = rw c.unwrap-entry.ensures at c.shared_entry.ensures.hash in
    let at = entry_in c.self.inside.references c.self.inside.chains c.self.inside.wide c.self.invariant c.args.hash c.shared_entry.result c.shared_entry.ensures.found e c.unwrap-entry.ensures hash_is in
    omega (arith, entry_least c.self.inside.references c.self.inside.chains c.self.inside.wide c.self.invariant e at, c.count_of-count.ensures)

pub overflow_sub-self : goal.overflow_sub-self
overflow_sub-self g c =
    let e : SharedEntry = c.unwrap-entry.result in
    let hash_is : e.hash ≡ c.args.hash = rw c.unwrap-entry.ensures at c.shared_entry.ensures.hash in
    let at = entry_in c.self.inside.references c.self.inside.chains c.self.inside.wide c.self.invariant c.args.hash c.shared_entry.result c.shared_entry.ensures.found e c.unwrap-entry.ensures hash_is in
    omega (arith, entry_least c.self.inside.references c.self.inside.chains c.self.inside.wide c.self.invariant e at, entry_most c.self.inside.references c.self.inside.chains c.self.inside.wide c.self.invariant e at)

pub store-field-requires-clause-agrees : goal.store-field-requires-clause-agrees
store-field-requires-clause-agrees g c =
    let e : SharedEntry = c.unwrap-entry.result in
    let hash_is : e.hash ≡ c.args.hash = rw c.unwrap-entry.ensures at c.shared_entry.ensures.hash in
    let at = entry_in c.self.inside.references c.self.inside.chains c.self.inside.wide c.self.invariant c.args.hash c.shared_entry.result c.shared_entry.ensures.found e c.unwrap-entry.ensures hash_is in
    entry_agrees c.self.inside.references c.self.inside.chains c.self.inside.wide c.self.invariant e at

pub store-field-requires-clause-room : goal.store-field-requires-clause-room
store-field-requires-clause-room g c =
    let e : SharedEntry = c.unwrap-entry.result in
    let hash_is : e.hash ≡ c.args.hash = rw c.unwrap-entry.ensures at c.shared_entry.ensures.hash in
    let at = entry_in c.self.inside.references c.self.inside.chains c.self.inside.wide c.self.invariant c.args.hash c.shared_entry.result c.shared_entry.ensures.found e c.unwrap-entry.ensures hash_is in
    let first = first_in c.self.inside.references c.self.inside.chains c.self.inside.wide c.self.invariant c.args.hash c.shared_entry.result c.shared_entry.ensures.found e c.unwrap-entry.ensures hash_is in
    let n : ℕ = c.count_of-count.result in
    let least = entry_least c.self.inside.references c.self.inside.chains c.self.inside.wide c.self.invariant e at in
    let most = entry_most c.self.inside.references c.self.inside.chains c.self.inside.wide c.self.invariant e at in
    let wide_count : 65536 ≤ count_at (maps_of c.self.inside.chains c.self.inside.wide) c.args.hash = rw (← c.self.view_is) at c.requires.wide in
    let same_count : count_at (maps_of c.self.inside.chains c.self.inside.wide) c.args.hash ≡ widened e.field (get c.self.inside.wide e.hash) =
    ap (count_at (maps_of c.self.inside.chains c.self.inside.wide)) (sym hash_is)
    ∙ entry_counts c.self.inside.references c.self.inside.chains c.self.inside.wide c.self.invariant e at in
    let more : 1 ≤ n - 1 = omega (arith, wide_count, same_count, c.count_of-count.ensures) in
    let kept = count_kept c.self.inside.references c.self.inside.chains c.self.inside.wide c.self.invariant e first at (n - 1) (field_of (n - 1)) refl more (c.self.inside.references - 1) (omega (arith, least, most, c.count_of-count.ensures)) (omega (arith, c.self.invariant.counted.bounded)) in
    wide_fits _ _ _ kept.counted

pub invariant_of-self : goal.invariant_of-self
invariant_of-self g c =
    let e : SharedEntry = c.unwrap-entry.result in
    let hash_is : e.hash ≡ c.args.hash = rw c.unwrap-entry.ensures at c.shared_entry.ensures.hash in
    let at = entry_in c.self.inside.references c.self.inside.chains c.self.inside.wide c.self.invariant c.args.hash c.shared_entry.result c.shared_entry.ensures.found e c.unwrap-entry.ensures hash_is in
    let first = first_in c.self.inside.references c.self.inside.chains c.self.inside.wide c.self.invariant c.args.hash c.shared_entry.result c.shared_entry.ensures.found e c.unwrap-entry.ensures hash_is in
    let n : ℕ = c.count_of-count.result in
    let least = entry_least c.self.inside.references c.self.inside.chains c.self.inside.wide c.self.invariant e at in
    let most = entry_most c.self.inside.references c.self.inside.chains c.self.inside.wide c.self.invariant e at in
    let wide_count : 65536 ≤ count_at (maps_of c.self.inside.chains c.self.inside.wide) c.args.hash = rw (← c.self.view_is) at c.requires.wide in
    let same_count : count_at (maps_of c.self.inside.chains c.self.inside.wide) c.args.hash ≡ widened e.field (get c.self.inside.wide e.hash) =
    ap (count_at (maps_of c.self.inside.chains c.self.inside.wide)) (sym hash_is)
    ∙ entry_counts c.self.inside.references c.self.inside.chains c.self.inside.wide c.self.invariant e at in
    let more : 1 ≤ n - 1 = omega (arith, wide_count, same_count, c.count_of-count.ensures) in
    rw (c.replace.ensures, c.of.ensures, c.store-field.ensures.counts)
    (count_kept c.self.inside.references c.self.inside.chains c.self.inside.wide c.self.invariant e first at
    (n - 1) c.store-field.result c.store-field.ensures.field more (c.self.inside.references - 1)
    (omega (arith, least, most, c.count_of-count.ensures)) (omega (arith, c.self.invariant.counted.bounded)))

pub returns-clause-count : goal.returns-clause-count
returns-clause-count g c =
    let e : SharedEntry = c.unwrap-entry.result in
    let hash_is : e.hash ≡ c.args.hash = rw c.unwrap-entry.ensures at c.shared_entry.ensures.hash in
    let at = entry_in c.self.inside.references c.self.inside.chains c.self.inside.wide c.self.invariant c.args.hash c.shared_entry.result c.shared_entry.ensures.found e c.unwrap-entry.ensures hash_is in
    let least = entry_least c.self.inside.references c.self.inside.chains c.self.inside.wide c.self.invariant e at in
    rw (← c.self.view_is, ← hash_is, entry_counts c.self.inside.references c.self.inside.chains c.self.inside.wide c.self.invariant e at) (omega (arith, least, c.count_of-count.ensures))

pub returns-clause-left : goal.returns-clause-left
returns-clause-left g c =
    let e : SharedEntry = c.unwrap-entry.result in
    let hash_is : e.hash ≡ c.args.hash = rw c.unwrap-entry.ensures at c.shared_entry.ensures.hash in
    let at = entry_in c.self.inside.references c.self.inside.chains c.self.inside.wide c.self.invariant c.args.hash c.shared_entry.result c.shared_entry.ensures.found e c.unwrap-entry.ensures hash_is in
    let first = first_in c.self.inside.references c.self.inside.chains c.self.inside.wide c.self.invariant c.args.hash c.shared_entry.result c.shared_entry.ensures.found e c.unwrap-entry.ensures hash_is in
    let n : ℕ = c.count_of-count.result in
    let least = entry_least c.self.inside.references c.self.inside.chains c.self.inside.wide c.self.invariant e at in
    let most = entry_most c.self.inside.references c.self.inside.chains c.self.inside.wide c.self.invariant e at in
    let wide_count : 65536 ≤ count_at (maps_of c.self.inside.chains c.self.inside.wide) c.args.hash = rw (← c.self.view_is) at c.requires.wide in
    let same_count : count_at (maps_of c.self.inside.chains c.self.inside.wide) c.args.hash ≡ widened e.field (get c.self.inside.wide e.hash) =
    ap (count_at (maps_of c.self.inside.chains c.self.inside.wide)) (sym hash_is)
    ∙ entry_counts c.self.inside.references c.self.inside.chains c.self.inside.wide c.self.invariant e at in
    let more : 1 ≤ n - 1 = omega (arith, wide_count, same_count, c.count_of-count.ensures) in
    rw (← c.self.view_is, ← hash_is, one_less_of_more c.self.inside.references c.self.inside.chains c.self.inside.wide c.self.invariant e at (n - 1) (omega (arith, least, c.count_of-count.ensures)) more, c.replace.ensures, c.of.ensures, c.store-field.ensures.counts)
    (count_changed c.self.inside.references c.self.inside.chains c.self.inside.wide c.self.invariant e first at (n - 1) c.store-field.result c.store-field.ensures.field more)
