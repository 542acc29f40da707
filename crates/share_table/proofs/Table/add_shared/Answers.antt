use Rattle.std.proofs.Common.{◌≡◌, ◌+◌, ◌<◌, ◌≤◌, None, arith}
use Rattle.packed_entries.specs.Entries.{entry_count as chained}
use Rattle.share_table.specs.TableMaps.{shared_at, entry_count, references}
use Rattle.share_table.specs.Stored.{maps_of}
use Rattle.share_table.proofs.Kept.{count_is, frame_added, frame_kept}
use Rattle.share_table.proofs.Table.add_shared.Goals as goal

pub invariant_of-self : goal.invariant_of-self
invariant_of-self g c =
    let absent : shared_at (maps_of c.self.inside.chains c.self.inside.wide) c.args.hash ≡ None = rw (← c.self.view_is) at c.requires.absent in
    let free : entry_count (maps_of c.self.inside.chains c.self.inside.wide) < c.self.inside.chains.capacity = rw (← c.self.view_is) at c.requires.room in
    let room : chained c.self.inside.chains < c.self.inside.chains.capacity = omega (arith, free, count_is c.self.inside.references c.self.inside.chains c.self.inside.wide c.self.invariant) in
    let sum : references (maps_of c.self.inside.chains c.self.inside.wide) + 2 ≤ 1048576 = rw (← c.self.view_is) at c.requires.references in
    let total : references (maps_of c.self.inside.chains c.self.inside.wide) ≡ c.self.inside.references = c.self.invariant.counted.summed in
    rw (c.add.ensures, c.of.ensures) (frame_kept c.self.inside.references c.self.inside.chains c.self.inside.wide c.self.invariant c.args.hash c.args.mpn absent room (omega (arith, sum, total)))

pub returns : goal.returns
returns g c =
    let absent : shared_at (maps_of c.self.inside.chains c.self.inside.wide) c.args.hash ≡ None = rw (← c.self.view_is) at c.requires.absent in
    let free : entry_count (maps_of c.self.inside.chains c.self.inside.wide) < c.self.inside.chains.capacity = rw (← c.self.view_is) at c.requires.room in
    let room : chained c.self.inside.chains < c.self.inside.chains.capacity = omega (arith, free, count_is c.self.inside.references c.self.inside.chains c.self.inside.wide c.self.invariant) in
    rw (← c.self.view_is, c.add.ensures, c.of.ensures) (frame_added c.self.inside.references c.self.inside.chains c.self.inside.wide c.self.invariant c.args.hash c.args.mpn absent room)
