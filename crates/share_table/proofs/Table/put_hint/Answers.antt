use Rattle.std.proofs.Common.{◌≡◌, ◌<◌, None, arith}
use Rattle.packed_entries.specs.Entries.{entry_count as chained}
use Rattle.share_table.specs.TableMaps.{HintFrame, hint_at, entry_count}
use Rattle.share_table.specs.Stored.{maps_of}
use Rattle.share_table.proofs.Kept.{count_is, hint_added, hint_kept}
use Rattle.share_table.proofs.Table.put_hint.Goals as goal

pub invariant_of-self : goal.invariant_of-self
invariant_of-self g c =
    let frame : HintFrame = record { guest = c.args.guest; ppn = c.args.ppn; mpn = c.args.mpn } in
    let absent : hint_at (maps_of c.self.inside.chains c.self.inside.wide) c.args.key ≡ None = rw (← c.self.view_is) at c.requires.absent in
    let free : entry_count (maps_of c.self.inside.chains c.self.inside.wide) < c.self.inside.chains.capacity = rw (← c.self.view_is) at c.requires.room in
    let room : chained c.self.inside.chains < c.self.inside.chains.capacity = omega (arith, free, count_is c.self.inside.references c.self.inside.chains c.self.inside.wide c.self.invariant) in
    rw (c.add.ensures, c.of.ensures, c.of-2.ensures) (hint_kept c.self.inside.references c.self.inside.chains c.self.inside.wide c.self.invariant c.args.key frame absent room)

pub returns : goal.returns
returns g c =
    let frame : HintFrame = record { guest = c.args.guest; ppn = c.args.ppn; mpn = c.args.mpn } in
    let absent : hint_at (maps_of c.self.inside.chains c.self.inside.wide) c.args.key ≡ None = rw (← c.self.view_is) at c.requires.absent in
    let free : entry_count (maps_of c.self.inside.chains c.self.inside.wide) < c.self.inside.chains.capacity = rw (← c.self.view_is) at c.requires.room in
    let room : chained c.self.inside.chains < c.self.inside.chains.capacity = omega (arith, free, count_is c.self.inside.references c.self.inside.chains c.self.inside.wide c.self.invariant) in
    rw (← c.self.view_is, c.add.ensures, c.of.ensures, c.of-2.ensures) (hint_added c.self.inside.references c.self.inside.chains c.self.inside.wide c.self.invariant c.args.key frame absent room)
