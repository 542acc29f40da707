use Rattle.std.proofs.Common.{◌≡◌, ◌<◌, List, length, arith, map, refl}
use Rattle.std.proofs.Math.ListN.{set}
use Rattle.std.proofs.lemmas.List.{length-map, length-set}
use Rattle.packed_entries.specs.declared.packed.Packed.{Packed}
use Rattle.packed_entries.specs.Places.{link_of, entries_of, with_entry}
use Rattle.packed_entries.specs.Linked.{times_in, chains_from}
use Rattle.packed_entries.proofs.Threaded.{chained_within, links_stay}
use Rattle.packed_entries.proofs.Reached.{entries_written}
use Rattle.packed_entries.proofs.places.Places.set_entry.Given.{Over}
use Rattle.packed_entries.proofs.places.Places.set_entry.Goals as goal
use Rattle.packed_entries.proofs.places.Places.set_entry.Goals.{After-self, After-set_entry}

-- a place in a chain was reached
below : (g : Over) (c : After-self g) → c.args.place < length c.self.inside.packed.items
below g c =
    let packed : List Packed = c.self.inside.packed.items in
    let once : times_in c.args.place (chains_from (map link_of packed) c.self.inside.heads.items) ≡ 1 = rw (← c.self.view_is) at c.requires in
    omega (arith, chained_within c.self.inside.heads.items (map link_of packed) _ _ c.self.invariant.0 c.args.place once, length-map packed link_of)

-- the links once the entry is written
stay : (g : Over) (c : After-set_entry g) → c.args.place < length c.self.inside.packed.items → map link_of (set c.self.inside.packed.items c.args.place c.set_entry.new.self) ≡ map link_of c.self.inside.packed.items
stay g c within = rw c.set_entry.ensures (links_stay c.self.inside.packed.items c.args.place c.index_mut.result.now c.args.entry within c.index_mut.ensures.value)

pub index_mut-requires : goal.index_mut-requires
index_mut-requires g c = omega (arith, below g (goal.at.index_mut-requires g c).After-self, c.self.inside.packed.ok.0)

pub invariant_of-self : goal.invariant_of-self
invariant_of-self g c =
    let at = goal.at.invariant_of-self g c in
    rw (stay g at.After-set_entry (below g at.After-self), length-set c.self.inside.packed.items c.args.place c.set_entry.new.self) c.self.invariant

pub returns : goal.returns
returns g c =
    let at = goal.at.returns g c in
    let packed : List Packed = c.self.inside.packed.items in
    let capacity = c.self.inside.capacity in
    let within = below g at.After-self in
    let items : entries_of (set packed c.args.place c.set_entry.new.self) capacity ≡ set (entries_of packed capacity) c.args.place c.args.entry =
    rw c.set_entry.ensures (entries_written packed capacity c.args.place (with_entry c.index_mut.result.now c.args.entry) within) in
    rw (← c.self.view_is, stay g at.After-set_entry within, items) refl
