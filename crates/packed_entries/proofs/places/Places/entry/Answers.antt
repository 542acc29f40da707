use Rattle.std.proofs.Common.{◌≡◌, ◌<◌, List, length, arith, map, sym}
use Rattle.std.proofs.lemmas.List.{length-map}
use Rattle.packed_entries.specs.declared.packed.Packed.{Packed}
use Rattle.packed_entries.specs.Places.{link_of}
use Rattle.packed_entries.specs.Linked.{times_in, chains_from}
use Rattle.packed_entries.proofs.Threaded.{chained_within}
use Rattle.packed_entries.proofs.Reached.{reached_entry}
use Rattle.packed_entries.proofs.places.Places.entry.Given.{Over}
use Rattle.packed_entries.proofs.places.Places.entry.Goals as goal
use Rattle.packed_entries.proofs.places.Places.entry.Goals.{After-self}

-- a place in a chain was reached
below : (g : Over) (c : After-self g) → c.args.place < length c.self.inside.packed.items
below g c =
    let packed : List Packed = c.self.inside.packed.items in
    let once : times_in c.args.place (chains_from (map link_of packed) c.self.inside.heads.items) ≡ 1 = rw (← c.self.view_is) at c.requires in
    omega (arith, chained_within c.self.inside.heads.items (map link_of packed) _ _ c.self.invariant.0 c.args.place once, length-map packed link_of)

pub index-requires : goal.index-requires
index-requires g c = omega (arith, below g (goal.at.index-requires g c).After-self, c.self.inside.packed.ok.0)

pub returns : goal.returns
returns g c =
    let inside = c.self.inside in
    rw (← c.self.view_is, c.get-packed.ensures)
    (sym (reached_entry inside.packed.items inside.capacity c.args.place c.index.result.now (below g (goal.at.returns g c).After-self) c.index.ensures))
