use Rattle.std.proofs.Common.{◌≡◌, ℕ, ◌-◌, ◌<◌, ◌≤◌, length, get_or, List, [], refl, arith, ◌∙◌, map, vec_capacity}
use Rattle.std.proofs.Math.ListN.{set}
use Rattle.std.proofs.lemmas.List.{length-map, length-set}
use Rattle.packed_entries.specs.declared.packed.Packed.{Packed}
use Rattle.packed_entries.specs.Places.{link_of, entry_of, entries_of}
use Rattle.packed_entries.specs.Linked.{times, link_before, chains_from}
use Rattle.packed_entries.proofs.Threaded.{place_within, used_some, Freed, freed_first, freed_later, freed_kept, freed_chains, free_fits, link_read, link_written, entries_stay}
use Rattle.packed_entries.proofs.Reached.{entries_same}
use Rattle.packed_entries.proofs.places.Places.remove.Given.{Over}
use Rattle.packed_entries.proofs.places.Places.remove.Goals as goal
use Rattle.packed_entries.proofs.places.Places.remove.Goals.{After-self, After-link-after, After-index_mut-2, After-set_link-2, then-before-eq0, else-before-eq0}

-- the bucket and the place that are given, in the fields
in_bucket : (g : Over) (c : After-self g) → c.args.bucket < length (chains_from (map link_of c.self.inside.packed.items) c.self.inside.heads.items)
in_bucket g c = rw (← c.self.view_is) at c.requires.bucket

in_chain : (g : Over) (c : After-self g) → 1 ≤ times c.args.found.place (get_or (chains_from (map link_of c.self.inside.packed.items) c.self.inside.heads.items) c.args.bucket [])
in_chain g c = rw (← c.self.view_is) at c.requires.place

below : (g : Over) (c : After-self g) → c.args.found.place < length c.self.inside.packed.items
below g c =
    let packed : List Packed = c.self.inside.packed.items in
    let within : c.args.found.place < length (map link_of packed) = place_within c.self.inside.heads.items (map link_of packed) _ _ c.self.invariant.0 c.args.bucket (in_bucket g c) c.args.found.place (in_chain g c) in
    omega (arith, within, length-map packed link_of)

-- the place before it, if there is one
before_below : (g : Over) (c : After-link-after g) → c.args.found.place < length c.self.inside.packed.items → (c.args.found.before ≡ 0 → ⊥) → c.args.found.before - 1 < length c.self.inside.packed.items
before_below g c within some =
    let packed : List Packed = c.self.inside.packed.items in
    let heads : List ℕ = c.self.inside.heads.items in
    let l : c.args.bucket < length (chains_from (map link_of packed) heads) = rw (← c.self.view_is) at c.requires.bucket in
    let there : 1 ≤ times c.args.found.place (get_or (chains_from (map link_of packed) heads) c.args.bucket []) = rw (← c.self.view_is) at c.requires.place in
    let behind : c.args.found.before ≡ link_before c.args.found.place 0 (get_or (chains_from (map link_of packed) heads) c.args.bucket []) = rw (← c.self.view_is) at c.requires.before in
    let after = link_read packed c.args.found.place c.index.result.now c.link-after.result within c.index.ensures c.link-after.ensures.value in
    let at = (freed_later heads (map link_of packed) _ _ c.self.invariant.0 c.args.bucket l c.args.found.place there c.args.found.before c.link-after.result behind some after).0 in
    omega (arith, at, length-map packed link_of)

-- the place is out of its chain, and its own link is still to be written
freed : (g : Over) (c : After-index_mut-2 g) → c.args.found.place < length c.self.inside.packed.items
    → Freed c.self.inside.heads.items (map link_of c.self.inside.packed.items) c.self.inside.free c.self.inside.used c.args.bucket c.args.found.place c.if-before-eq0.self-inside.heads.items (map link_of c.if-before-eq0.self-inside.packed.items) c.if-before-eq0.self-inside.free c.if-before-eq0.self-inside.used
freed g c within =
    let packed : List Packed = c.self.inside.packed.items in
    let heads : List ℕ = c.self.inside.heads.items in
    let l : c.args.bucket < length (chains_from (map link_of packed) heads) = rw (← c.self.view_is) at c.requires.bucket in
    let there : 1 ≤ times c.args.found.place (get_or (chains_from (map link_of packed) heads) c.args.bucket []) = rw (← c.self.view_is) at c.requires.place in
    let behind : c.args.found.before ≡ link_before c.args.found.place 0 (get_or (chains_from (map link_of packed) heads) c.args.bucket []) = rw (← c.self.view_is) at c.requires.before in
    let after = link_read packed c.args.found.place c.index.result.now c.link-after.result within c.index.ensures c.link-after.ensures.value in
    elim c.if-before-eq0.branch [
      | then-before-eq0 w ↦ rw w.self-inside-is (freed_first heads (map link_of packed) _ _ c.self.invariant.0 c.args.bucket l c.args.found.place there c.args.found.before c.link-after.result behind w.if-before-eq0.true after)
      | else-before-eq0 w ↦
          rw (w.self-inside-is, w.set_link.ensures, link_written packed (c.args.found.before - 1) w.index_mut-else-before-eq0.result.now c.link-after.result)
          (freed_later heads (map link_of packed) _ _ c.self.invariant.0 c.args.bucket l c.args.found.place there c.args.found.before c.link-after.result behind w.if-before-eq0.false after).1
    ]

-- how many places were reached, and how many there are, once the place is out of its chain
stays : (g : Over) (c : After-index_mut-2 g) → (length c.if-before-eq0.self-inside.packed.items ≡ length c.self.inside.packed.items) × (c.if-before-eq0.self-inside.capacity ≡ c.self.inside.capacity) × (vec_capacity c.if-before-eq0.self-inside.packed ≡ vec_capacity c.self.inside.packed)
stays g c =
    elim c.if-before-eq0.branch [
      | then-before-eq0 w ↦ rw w.self-inside-is (refl, refl, refl)
      | else-before-eq0 w ↦ rw w.self-inside-is (length-set c.self.inside.packed.items (c.args.found.before - 1) w.set_link.new.self, refl, refl)
    ]

-- the links once its own link is written
written : (g : Over) (c : After-set_link-2 g) → map link_of (set c.if-before-eq0.self-inside.packed.items c.args.found.place c.set_link-2.new.self) ≡ set (map link_of c.if-before-eq0.self-inside.packed.items) c.args.found.place c.if-before-eq0.self-inside.free
written g c = rw c.set_link-2.ensures (link_written c.if-before-eq0.self-inside.packed.items c.args.found.place c.index_mut-2.result.now c.if-before-eq0.self-inside.free)

-- not more places were reached than links can name
reached_few : (g : Over) (c : After-self g) → length (map link_of c.self.inside.packed.items) ≤ 1048576
reached_few g c =
    let within = c.self.invariant.1 in
    omega (arith, within.fits, within.limit, length-map c.self.inside.packed.items link_of)

pub index-requires : goal.index-requires
index-requires g c = omega (arith, below g (goal.at.index-requires g c).After-self, c.self.inside.packed.ok.0)

pub index_mut-requires-else-before-eq0 : goal.index_mut-requires-else-before-eq0
index_mut-requires-else-before-eq0 g c =
    let at = goal.at.index_mut-requires-else-before-eq0 g c in
    omega (arith, before_below g at.After-link-after (below g at.After-self) c.if-before-eq0.false, c.self.inside.packed.ok.0)

pub index_mut-requires-2 : goal.index_mut-requires-2
index_mut-requires-2 g c =
    let len : length c.if-before-eq0.self-inside.packed.items ≡ length c.self.inside.packed.items =
    elim c.if-before-eq0.branch [
      | then-before-eq0 w ↦ rw w.self-inside-is refl
      | else-before-eq0 w ↦ rw w.self-inside-is (length-set c.self.inside.packed.items (c.args.found.before - 1) w.set_link.new.self)
    ] in
    omega (arith, below g (goal.at.index_mut-requires-2 g c).After-self, len, c.if-before-eq0.self-inside.packed.ok.0)

pub set_link-requires-2 : goal.set_link-requires-2
set_link-requires-2 g c =
    let at = goal.at.set_link-requires-2 g c in
    omega (arith, (freed g at.After-index_mut-2 (below g at.After-self)).free_is, free_fits c.self.inside.heads.items (map link_of c.self.inside.packed.items) _ _ c.self.invariant.0 (reached_few g at.After-self))

pub overflow_add-self : goal.overflow_add-self
overflow_add-self g c = omega (arith, below g (goal.at.overflow_add-self g c).After-self, c.self.invariant.1.fits, c.self.invariant.1.limit)

pub overflow_sub-self : goal.overflow_sub-self
overflow_sub-self g c =
    let at = goal.at.overflow_sub-self g c in
    let some = used_some c.self.inside.heads.items (map link_of c.self.inside.packed.items) _ _ c.self.invariant.0 c.args.bucket (in_bucket g at.After-self) c.args.found.place (in_chain g at.After-self) in
    omega (arith, (freed g at.After-index_mut-2 (below g at.After-self)).used_is, some)

pub invariant_of-self : goal.invariant_of-self
invariant_of-self g c =
    let at = goal.at.invariant_of-self g c in
    let within = c.self.invariant.1 in
    let S = stays g at.After-index_mut-2 in (
      rw (written g at.After-set_link-2)
          (freed_kept c.self.inside.heads.items (map link_of c.self.inside.packed.items) _ _ c.self.invariant.0 c.args.bucket (in_bucket g at.After-self) c.args.found.place (in_chain g at.After-self) _ _ _ _ (freed g at.After-index_mut-2 (below g at.After-self))),
      record {
        fits = omega (arith, within.fits, S.0, S.1, length-set c.if-before-eq0.self-inside.packed.items c.args.found.place c.set_link-2.new.self);
        room = rw (S.1, S.2) within.room;
        limit = rw S.1 within.limit;
      },
    )

pub returns : goal.returns
returns g c =
    let at = goal.at.returns g c in
    let packed : List Packed = c.self.inside.packed.items in
    let i = c.if-before-eq0.self-inside in
    let out = freed g at.After-index_mut-2 (below g at.After-self) in
    let inside : c.args.found.place < length i.packed.items = omega (arith, below g at.After-self, length-map packed link_of, out.len, length-map i.packed.items link_of) in
    let items : map entry_of i.packed.items ≡ map entry_of packed =
    elim c.if-before-eq0.branch [
      | then-before-eq0 w ↦ rw w.self-inside-is refl
      | else-before-eq0 w ↦
          let within = before_below g at.After-link-after (below g at.After-self) w.if-before-eq0.false in
          rw (w.self-inside-is, w.set_link.ensures) (entries_stay packed (c.args.found.before - 1) w.index_mut-else-before-eq0.result.now c.link-after.result within w.index_mut-else-before-eq0.ensures.value)
    ] in
    let S = stays g at.After-index_mut-2 in
    let written_items : map entry_of (set i.packed.items c.args.found.place c.set_link-2.new.self) ≡ map entry_of packed =
    rw c.set_link-2.ensures (entries_stay i.packed.items c.args.found.place c.index_mut-2.result.now i.free inside c.index_mut-2.ensures.value) ∙ items in
    let all_items : entries_of (set i.packed.items c.args.found.place c.set_link-2.new.self) i.capacity ≡ entries_of packed c.self.inside.capacity =
    rw S.1 (entries_same packed (set i.packed.items c.args.found.place c.set_link-2.new.self) c.self.inside.capacity (length-set i.packed.items c.args.found.place c.set_link-2.new.self ∙ S.0) written_items) in
    rw (← c.self.view_is, written g at.After-set_link-2, all_items, freed_chains c.self.inside.heads.items (map link_of packed) _ _ c.self.invariant.0 c.args.bucket (in_bucket g at.After-self) c.args.found.place (in_chain g at.After-self) _ _ _ _ out) refl
