use Rattle.std.proofs.Common.{◌≡◌, ℕ, ◌-◌, ◌<◌, ◌≤◌, length, get_or, drop, List, [], ◌∷◌, refl, arith, map, ap, ◌∙◌, vec_capacity}
use Rattle.std.proofs.Math.ListN.{set}
use Rattle.std.proofs.lemmas.List.{length-set, length-map}
use Rattle.packed_entries.specs.declared.packed.Packed.{Packed}
use Rattle.packed_entries.specs.Places.{link_of, entries_of}
use Rattle.packed_entries.specs.Linked.{lengths, link_in, walk, chains_from, Linked}
use Rattle.packed_entries.proofs.Threaded.{place_of_spare, some_spare, add_linked, kept, chains_are, lengths-set, link_read, links_set, head_fits}
use Rattle.packed_entries.proofs.Reached.{Ready, ready, reached, unreached, entries_written, length_entries}
use Rattle.packed_entries.proofs.places.Places.add.Given.{Over}
use Rattle.packed_entries.proofs.places.Places.add.Goals as goal
use Rattle.packed_entries.proofs.places.Places.add.Goals.{After-self, After-index-head, After-set, then-self-eq0, else-self-eq0}

-- a place is in no chain
room : (g : Over) (c : After-self g) → lengths (chains_from (map link_of c.self.inside.packed.items) c.self.inside.heads.items) < length (entries_of c.self.inside.packed.items c.self.inside.capacity)
room g c = rw (← c.self.view_is) at c.requires.room

-- a place that was reached is empty, or one more was reached
is_ready : (g : Over) (c : After-index-head g)
    → Ready c.self.inside.heads.items c.self.inside.packed.items c.self.inside.used c.self.inside.capacity c.if-self-eq0.self-inside.heads.items c.if-self-eq0.self-inside.packed.items c.if-self-eq0.self-inside.free c.if-self-eq0.self-inside.used c.if-self-eq0.self-inside.capacity (vec_capacity c.if-self-eq0.self-inside.packed)
is_ready g c =
    let i = c.self.inside in
    let some = rw (← c.self.view_is) at c.requires.room in
    elim c.if-self-eq0.branch [
      | then-self-eq0 w ↦
          rw (w.self-inside-is, w.reach_one_more-self-inside.ensures.items, w.reach_one_more-self-inside.ensures.capacity)
          (reached i.heads.items i.packed.items i.free i.used i.capacity (vec_capacity i.packed) c.self.invariant.0 c.self.invariant.1 w.if-self-eq0.true some w.reach_one_more-self-inside.result w.reach_one_more-self-inside.ensures.link)
      | else-self-eq0 w ↦
          rw w.self-inside-is (ready i.heads.items i.packed.items i.free i.used i.capacity (vec_capacity i.packed) c.self.invariant.0 c.self.invariant.1 w.if-self-eq0.false)
    ]

in_bucket : (g : Over) (c : After-index-head g) → c.args.bucket < length (chains_from (map link_of c.if-self-eq0.self-inside.packed.items) c.if-self-eq0.self-inside.heads.items)
in_bucket g c = let l = rw (← c.self.view_is) at c.requires.bucket in rw (is_ready g c).chains l

below : (g : Over) (c : After-index-head g) → c.if-self-eq0.self-inside.free - 1 < length c.if-self-eq0.self-inside.packed.items
below g c =
    let i = c.if-self-eq0.self-inside in
    let R = is_ready g c in
    let some = place_of_spare i.heads.items (map link_of i.packed.items) _ _ R.kept_is (some_spare i.heads.items (map link_of i.packed.items) _ _ R.kept_is R.some) in
    omega (arith, some.0, some.1, length-map i.packed.items link_of)

-- the links once the place is written
written : (g : Over) (c : After-set g) → map link_of (set c.if-self-eq0.self-inside.packed.items (c.if-self-eq0.self-inside.free - 1) c.set.new.self) ≡ set (map link_of c.if-self-eq0.self-inside.packed.items) (c.if-self-eq0.self-inside.free - 1) c.index-head.result.now
written g c =
    let packed : List Packed = c.if-self-eq0.self-inside.packed.items in
    let p : ℕ = c.if-self-eq0.self-inside.free - 1 in
    rw c.set.ensures (links_set packed p (record { entry = c.args.entry; link = c.of-link.result }) ∙ ap (set (map link_of packed) p) c.of-link.ensures)

pub reach_one_more-self-inside-requires-clause-few : goal.reach_one_more-self-inside-requires-clause-few
reach_one_more-self-inside-requires-clause-few g c =
    let i = c.self.inside in
    let left = unreached i.heads.items i.packed.items i.free i.used i.capacity (vec_capacity i.packed) c.self.invariant.0 c.self.invariant.1 c.if-self-eq0.true (room g (goal.at.reach_one_more-self-inside-requires-clause-few g c).After-self) in
    omega (arith, left, c.self.invariant.1.limit, i.packed.ok.0)

pub reach_one_more-self-inside-requires-clause-room : goal.reach_one_more-self-inside-requires-clause-room
reach_one_more-self-inside-requires-clause-room g c =
    let i = c.self.inside in
    let left = unreached i.heads.items i.packed.items i.free i.used i.capacity (vec_capacity i.packed) c.self.invariant.0 c.self.invariant.1 c.if-self-eq0.true (room g (goal.at.reach_one_more-self-inside-requires-clause-room g c).After-self) in
    omega (arith, left, c.self.invariant.1.room, i.packed.ok.0)

pub index-requires : goal.index-requires
index-requires g c = omega (arith, below g (goal.at.index-requires g c).After-index-head, c.if-self-eq0.self-inside.packed.ok.0)

pub index_mut-requires-2 : goal.index_mut-requires-2
index_mut-requires-2 g c = omega (arith, below g (goal.at.index_mut-requires-2 g c).After-index-head, c.if-self-eq0.self-inside.packed.ok.0)

pub of-link-requires : goal.of-link-requires
of-link-requires g c =
    let at = (goal.at.of-link-requires g c).After-index-head in
    let i = c.if-self-eq0.self-inside in
    let R = is_ready g at in
    let few : length (map link_of i.packed.items) ≤ 1048576 = omega (arith, R.within.fits, R.within.limit, length-map i.packed.items link_of) in
    omega (arith, head_fits i.heads.items (map link_of i.packed.items) _ _ R.kept_is few c.args.bucket c.index-head.result.now (in_bucket g at) c.index-head.ensures)

-- the chains once the place is written
linked : (g : Over) (c : After-set g)
    → Ready c.self.inside.heads.items c.self.inside.packed.items c.self.inside.used c.self.inside.capacity c.if-self-eq0.self-inside.heads.items c.if-self-eq0.self-inside.packed.items c.if-self-eq0.self-inside.free c.if-self-eq0.self-inside.used c.if-self-eq0.self-inside.capacity (vec_capacity c.if-self-eq0.self-inside.packed)
    → c.args.bucket < length (chains_from (map link_of c.if-self-eq0.self-inside.packed.items) c.if-self-eq0.self-inside.heads.items) → c.if-self-eq0.self-inside.free - 1 < length c.if-self-eq0.self-inside.packed.items
    → Linked (link_in (set (map link_of c.if-self-eq0.self-inside.packed.items) (c.if-self-eq0.self-inside.free - 1) c.index-head.result.now)) (length (map link_of c.if-self-eq0.self-inside.packed.items)) c.link-self-inside.result
    (set c.if-self-eq0.self-inside.heads.items c.args.bucket c.if-self-eq0.self-inside.free)
    (drop 1 (walk (link_in (map link_of c.if-self-eq0.self-inside.packed.items)) (length (map link_of c.if-self-eq0.self-inside.packed.items)) c.if-self-eq0.self-inside.free))
    (set (chains_from (map link_of c.if-self-eq0.self-inside.packed.items) c.if-self-eq0.self-inside.heads.items) c.args.bucket ((c.if-self-eq0.self-inside.free - 1) ∷ get_or (chains_from (map link_of c.if-self-eq0.self-inside.packed.items) c.if-self-eq0.self-inside.heads.items) c.args.bucket []))
linked g c R l within =
    let i = c.if-self-eq0.self-inside in
    let p : ℕ = i.free - 1 in
    let links : List ℕ = map link_of i.packed.items in
    let after = link_read i.packed.items p c.index.result.now c.link-self-inside.result within c.index.ensures c.link-self-inside.ensures.value in
    add_linked i.heads.items links _ _ R.kept_is c.args.bucket l p c.index-head.result.now c.link-self-inside.result (some_spare i.heads.items links _ _ R.kept_is R.some) refl c.index-head.ensures after

pub invariant_of-self : goal.invariant_of-self
invariant_of-self g c =
    let at = goal.at.invariant_of-self g c in
    let i = c.if-self-eq0.self-inside in
    let links : List ℕ = map link_of i.packed.items in
    let chains : List (List ℕ) = chains_from links i.heads.items in
    let p : ℕ = i.free - 1 in
    let R = is_ready g at.After-index-head in
    let l = in_bucket g at.After-index-head in (
      rw (written g at.After-set)
          (kept _ _ _ _ (length links) _ _ (length-set links p c.index-head.result.now) (linked g at.After-set R l (below g at.After-index-head))
          (omega (arith, lengths-set chains c.args.bucket (p ∷ get_or chains c.args.bucket []) l, R.kept_is.counted))),
      rw (length-set i.packed.items p c.set.new.self) R.within,
    )

pub returns-clause-within : goal.returns-clause-within
returns-clause-within g c =
    let at = (goal.at.returns-clause-within g c).After-index-head in
    let R = is_ready g at in
    rw (← c.self.view_is) (omega (arith, below g at, R.within.fits, R.capacity_is, length_entries c.self.inside.packed.items c.self.inside.capacity c.self.invariant.1.fits))

pub returns-clause-unused : goal.returns-clause-unused
returns-clause-unused g c =
    let i = c.if-self-eq0.self-inside in
    let R = is_ready g (goal.at.returns-clause-unused g c).After-index-head in
    rw (← c.self.view_is, ← R.chains) (place_of_spare i.heads.items (map link_of i.packed.items) _ _ R.kept_is (some_spare i.heads.items (map link_of i.packed.items) _ _ R.kept_is R.some)).2

pub returns-clause-added : goal.returns-clause-added
returns-clause-added g c =
    let at = goal.at.returns-clause-added g c in
    let i = c.if-self-eq0.self-inside in
    let packed : List Packed = i.packed.items in
    let links : List ℕ = map link_of packed in
    let chains : List (List ℕ) = chains_from links i.heads.items in
    let p : ℕ = i.free - 1 in
    let R = is_ready g at.After-index-head in
    let within = below g at.After-index-head in
    let chains_now : chains_from (set links p c.index-head.result.now) (set i.heads.items c.args.bucket i.free) ≡ set chains c.args.bucket (p ∷ get_or chains c.args.bucket []) =
    chains_are _ _ _ (length links) _ _ (length-set links p c.index-head.result.now) (linked g at.After-set R (in_bucket g at.After-index-head) within) in
    let items : entries_of (set packed p c.set.new.self) i.capacity ≡ set (entries_of packed i.capacity) p c.args.entry = rw c.set.ensures (entries_written packed i.capacity p (record { entry = c.args.entry; link = c.of-link.result }) within) in
    rw (← c.self.view_is, written g at.After-set, items, chains_now, R.chains, R.entries) refl
