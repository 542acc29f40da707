use Rattle.std.proofs.Common.{◌≡◌, ◌-◌, ◌<◌, length, [], ℕ, Bool, map, get_or, List, ◌∙◌, sym, ap, arith, Some}
use Rattle.std.proofs.lemmas.List.{length-map}
use Rattle.packed_entries.specs.Keys.{has_key}
use Rattle.packed_entries.specs.declared.packed.Packed.{Packed}
use Rattle.packed_entries.specs.Places.{no_entry, link_of, entries_of}
use Rattle.packed_entries.specs.Linked.{chains_from, first_of, link_before}
use Rattle.packed_entries.proofs.Threaded.{found_once, looks_into, looked, looks_from, link_at}
use Rattle.packed_entries.proofs.Reached.{reached_entry, length_entries}
use Rattle.packed_entries.proofs.places.Places.find.Goals as goal

pub loop-link-init : goal.loop-link-init
loop-link-init g c =
    let l : c.args.bucket < length (chains_from (map link_of c.self.inside.packed.items) c.self.inside.heads.items) = rw (← c.self.view_is) at c.requires.bucket in
    looks_from c.self.inside.heads.items (map link_of c.self.inside.packed.items) _ _ c.self.invariant.0 c.args.bucket c.index-link.result.now l c.index-link.ensures (λ p. has_key c.args.key (get_or (entries_of c.self.inside.packed.items c.self.inside.capacity) p no_entry))

pub index-packed-requires : goal.index-packed-requires
index-packed-requires g c =
    let test : ℕ → Bool = λ p. has_key c.args.key (get_or (entries_of c.self.inside.packed.items c.self.inside.capacity) p no_entry) in
    let S = looks_into (map link_of c.self.inside.packed.items) c.loop-link.before c.loop-link.link test (get_or (chains_from (map link_of c.self.inside.packed.items) c.self.inside.heads.items) c.args.bucket []) c.loop-link-test.true c.loop-link.invariant in
    let below : c.loop-link.link - 1 < length c.self.inside.packed.items = omega (arith, S.here, length-map c.self.inside.packed.items link_of) in
    omega (arith, below, c.self.inside.packed.ok.0)

pub returns-then-has_key : goal.returns-then-has_key
returns-then-has_key g c =
    let packed : List Packed = c.self.inside.packed.items in
    let links : List ℕ = map link_of packed in
    let heads : List ℕ = c.self.inside.heads.items in
    let place : ℕ = c.loop-link.link - 1 in
    let test : ℕ → Bool = λ p. has_key c.args.key (get_or (entries_of packed c.self.inside.capacity) p no_entry) in
    let S = looks_into links c.loop-link.before c.loop-link.link test (get_or (chains_from links heads) c.args.bucket []) c.loop-link-test.true c.loop-link.invariant in
    let below : place < length packed = omega (arith, S.here, length-map packed link_of) in
    let tested : test place ≡ c.has_key.result = ap (has_key c.args.key) (reached_entry packed c.self.inside.capacity place c.index-packed.result.now below c.index-packed.ensures) ∙ sym c.has_key.ensures in
    let found : first_of test (get_or (chains_from links heads) c.args.bucket []) ≡ Some place = S.found (tested ∙ c.if-has_key.true) in
    let behind : c.loop-link.before ≡ link_before place 0 (get_or (chains_from links heads) c.args.bucket []) = S.behind (tested ∙ c.if-has_key.true) in
    let once = found_once heads links _ _ c.self.invariant.0 c.args.bucket test place found in
    rw (← c.self.view_is) (record { found = sym found; before = behind; once = once; within = omega (arith, below, c.self.invariant.1.fits, length_entries packed c.self.inside.capacity c.self.invariant.1.fits) })

pub loop-link-smaller : goal.loop-link-smaller
loop-link-smaller g c =
    let packed : List Packed = c.self.inside.packed.items in
    let place : ℕ = c.loop-link.link - 1 in
    let test : ℕ → Bool = λ p. has_key c.args.key (get_or (entries_of packed c.self.inside.capacity) p no_entry) in
    let S = looks_into (map link_of packed) c.loop-link.before c.loop-link.link test (get_or (chains_from (map link_of packed) c.self.inside.heads.items) c.args.bucket []) c.loop-link-test.true c.loop-link.invariant in
    let below : place < length packed = omega (arith, S.here, length-map packed link_of) in
    rw (link_at packed place c.index-packed.result.now c.link-link.result below c.index-packed.ensures c.link-link.ensures.value) S.less

pub loop-link-preserved : goal.loop-link-preserved
loop-link-preserved g c =
    let packed : List Packed = c.self.inside.packed.items in
    let place : ℕ = c.loop-link.link - 1 in
    let test : ℕ → Bool = λ p. has_key c.args.key (get_or (entries_of packed c.self.inside.capacity) p no_entry) in
    let S = looks_into (map link_of packed) c.loop-link.before c.loop-link.link test (get_or (chains_from (map link_of packed) c.self.inside.heads.items) c.args.bucket []) c.loop-link-test.true c.loop-link.invariant in
    let below : place < length packed = omega (arith, S.here, length-map packed link_of) in
    let tested : test place ≡ c.has_key.result = ap (has_key c.args.key) (reached_entry packed c.self.inside.capacity place c.index-packed.result.now below c.index-packed.ensures) ∙ sym c.has_key.ensures in
    rw (link_at packed place c.index-packed.result.now c.link-link.result below c.index-packed.ensures c.link-link.ensures.value) (S.next (tested ∙ c.if-has_key.false))

pub returns-clause-found : goal.returns-clause-found
returns-clause-found g c =
    let test : ℕ → Bool = λ p. has_key c.args.key (get_or (entries_of c.self.inside.packed.items c.self.inside.capacity) p no_entry) in
    rw (← c.self.view_is) (sym (looked (map link_of c.self.inside.packed.items) c.loop-link.before c.loop-link.link test (get_or (chains_from (map link_of c.self.inside.packed.items) c.self.inside.heads.items) c.args.bucket []) c.loop-link-test.false c.loop-link.invariant))
