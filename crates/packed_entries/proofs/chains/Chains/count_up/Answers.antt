use Rattle.std.proofs.Common.{◌≡◌, ◌+◌, ◌<◌, length, Some, refl, sym, ap, ◌∙◌, arith}
use Rattle.std.specs.Option.{option_map}
use Rattle.packed_entries.specs.declared.entry.Entry.{Entry}
use Rattle.packed_entries.specs.declared.entry.Entry.TheVariants.{Shared}
use Rattle.packed_entries.specs.declared.key.Key.TheVariants as keys
use Rattle.packed_entries.specs.Keys.{has_key, first_with}
use Rattle.packed_entries.specs.Linked.{entry_at, chain_at, first_of, times_in}
use Rattle.packed_entries.specs.Entries.{filed, home, chain_of}
use Rattle.packed_entries.proofs.Filed.{length_filed, searched, place_found, some_of, replaced_entry, up_is, up_stays}
use Rattle.packed_entries.proofs.chains.Chains.count_up.Given.{Over}
use Rattle.packed_entries.proofs.chains.Chains.count_up.Goals as goal
use Rattle.packed_entries.proofs.chains.Chains.count_up.Goals.{After-bucket, After-unwrap-found, After-entry}

-- the bucket is the key's
at_home : (g : Over) (c : After-bucket g) → c.bucket.result ≡ home (length (filed c.self.inside.places).chains) (keys.Shared c.args.hash)
at_home g c = rw (← c.self.view_is) at c.bucket.ensures.value

within : (g : Over) (c : After-bucket g) → c.bucket.result < length c.self.inside.places.chains
within g c =
    let l : c.bucket.result < length (filed c.self.inside.places).chains = rw (← c.self.view_is) at c.bucket.ensures.within in
    omega (arith, l, length_filed c.self.inside.places)

-- the place that was found is the first that the key finds
found_there : (g : Over) (c : After-unwrap-found g) → first_of (λ p. has_key (keys.Shared c.args.hash) (entry_at c.self.inside.places p)) (chain_at c.self.inside.places c.bucket.result) ≡ Some c.unwrap-found.result.place
found_there g c = sym c.find.ensures.found ∙ ap (option_map (λ f. f.place)) c.unwrap-found.ensures

once : (g : Over) (c : After-unwrap-found g) → times_in c.unwrap-found.result.place c.self.inside.places.chains ≡ 1
once g c = rw c.unwrap-found.ensures at c.find.ensures.once

inside : (g : Over) (c : After-unwrap-found g) → c.unwrap-found.result.place < length c.self.inside.places.entries
inside g c = rw c.unwrap-found.ensures at c.find.ensures.within

-- what the place contains is the first entry that the key finds
first : (g : Over) (c : After-entry g) (e : Entry) → c.entry.result ≡ e → first_with (keys.Shared c.args.hash) (chain_of c.args.self.now (keys.Shared c.args.hash)) ≡ Some e
first g c e is =
    let at : c.bucket.result ≡ home (length (filed c.self.inside.places).chains) (keys.Shared c.args.hash) = rw (← c.self.view_is) at c.bucket.ensures.value in
    rw (← c.self.view_is, ← at)
    (searched c.self.inside.places c.bucket.result (keys.Shared c.args.hash) (option_map (λ f. f.place) c.find.result) c.find.ensures.found
    ∙ ap (option_map (entry_at c.self.inside.places)) (ap (option_map (λ f. f.place)) c.unwrap-found.ensures)
    ∙ ap Some (sym c.entry.ensures ∙ is))

pub unwrap-found-requires : goal.unwrap-found-requires
unwrap-found-requires g c =
    let there = rw (← c.self.view_is, ← (at_home g (goal.at.unwrap-found-requires g c).After-bucket)) at c.requires.present in
    some_of (λ f. f.place) c.find.result (place_found c.self.inside.places c.bucket.result (keys.Shared c.args.hash) (option_map (λ f. f.place) c.find.result) c.find.ensures.found there)

pub returns-then-count-eq0-clause-before : goal.returns-then-count-eq0-clause-before
returns-then-count-eq0-clause-before g c = rw (first g (goal.at.returns-then-count-eq0-clause-before g c).After-entry _ c.in-Shared.is) (sym c.if-count-eq0.true)

pub returns-then-count-eq0-clause-counted : goal.returns-then-count-eq0-clause-counted
returns-then-count-eq0-clause-counted g c = rw (first g (goal.at.returns-then-count-eq0-clause-counted g c).After-entry _ c.in-Shared.is, c.if-count-eq0.true) refl

pub returns-then-count-clause-before : goal.returns-then-count-clause-before
returns-then-count-clause-before g c = rw (first g (goal.at.returns-then-count-clause-before g c).After-entry _ c.in-Shared.is) refl

pub returns-then-count-clause-counted : goal.returns-then-count-clause-counted
returns-then-count-clause-counted g c =
    rw (first g (goal.at.returns-then-count-clause-counted g c).After-entry _ c.in-Shared.is) (sym (up_stays c.args.self.now (keys.Shared c.args.hash) c.in-Shared.hash c.in-Shared.mpn c.in-Shared.count c.if-count.true))

pub returns-else-count-clause-before : goal.returns-else-count-clause-before
returns-else-count-clause-before g c = rw (first g (goal.at.returns-else-count-clause-before g c).After-entry _ c.in-Shared.is) refl

pub returns-else-count-clause-counted : goal.returns-else-count-clause-counted
returns-else-count-clause-counted g c =
    let at = goal.at.returns-else-count-clause-counted g c in
    rw (first g at.After-entry _ c.in-Shared.is, up_is c.args.self.now (keys.Shared c.args.hash) c.in-Shared.hash c.in-Shared.mpn c.in-Shared.count c.if-count-eq0.false c.if-count.false, ← c.self.view_is, ← (at_home g at.After-bucket), c.set_entry.ensures)
    (replaced_entry c.self.inside.places c.bucket.result c.unwrap-found.result.place (within g at.After-bucket) (keys.Shared c.args.hash) (found_there g at.After-unwrap-found) (once g at.After-unwrap-found) (Shared c.in-Shared.hash c.in-Shared.mpn (c.in-Shared.count + 1)) (inside g at.After-unwrap-found))

pub returns-in-Hint-clause-before : goal.returns-in-Hint-clause-before
returns-in-Hint-clause-before g c = rw (first g (goal.at.returns-in-Hint-clause-before g c).After-entry _ c.in-Hint.is) refl

pub returns-in-Hint-clause-counted : goal.returns-in-Hint-clause-counted
returns-in-Hint-clause-counted g c = rw (first g (goal.at.returns-in-Hint-clause-counted g c).After-entry _ c.in-Hint.is) refl
