use Rattle.std.proofs.Common.{length, get_or, [], map}
use Rattle.packed_entries.specs.Keys.{has_key}
use Rattle.packed_entries.specs.Places.{no_entry, link_of, entries_of}
use Rattle.packed_entries.specs.Linked.{IsSearch, walk, link_in, chains_from}
use Rattle.packed_entries.proofs.places.Places.find.Given as goal

abbrev pub invariant-loop-link : goal.invariant-loop-link
invariant-loop-link g l =
    IsSearch (map link_of l.self-inside.packed.items) l.before l.link (λ p. has_key l.key (get_or (entries_of l.self-inside.packed.items l.self-inside.capacity) p no_entry)) (get_or (chains_from (map link_of l.self-inside.packed.items) l.self-inside.heads.items) l.bucket [])

abbrev pub decreases-loop-link : goal.decreases-loop-link
decreases-loop-link g l = length (walk (link_in (map link_of l.self-inside.packed.items)) (length (map link_of l.self-inside.packed.items)) l.link)
