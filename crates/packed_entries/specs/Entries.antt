-- What a contract sees of `Chains`: how many entries fit, and each bucket's chain of entries.
use Rattle.std.specs.Prelude.{ℕ, ◌+◌, ◌-◌, ◌%◌, ◌==◌, if◌then◌else◌, List, [], ◌∷◌, Option, Some}
use Rattle.std.specs.Prelude.{None, length, map, replicate, slice_index_or, slice_set as set}
use Rattle.packed_entries.specs.declared.entry.Entry.{Entry}
use Rattle.packed_entries.specs.declared.entry.Entry.TheVariants.{Shared, Hint}
use Rattle.packed_entries.specs.declared.key.Key.{Key}
use Rattle.packed_entries.specs.Keys.{truncated, with_other, without_first}
use Rattle.packed_entries.specs.Linked.{Chained, entry_at}

pub record EntryChains : Type 0 where
  pub capacity : ℕ
  pub chains : List (List Entry)

-- the number of entries in all chains
abbrev pub entries_in : List (List Entry) → ℕ
entries_in [] = 0
entries_in (c ∷ cs) = length c + entries_in cs

abbrev pub entry_count : EntryChains → ℕ
entry_count t = entries_in t.chains

-- the bucket of a key, if there are this many buckets: its truncated hash modulo their number
abbrev pub home : ℕ → Key → ℕ
home buckets key = truncated key % buckets

-- the chain of a key's bucket
abbrev pub chain_of : EntryChains → Key → List Entry
chain_of t key = slice_index_or t.chains (home (length t.chains) key) []

-- the chains with another one in a key's bucket
abbrev pub with_chain : EntryChains → Key → List Entry → EntryChains
with_chain t key entries = record t { chains = set t.chains (home (length t.chains) key) entries }

abbrev pub empty_chains : ℕ → ℕ → EntryChains
empty_chains buckets capacity = record { capacity = capacity; chains = replicate buckets [] }

-- the chains of the entries that are in chains of places
abbrev pub filed : Chained → EntryChains
filed c = record { capacity = length c.entries; chains = map (map (entry_at c)) c.chains }

-- One page more for the shared frame that a key finds. A count of 0 means that the count isn't kept in the entry, and one of
-- 65,535 would not fit it afterwards: both stay.
abbrev pub counted_up : EntryChains → Key → Option Entry → EntryChains
counted_up t key None = t
counted_up t key (Some (Hint number guest ppn mpn)) = t
counted_up t key (Some (Shared hash mpn count)) =
    if count == 0 then t
    else if count == 65535 then t
    else with_chain t key (with_other key (Shared hash mpn (count + 1)) (chain_of t key))

-- One page less for the shared frame that a key finds, whose entry is removed with its last page. A count of 0 means that the count
-- isn't kept in the entry, and stays.
abbrev pub counted_down : EntryChains → Key → Option Entry → EntryChains
counted_down t key None = t
counted_down t key (Some (Hint number guest ppn mpn)) = t
counted_down t key (Some (Shared hash mpn count)) =
    if count == 0 then t
    else if count == 1 then with_chain t key (without_first key (chain_of t key))
    else with_chain t key (with_other key (Shared hash mpn (count - 1)) (chain_of t key))
