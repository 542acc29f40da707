-- The lists of a table as maps, and how the lists are related.
use Rattle.std.specs.Prelude.{◌≡◌, ℕ, ◌≤◌, List, [], ◌∷◌, ◌++◌, length, map, slice_index_or}
use Rattle.std.specs.Prelude.{Option, Some, None, if◌then◌else◌, ◌==◌, nat_le}
use Rattle.std.specs.Ordering.{nat_cmp}
use Rattle.std.specs.FinMap as maps
use Rattle.packed_entries.specs.declared.entry.Entry.{Entry}
use Rattle.packed_entries.specs.declared.entry.Entry.TheVariants.{Shared, Hint}
use Rattle.packed_entries.specs.Keys.{key_of, first_with}
use Rattle.packed_entries.specs.Entries.{EntryChains, home, entry_count as chained}
use Rattle.share_table.specs.Buckets.{IsGreatestPower}
use Rattle.share_table.specs.TableMaps.{SharedFrame, HintFrame, TableMaps, references, extended, entry_count}
use Rattle.share_table.specs.declared.entries.SharedEntry.{SharedEntry}
use Rattle.share_table.specs.declared.entries.WideCount.{WideCount}
use Rattle.packed_entries.specs.declared.limits.TheConstants.{MAX_ENTRIES}

-- the overflow table: the counts above 65,535, by hash
abbrev pub WideMap : Type 0
WideMap = maps.FinMap nat_cmp ℕ

abbrev pub wide_pair : WideCount → ℕ × ℕ
wide_pair w = (w.hash, w.count)

-- the count of a frame, from its field and from the count that the overflow table has for it, if any
abbrev pub widened : ℕ → Option ℕ → ℕ
widened field None = field
widened field (Some count) = count

abbrev pub frame_of : Option ℕ → SharedEntry → SharedFrame
frame_of wide e = record { mpn = e.mpn; count = widened e.field wide }

-- the map entry of a shared frame in the chains: its hash, and the frame
abbrev pub frame_pair : WideMap → ℕ × SharedEntry → ℕ × SharedFrame
frame_pair wide p = (p.0, frame_of (maps.get wide p.0) p.1)

-- what an entry has of a shared frame, with its hash
abbrev pub shared_of : Entry → Option (ℕ × SharedEntry)
shared_of (Shared hash mpn count) = Some (hash, record { hash = hash; mpn = mpn; field = count })
shared_of (Hint key guest ppn mpn) = None

-- what an entry has of a hint frame, with its key
abbrev pub hint_of : Entry → Option (ℕ × HintFrame)
hint_of (Shared hash mpn count) = None
hint_of (Hint key guest ppn mpn) = Some (key, record { guest = guest; ppn = ppn; mpn = mpn })

abbrev pub before_pairs : {X : Type 0} → Option (ℕ × X) → List (ℕ × X) → List (ℕ × X)
before_pairs None ps = ps
before_pairs (Some p) ps = p ∷ ps

-- the entries of one kind in a chain
abbrev pub pairs : {X : Type 0} → (Entry → Option (ℕ × X)) → List Entry → List (ℕ × X)
pairs kind [] = []
pairs kind (e ∷ es) = before_pairs (kind e) (pairs kind es)

abbrev pub second_of : {X : Type 0} → Option (ℕ × X) → Option X
second_of None = None
second_of (Some p) = Some p.1

-- the entry that a search for one kind found
abbrev pub value_of : {X : Type 0} → (Entry → Option (ℕ × X)) → Option Entry → Option X
value_of kind None = None
value_of kind (Some e) = second_of (kind e)

-- the entries of one kind in all chains
abbrev pub all_pairs : {X : Type 0} → (Entry → Option (ℕ × X)) → List (List Entry) → List (ℕ × X)
all_pairs kind [] = []
all_pairs kind (c ∷ cs) = pairs kind c ++ all_pairs kind cs

abbrev pub as_table : ℕ → List (ℕ × SharedEntry) → List (ℕ × HintFrame) → WideMap → TableMaps
as_table capacity shared hints wide =
    record { capacity = capacity; shared = maps.from_entries (map (frame_pair wide) shared); hints = maps.from_entries hints }

-- the two maps of the chains and the overflow table
abbrev pub maps_of : EntryChains → WideMap → TableMaps
maps_of chains wide = as_table chains.capacity (all_pairs shared_of chains.chains) (all_pairs hint_of chains.chains) wide

-- each of these entries belongs in this bucket
abbrev pub BelongInto : ℕ → ℕ → List Entry → Type 0
BelongInto buckets b [] = Unit {0}
BelongInto buckets b (e ∷ es) = (home buckets (key_of e) ≡ b) × BelongInto buckets b es

-- no two of these entries are found by the same key
abbrev pub HasEachOnce : List Entry → Type 0
HasEachOnce [] = Unit {0}
HasEachOnce (e ∷ es) = (first_with (key_of e) es ≡ None) × HasEachOnce es

-- no key occurs twice
abbrev pub HasDistinctKeys : {X : Type 0} → List (ℕ × X) → Type 0
HasDistinctKeys [] = Unit {0}
HasDistinctKeys (e ∷ es) = (maps.find nat_cmp e.0 es ≡ None) × HasDistinctKeys es

-- the entry of the shared frame with this hash, if there is one
abbrev pub shared_in : List (ℕ × SharedEntry) → ℕ → Option SharedEntry
shared_in shared hash = maps.find nat_cmp hash shared

-- an entry's field is 0 exactly if the overflow table has its count, which doesn't fit in the field
abbrev pub Agrees : Option SharedEntry → Option ℕ → Type 0
Agrees None None = Unit {0}
Agrees None (Some count) = ⊥
Agrees (Some e) None = (1 ≤ e.field) × (e.field ≤ 65535)
Agrees (Some e) (Some count) = (e.field ≡ 0) × (65536 ≤ count)

-- the overflow table after the frame with this hash and field got this count
abbrev pub rewidened : WideMap → ℕ → ℕ → ℕ → WideMap
rewidened wide hash field count =
    if nat_le count 65535 then (if field == 0 then maps.remove wide hash else wide) else maps.insert wide hash count

-- what always holds of the counts of these shared frames, whose sum is the total
pub record IsCounted (total : ℕ) (shared : List (ℕ × SharedEntry)) (wide : WideMap) : Type 0 where
  -- a count is in its field or in the overflow table
  pub agrees : (hash : ℕ) → Agrees (shared_in shared hash) (maps.get wide hash)
  -- the running sum is the sum of all counts
  pub summed : references (as_table 0 shared [] wide) ≡ total
  pub bounded : total ≤ MAX_ENTRIES
  -- the overflow table has exactly the counts that don't fit
  pub widths : maps.len wide ≡ extended (as_table 0 shared [] wide)

-- what always holds of these chains
pub record IsFiled (chains : EntryChains) : Type 0 where
  -- the number of buckets is the greatest power of two that is at most the capacity
  pub buckets : IsGreatestPower chains.capacity (length chains.chains)
  pub at_home : (b : ℕ) → BelongInto (length chains.chains) b (slice_index_or chains.chains b [])
  pub once : (b : ℕ) → HasEachOnce (slice_index_or chains.chains b [])
  pub limit : chains.capacity ≤ MAX_ENTRIES
  pub room : chained chains ≤ chains.capacity

-- what always holds of a table's fields
pub record IsKept (total : ℕ) (chains : EntryChains) (wide : WideMap) : Type 0 where
  pub filed : IsFiled chains
  pub counted : IsCounted total (all_pairs shared_of chains.chains) wide
  -- the maps have as many entries as the chains, so no map entry comes from two
  pub all_counted : entry_count (maps_of chains wide) ≡ chained chains
