-- Lists of places that are threaded through a table of links. A link is 0 for the end of a list, and
-- n + 1 for place n; `next p` is the link in place p.
use Rattle.std.specs.Prelude.{◌≡◌, ℕ, ◌+◌, ◌≤◌, ◌<◌, Bool, true, List, [], ◌∷◌, length, Option, Some, None}
use Rattle.std.specs.Prelude.{if◌then◌else◌, ◌==◌, nat_lt, slice_index_or, map, replicate, slice_set as set}
use Rattle.packed_entries.specs.declared.entry.Entry.{Entry}
use Rattle.packed_entries.specs.Places.{no_entry}
use Prim.Native.Nat.{suc, zero}
use Rattle.packed_entries.specs.declared.limits.TheConstants.{MAX_ENTRIES}

-- how often a place is in a list
abbrev pub times : ℕ → List ℕ → ℕ
times p [] = 0
times p (q ∷ qs) = (if p == q then 1 else 0) + times p qs

-- how often a place is in all the lists together
abbrev pub times_in : ℕ → List (List ℕ) → ℕ
times_in p [] = 0
times_in p (c ∷ cs) = times p c + times_in p cs

-- how many places are in all the lists together
abbrev pub lengths : List (List ℕ) → ℕ
lengths [] = 0
lengths (c ∷ cs) = length c + lengths cs

-- the list with the place removed, once
abbrev pub without : ℕ → List ℕ → List ℕ
without p [] = []
without p (q ∷ qs) = if p == q then qs else q ∷ without p qs

-- the link to the place right before p in the list, if b is the link before the list
abbrev pub link_before : ℕ → ℕ → List ℕ → ℕ
link_before p b [] = b
link_before p b (q ∷ qs) = if p == q then b else link_before p (q + 1) qs

-- the first place that the test accepts
abbrev pub first_of : (ℕ → Bool) → List ℕ → Option ℕ
first_of test [] = None
first_of test (p ∷ ps) = if test p then Some p else first_of test ps

-- the places from a link on, at most n of them
abbrev pub walk : (ℕ → ℕ) → ℕ → ℕ → List ℕ
walk next zero link = []
walk next (suc n) zero = []
walk next (suc n) (suc p) = p ∷ walk next n (next p)

-- from the link on, the links go over exactly these places, and end
abbrev pub Follows : (ℕ → ℕ) → ℕ → List ℕ → Type 0
Follows next link [] = link ≡ 0
Follows next link (p ∷ ps) = (link ≡ p + 1) × Follows next (next p) ps

-- the same for each head and its list
abbrev pub FollowAll : (ℕ → ℕ) → List ℕ → List (List ℕ) → Type 0
FollowAll next [] [] = Unit {0}
FollowAll next [] (c ∷ cs) = ⊥
FollowAll next (h ∷ hs) [] = ⊥
FollowAll next (h ∷ hs) (c ∷ cs) = Follows next h c × FollowAll next hs cs

-- the spare places and the chains: each place below the capacity is in exactly one of them, once
pub record Linked (next : ℕ → ℕ) (capacity free : ℕ) (heads spare : List ℕ) (chains : List (List ℕ)) : Type 0 where
  pub spare_ends : Follows next free spare
  pub chains_end : FollowAll next heads chains
  pub each_once : (p : ℕ) → times p spare + times_in p chains ≡ (if nat_lt p capacity then 1 else 0)
  pub all_placed : length spare + lengths chains ≡ capacity

-- each place's entry, and each bucket's chain of places
pub record Chained : Type 0 where
  pub entries : List Entry
  pub chains : List (List ℕ)

-- the entry of a place
abbrev pub entry_at : Chained → ℕ → Entry
entry_at c place = slice_index_or c.entries place no_entry

-- the places with another entry in one of them
abbrev pub with_entry_at : Chained → ℕ → Entry → Chained
with_entry_at c place entry = record c { entries = set c.entries place entry }

-- the chain of a bucket
abbrev pub chain_at : Chained → ℕ → List ℕ
chain_at c bucket = slice_index_or c.chains bucket []

-- how many places are in chains
abbrev pub used : Chained → ℕ
used c = lengths c.chains

abbrev pub no_chains : ℕ → ℕ → Chained
no_chains buckets capacity = record { entries = replicate capacity no_entry; chains = replicate buckets [] }

-- a place is put at the head of a bucket's chain, with its entry
abbrev pub with_place : Chained → ℕ → ℕ → Entry → Chained
with_place c bucket place entry =
    record { entries = set c.entries place entry; chains = set c.chains bucket (place ∷ chain_at c bucket) }

-- a place is taken out of a bucket's chain
abbrev pub without_place : Chained → ℕ → ℕ → Chained
without_place c bucket place = record c { chains = set c.chains bucket (without place (chain_at c bucket)) }

-- the link in a place of a list of links
abbrev pub link_in : List ℕ → ℕ → ℕ
link_in links p = slice_index_or links p 0

-- the chains that start at the heads
abbrev pub chains_from : List ℕ → List ℕ → List (List ℕ)
chains_from links heads = map (walk (link_in links) (length links)) heads

-- what always holds of the lists of places that were reached
pub record IsKept (heads links : List ℕ) (free used : ℕ) : Type 0 where
  pub linked : Linked (link_in links) (length links) free heads (walk (link_in links) (length links) free) (chains_from links heads)
  pub counted : lengths (chains_from links heads) ≡ used

-- how many places were reached, how many there are, and for how many memory is reserved
pub record IsWithin (reached capacity reserved : ℕ) : Type 0 where
  pub fits : reached ≤ capacity
  pub room : capacity ≤ reserved
  pub limit : capacity ≤ MAX_ENTRIES

-- a search of a chain: from the link on, the links go over places of the table, the first of them that the test
-- accepts is the first in the chain that it accepts, and the link to the place before one that it accepts is the same as
-- in the chain
pub record IsSearch (links : List ℕ) (before link : ℕ) (test : ℕ → Bool) (chain : List ℕ) : Type 0 where
  pub ends : Follows (link_in links) link (walk (link_in links) (length links) link)
  pub within : (q : ℕ) → 1 ≤ times q (walk (link_in links) (length links) link) → q < length links
  pub same : first_of test (walk (link_in links) (length links) link) ≡ first_of test chain
  pub behind : (q : ℕ) → test q ≡ true → link_before q before (walk (link_in links) (length links) link) ≡ link_before q 0 chain
