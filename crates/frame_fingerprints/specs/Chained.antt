-- Frames in chains, one for each bucket of fingerprints.
use Rattle.std.specs.Prelude.{◌≡◌, ℕ, ◌+◌, ◌-◌, ◌*◌, ◌^◌, ◌≤◌, ◌<◌, Bool, false, ◌==◌, nat_lt, if◌then◌else◌, List, [], ◌∷◌, length, Option, Some, None, slice_index, slice_index_or, slice_set}
use Rattle.std.specs.List.{list_any}
use Rattle.recent_fingerprints.specs.Chains.{bucket_of}
use Rattle.frame_fingerprints.specs.declared.limits.TheConstants.{MAX_FRAMES}
use Rattle.frame_fingerprints.specs.declared.node.Node.{Node}
use Rattle.frame_fingerprints.specs.declared.node.TheConstants.{NOWHERE}

abbrev pub no_node : Node
no_node = record { fingerprint = 0; next = NOWHERE; before = NOWHERE }

abbrev pub node_at : List Node → ℕ → Node
node_at nodes x = slice_index_or nodes x no_node

-- the fingerprint of a frame that has one
abbrev pub fingerprint_in : Node → Option ℕ
fingerprint_in n = if n.before == NOWHERE then None else Some n.fingerprint

-- where a frame's link leads, or that of a bucket, whose number is above the frames
abbrev pub link_at : List Node → List ℕ → ℕ → ℕ
link_at nodes heads a = if nat_lt a (length nodes) then (node_at nodes a).next else slice_index heads (a - length nodes)

abbrev pub before_at : List Node → ℕ → ℕ
before_at nodes x = (node_at nodes x).before

abbrev pub held_at : List Node → ℕ → Option ℕ
held_at nodes x = fingerprint_in (node_at nodes x)

-- a node with another link, and with another one before it
abbrev pub with_next : Node → ℕ → Node
with_next n to = record { fingerprint = n.fingerprint; next = to; before = n.before }

abbrev pub with_before : Node → ℕ → Node
with_before n before = record { fingerprint = n.fingerprint; next = n.next; before = before }

-- the buckets' links after that of a frame or of a bucket was changed
abbrev pub heads_after : ℕ → List ℕ → ℕ → ℕ → List ℕ
heads_after frames heads from to = if nat_lt from frames then heads else slice_set heads (from - frames) to

-- whether a number is one of these
abbrev pub is_in : ℕ → List ℕ → Bool
is_in x xs = list_any (λ y. x == y) xs

-- these numbers are the frames to which links lead, from a link of `a` that leads to `to` on, and each knows the one before it
abbrev pub IsChain : (ℕ → ℕ) → (ℕ → ℕ) → ℕ → ℕ → ℕ → List ℕ → Type 0
IsChain link before frames a to [] = frames ≤ to
IsChain link before frames a to (x ∷ xs) = (to ≡ x) × (before x ≡ a) × (x < frames) × IsChain link before frames x (link x) xs

-- no number is there twice
abbrev pub AreApart : List ℕ → Type 0
AreApart [] = Unit {0}
AreApart (x ∷ xs) = (is_in x xs ≡ false) × AreApart xs

-- whether a frame with this fingerprint belongs into a bucket
abbrev pub belongs : (ℕ → ℕ) → ℕ → Option ℕ → Bool
belongs bucket b None = false
belongs bucket b (Some f) = bucket f == b

-- each bucket has a chain, of exactly the frames that belong into it
pub record AreChained (link before : ℕ → ℕ) (held : ℕ → Option ℕ) (bucket : ℕ → ℕ) (frames buckets : ℕ) : Type 0 where
  pub chain : ℕ → List ℕ
  pub path : (b : ℕ) → b < buckets → IsChain link before frames (frames + b) (link (frames + b)) (chain b)
  pub apart : (b : ℕ) → b < buckets → AreApart (chain b)
  pub listed : (b x : ℕ) → b < buckets → x < frames → is_in x (chain b) ≡ belongs bucket b (held x)

-- what always holds
pub record AreKept (nodes : List Node) (heads : List ℕ) (factor shift : ℕ) : Type 0 where
  pub limit : length nodes ≤ MAX_FRAMES
  pub few : length heads ≤ MAX_FRAMES * 2
  pub shifted : shift < 64
  pub all_buckets : length heads * 2 ^ shift ≡ 2 ^ 64
  pub chained : AreChained (link_at nodes heads) (before_at nodes) (held_at nodes) (bucket_of factor shift) (length nodes) (length heads)
