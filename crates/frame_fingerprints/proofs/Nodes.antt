-- Nodes in their lists, and the buckets' links.
use Rattle.std.proofs.Common.{◌≡◌, ◌≢◌, ℕ, ◌+◌, ◌-◌, ◌*◌, ◌^◌, ◌%◌, ◌<◌, ◌≤◌, List, length, get_or, map, None, sym, refl, ap, ◌∙◌, arith, inl, inr}
use Rattle.std.specs.Prelude.{slice_set, slice_index}
use Rattle.std.proofs.lemmas.Bool.{cases_eq, cases_lt, lt-ltb, le-ltb}
use Rattle.std.proofs.lemmas.List.{get_or-set_same, get_or-set_other, length-set, set_past}
use Rattle.std.proofs.Math.ListN.{get_or-map}
use Rattle.std.proofs.Math.Nat.{div-lt_iff_lt-mul}
use Rattle.std.proofs.lemmas.Nat.{pow_pos}
use Rattle.recent_fingerprints.specs.Chains.{bucket_of}
use Rattle.frame_fingerprints.specs.declared.node.Node.{Node}
use Rattle.frame_fingerprints.specs.Chained.{no_node, node_at, fingerprint_in, link_at, before_at, held_at, with_next, with_before}

pub field_keeps : {X : Type 0} (f : Node → X) (nodes : List Node) (i : ℕ) (n : Node) → f n ≡ f (node_at nodes i) → (a : ℕ) → f (node_at (slice_set nodes i n) a) ≡ f (node_at nodes a)
field_keeps f nodes i n same a =
    elim (cases_eq a i) [
      | inl e ↦
          elim (cases_lt i (length nodes)) [
            | inl lt ↦ ap (λ (k : ℕ). f (node_at (slice_set nodes i n) k)) e ∙ ap f (get_or-set_same nodes i n no_node lt) ∙ same ∙ ap (λ (k : ℕ). f (node_at nodes k)) (sym e)
            | inr le ↦ ap (λ (l : List Node). f (node_at l a)) (set_past nodes i n le)
          ]
      | inr ne ↦ ap f (get_or-set_other nodes i a n no_node ne)
    ]

pub link_node : (nodes : List Node) (heads : List ℕ) (a : ℕ) → a < length nodes → link_at nodes heads a ≡ (node_at nodes a).next
link_node nodes heads a lt = rw (lt-ltb a (length nodes) lt) refl

pub link_head : (nodes : List Node) (heads : List ℕ) (b : ℕ) → link_at nodes heads (length nodes + b) ≡ slice_index heads b
link_head nodes heads b =
    let at : length nodes + b - length nodes ≡ b = omega arith in
    rw (le-ltb (length nodes + b) (length nodes) (omega arith)) (ap (slice_index heads) at)

-- a link of which nothing was changed
pub link_alike : (nodes nodes' : List Node) (heads heads' : List ℕ) (a : ℕ) → length nodes' ≡ length nodes
    → (a < length nodes → (node_at nodes' a).next ≡ (node_at nodes a).next)
    → (length nodes ≤ a → slice_index heads' (a - length nodes) ≡ slice_index heads (a - length nodes))
    → link_at nodes' heads' a ≡ link_at nodes heads a
link_alike nodes nodes' heads heads' a len node head =
    elim (cases_lt a (length nodes)) [
      | inl lt ↦ link_node nodes' heads' a (omega (arith, lt, len)) ∙ node lt ∙ sym (link_node nodes heads a lt)
      | inr le ↦ rw (len, le-ltb a (length nodes) le) (head le)
    ]

pub held_listed : (nodes : List Node) (x : ℕ) → held_at nodes x ≡ get_or (map fingerprint_in nodes) x None
held_listed nodes x = sym (get_or-map fingerprint_in nodes x no_node)

pub length-nodes : (nodes : List Node) (i : ℕ) (n : Node) → length (slice_set nodes i n) ≡ length nodes
length-nodes nodes i n = length-set nodes i n

-- what changes where another frame or bucket is noted before a frame
pub before_same : (nodes : List Node) (x b : ℕ) → x < length nodes → before_at (slice_set nodes x (with_before (node_at nodes x) b)) x ≡ b
before_same nodes x b lt = ap (λ (n : Node). n.before) (get_or-set_same nodes x (with_before (node_at nodes x) b) no_node lt)

pub before_other : (nodes : List Node) (x y b : ℕ) → y ≢ x → before_at (slice_set nodes x (with_before (node_at nodes x) b)) y ≡ before_at nodes y
before_other nodes x y b ne = ap (λ (n : Node). n.before) (get_or-set_other nodes x y (with_before (node_at nodes x) b) no_node ne)

pub next_kept : (nodes : List Node) (x b a : ℕ) → (node_at (slice_set nodes x (with_before (node_at nodes x) b)) a).next ≡ (node_at nodes a).next
next_kept nodes x b a = field_keeps (λ (n : Node). n.next) nodes x (with_before (node_at nodes x) b) refl a

pub before_kept : (nodes : List Node) (x t y : ℕ) → before_at (slice_set nodes x (with_next (node_at nodes x) t)) y ≡ before_at nodes y
before_kept nodes x t y = field_keeps (λ (n : Node). n.before) nodes x (with_next (node_at nodes x) t) refl y

pub bucket_below : (len f s fingerprint : ℕ) → len * 2 ^ s ≡ 2 ^ 64 → bucket_of f s fingerprint < len
unfolding bucket_of
bucket_below len f s fingerprint all =
    let below : fingerprint * f % 2 ^ 64 < len * 2 ^ s = rw all (omega arith) in
    (div-lt_iff_lt-mul {k = 2 ^ s} {x = fingerprint * f % 2 ^ 64} {y = len} (pow_pos s)).1 below
