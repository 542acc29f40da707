-- What putting a frame into a chain and taking it out does to all chains.
use Rattle.std.proofs.Common.{◌≡◌, ◌≢◌, ℕ, ◌+◌, ◌-◌, ◌*◌, ◌^◌, ◌<◌, ◌≤◌, Bool, true, false, cond, eqb, List, [], ◌∷◌, length, get_or, map, Option, Some, None, sym, refl, ap, ◌∙◌, arith, subst, inl, inr}
use Prim.Native.Nat.{suc, zero}
use Rattle.std.specs.Prelude.{◌/◌, slice_set, slice_index, replicate, is_some, IsSome}
use Rattle.std.proofs.lemmas.Bool.{false≢true, eq-eqb, cases_eq, cases_lt, ne_eqb, lt-ltb, le-ltb}
use Rattle.std.proofs.lemmas.List.{get_or-set_same, get_or-set_other, length-set, length-map, length-replicate, get_or-replicate, get_or_past, set-get_or, set_past, map-set}
use Rattle.std.proofs.Math.Seq.{map-set_same}
use Rattle.recent_fingerprints.specs.Chains.{bucket_of, IsBucketCount}
use Rattle.frame_fingerprints.specs.declared.node.Node.{Node}
use Rattle.frame_fingerprints.specs.declared.node.TheConstants.{NOWHERE}
use Rattle.frame_fingerprints.specs.declared.limits.TheConstants.{MAX_FRAMES}
use Rattle.frame_fingerprints.specs.Chained.{no_node, node_at, fingerprint_in, link_at, before_at, held_at, with_next, with_before, heads_after, is_in, belongs, IsChain, AreChained, AreKept}
use Rattle.frame_fingerprints.proofs.Paths.{chained_put, chained_take, below_in, before_in, first_before, next_before}
use Rattle.frame_fingerprints.proofs.Nodes.{link_node, link_head, link_alike, held_listed, before_same, before_other, next_kept, before_kept, bucket_below}

-- a frame that another one is noted before has a fingerprint before and after, or there is no such frame
pub noted_held : (nodes : List Node) (x b : ℕ) → b ≢ NOWHERE → (x < length nodes → before_at nodes x ≢ NOWHERE)
    → map fingerprint_in (slice_set nodes x (with_before (node_at nodes x) b)) ≡ map fingerprint_in nodes
noted_held nodes x b some used =
    elim (cases_lt x (length nodes)) [
      | inl lt ↦ map-set_same fingerprint_in nodes x (with_before (node_at nodes x) b) no_node (rw (ne_eqb b NOWHERE some, ne_eqb (before_at nodes x) NOWHERE (used lt)) refl)
      | inr le ↦ ap (map fingerprint_in) (set_past nodes x (with_before (node_at nodes x) b) le)
    ]

-- the same links where another one is noted before a frame
pub links_kept : (nodes : List Node) (heads : List ℕ) (x b a : ℕ) → link_at (slice_set nodes x (with_before (node_at nodes x) b)) heads a ≡ link_at nodes heads a
links_kept nodes heads x b a = link_alike nodes (slice_set nodes x (with_before (node_at nodes x) b)) heads heads a (length-set nodes x (with_before (node_at nodes x) b)) (λ lt. next_kept nodes x b a) (λ le. refl)

held_before : (n : Node) (f : ℕ) → fingerprint_in n ≡ Some f → n.before ≢ NOWHERE
held_before n f h e = cc-none (ap (λ (t : Bool). cond t None (Some n.fingerprint)) (sym (eq-eqb n.before NOWHERE e)) ∙ h) where
  cc-none : None ≡ Some f → ⊥
  cc-none q = cc

-- the number of a bucket, and of a frame, is somewhere
somewhere : (nodes : List Node) (heads : List ℕ) (f s b : ℕ) → AreKept nodes heads f s → b < length heads → length nodes + b ≢ NOWHERE
somewhere nodes heads f s b kept blt e = let limit = kept.limit in let few = kept.few in omega (arith, limit, few, blt, e)

frame_somewhere : (nodes : List Node) (heads : List ℕ) (f s x : ℕ) → AreKept nodes heads f s → x < length nodes → x ≢ NOWHERE
frame_somewhere nodes heads f s x kept lt e = let limit = kept.limit in omega (arith, limit, lt, e)

-- a frame's number is noted in front of a bucket
module _ (nodes : List Node) (heads : List ℕ) (f s x fingerprint : ℕ) (kept : AreKept nodes heads f s) (lt : x < length nodes) (free : held_at nodes x ≡ None) where
  abbrev pub own : ℕ
  own = bucket_of f s fingerprint

  abbrev pub new_node : Node
  new_node = record { fingerprint = fingerprint; next = slice_index heads own; before = length nodes + own }

  abbrev pub placed : List Node
  placed = slice_set nodes x new_node

  abbrev pub headed : List ℕ
  headed = slice_set heads own x

  abbrev pub put_nodes : List Node
  put_nodes = slice_set placed (slice_index heads own) (with_before (node_at placed (slice_index heads own)) x)

  own_below : own < length heads
  own_below = bucket_below (length heads) f s fingerprint kept.all_buckets

  placed_length : length placed ≡ length nodes
  placed_length = length-set nodes x new_node

  put_length : length put_nodes ≡ length nodes
  put_length = length-set placed (slice_index heads own) (with_before (node_at placed (slice_index heads own)) x) ∙ placed_length

  first_is : link_at nodes heads (length nodes + own) ≡ slice_index heads own
  first_is = link_head nodes heads own

  first_noted : slice_index heads own < length nodes → before_at nodes (slice_index heads own) ≡ length nodes + own
  first_noted to_lt = first_before (link_at nodes heads) (before_at nodes) (length nodes) (length nodes + own) (slice_index heads own) (kept.chained.chain own)
      (subst (λ (t : ℕ). IsChain (link_at nodes heads) (before_at nodes) (length nodes) (length nodes + own) t (kept.chained.chain own)) first_is (kept.chained.path own own_below)) to_lt

  placed_noted : slice_index heads own < length placed → before_at placed (slice_index heads own) ≢ NOWHERE
  placed_noted to_lt e =
      elim (cases_eq (slice_index heads own) x) [
        | inl same ↦ somewhere nodes heads f s own kept own_below (sym (ap (λ (n : Node). n.before) (ap (node_at placed) same ∙ get_or-set_same nodes x new_node no_node lt)) ∙ e)
        | inr other ↦ somewhere nodes heads f s own kept own_below (sym (first_noted (omega (arith, to_lt, placed_length))) ∙ sym (ap (λ (n : Node). n.before) (get_or-set_other nodes x (slice_index heads own) new_node no_node other)) ∙ e)
      ]

  pub put_held : map fingerprint_in put_nodes ≡ slice_set (map fingerprint_in nodes) x (Some fingerprint)
  put_held =
      let whole : fingerprint_in new_node ≡ Some fingerprint = ap (λ (t : Bool). cond t None (Some fingerprint)) (ne_eqb (length nodes + own) NOWHERE (somewhere nodes heads f s own kept own_below)) in
      noted_held placed (slice_index heads own) x (frame_somewhere nodes heads f s x kept lt) placed_noted
      ∙ map-set fingerprint_in nodes x new_node ∙ ap (slice_set (map fingerprint_in nodes) x) whole

  to_x : link_at put_nodes headed (length nodes + own) ≡ x
  to_x = links_kept placed headed (slice_index heads own) x (length nodes + own) ∙ ap (λ (k : ℕ). link_at placed headed (k + own)) (sym placed_length)
      ∙ link_head placed headed own ∙ get_or-set_same heads own x 0 own_below

  x_next : link_at put_nodes headed x ≡ link_at nodes heads (length nodes + own)
  x_next = links_kept placed headed (slice_index heads own) x x ∙ link_node placed headed x (omega (arith, lt, placed_length))
      ∙ ap (λ (n : Node). n.next) (get_or-set_same nodes x new_node no_node lt) ∙ sym first_is

  others_next : (a : ℕ) → a ≢ length nodes + own → a ≢ x → link_at put_nodes headed a ≡ link_at nodes heads a
  others_next a not_head not_x = links_kept placed headed (slice_index heads own) x a
      ∙ link_alike nodes placed heads headed a placed_length (λ within. ap (λ (n : Node). n.next) (get_or-set_other nodes x a new_node no_node not_x))
      (λ le. get_or-set_other heads own (a - length nodes) x 0 (λ q. not_head (omega (arith, q, le))))

  x_before : x ≢ link_at nodes heads (length nodes + own) → before_at put_nodes x ≡ length nodes + own
  x_before apart = before_other placed (slice_index heads own) x x (λ q. apart (q ∙ sym first_is)) ∙ ap (λ (n : Node). n.before) (get_or-set_same nodes x new_node no_node lt)

  first_behind : link_at nodes heads (length nodes + own) < length nodes → before_at put_nodes (link_at nodes heads (length nodes + own)) ≡ x
  first_behind to_lt = ap (before_at put_nodes) first_is ∙ before_same placed (slice_index heads own) x (omega (arith, to_lt, first_is, placed_length))

  others_before : (y : ℕ) → y ≢ x → y ≢ link_at nodes heads (length nodes + own) → before_at put_nodes y ≡ before_at nodes y
  others_before y not_x not_first = before_other placed (slice_index heads own) y x (λ q. not_first (q ∙ sym first_is)) ∙ ap (λ (n : Node). n.before) (get_or-set_other nodes x y new_node no_node not_x)

  put_chained : AreChained (link_at put_nodes headed) (before_at put_nodes) (held_at put_nodes) (bucket_of f s) (length nodes) (length heads)
  put_chained = chained_put (link_at nodes heads) (before_at nodes) (held_at nodes) (bucket_of f s) (length nodes) (length heads) kept.chained
      (link_at put_nodes headed) (before_at put_nodes) (held_at put_nodes) own x fingerprint own_below refl lt free to_x x_next others_next x_before first_behind others_before
      (held_listed put_nodes x ∙ ap (λ (l : List (Option ℕ)). get_or l x None) put_held ∙ get_or-set_same (map fingerprint_in nodes) x (Some fingerprint) None (omega (arith, lt, length-map nodes fingerprint_in)))
      (λ y other. held_listed put_nodes y ∙ ap (λ (l : List (Option ℕ)). get_or l y None) put_held ∙ get_or-set_other (map fingerprint_in nodes) x y (Some fingerprint) None other ∙ sym (held_listed nodes y))

  pub put_kept : AreKept put_nodes headed f s
  put_kept =
      let heads_length : length headed ≡ length heads = length-set heads own x in
      record {
        limit = let l = kept.limit in omega (arith, l, put_length);
        few = let l = kept.few in omega (arith, l, heads_length);
        shifted = kept.shifted;
        all_buckets = rw heads_length kept.all_buckets;
        chained = subst (λ (n : ℕ). AreChained (link_at put_nodes headed) (before_at put_nodes) (held_at put_nodes) (bucket_of f s) n (length headed)) (sym put_length)
            (subst (λ (n : ℕ). AreChained (link_at put_nodes headed) (before_at put_nodes) (held_at put_nodes) (bucket_of f s) (length nodes) n) (sym heads_length) put_chained);
      }

-- a frame is taken out of its chain
module _ (nodes : List Node) (heads : List ℕ) (f s x fingerprint : ℕ) (kept : AreKept nodes heads f s) (lt : x < length nodes) (used : held_at nodes x ≡ Some fingerprint) where
  abbrev pub home : ℕ
  home = bucket_of f s fingerprint

  abbrev pub linked : List Node
  linked = slice_set nodes (before_at nodes x) (with_next (node_at nodes (before_at nodes x)) (node_at nodes x).next)

  abbrev pub heads_linked : List ℕ
  heads_linked = heads_after (length nodes) heads (before_at nodes x) (node_at nodes x).next

  abbrev pub noted : List Node
  noted = slice_set linked (node_at nodes x).next (with_before (node_at linked (node_at nodes x).next) (before_at nodes x))

  abbrev pub taken : List Node
  taken = slice_set noted x (with_before (node_at noted x) NOWHERE)

  home_below : home < length heads
  home_below = bucket_below (length heads) f s fingerprint kept.all_buckets

  linked_length : length linked ≡ length nodes
  linked_length = length-set nodes (before_at nodes x) (with_next (node_at nodes (before_at nodes x)) (node_at nodes x).next)

  noted_length : length noted ≡ length nodes
  noted_length = length-set linked (node_at nodes x).next (with_before (node_at linked (node_at nodes x).next) (before_at nodes x)) ∙ linked_length

  taken_length : length taken ≡ length nodes
  taken_length = length-set noted x (with_before (node_at noted x) NOWHERE) ∙ noted_length

  x_link : link_at nodes heads x ≡ (node_at nodes x).next
  x_link = link_node nodes heads x lt

  there : is_in x (kept.chained.chain home) ≡ true
  there = kept.chained.listed home x home_below lt ∙ ap (belongs (bucket_of f s) home) used ∙ eq-eqb home home refl

  home_path : IsChain (link_at nodes heads) (before_at nodes) (length nodes) (length nodes + home) (link_at nodes heads (length nodes + home)) (kept.chained.chain home)
  home_path = kept.chained.path home home_below

  pub before_below : before_at nodes x < length nodes + length heads
  before_below =
      elim (before_in (link_at nodes heads) (before_at nodes) (length nodes) (length nodes + home) (link_at nodes heads (length nodes + home)) (kept.chained.chain home) x home_path there) [
        | inl e ↦ omega (arith, e, home_below)
        | inr i ↦ let l = below_in (link_at nodes heads) (before_at nodes) (held_at nodes) (bucket_of f s) (length nodes) (length heads) kept.chained home (before_at nodes x) home_below i in omega (arith, l)
      ]

  before_some : before_at nodes x ≢ NOWHERE
  before_some = held_before (node_at nodes x) fingerprint used

  next_noted : (node_at nodes x).next < length linked → before_at linked (node_at nodes x).next ≢ NOWHERE
  next_noted next_lt e =
      let behind : before_at nodes (link_at nodes heads x) ≡ x = next_before (link_at nodes heads) (before_at nodes) (length nodes) (length nodes + home) (link_at nodes heads (length nodes + home)) (kept.chained.chain home) x home_path there
      (omega (arith, next_lt, x_link, linked_length)) in
      frame_somewhere nodes heads f s x kept lt (sym (ap (before_at nodes) (sym x_link) ∙ behind) ∙ sym (before_kept nodes (before_at nodes x) (node_at nodes x).next (node_at nodes x).next) ∙ e)

  pub taken_held : map fingerprint_in taken ≡ slice_set (map fingerprint_in nodes) x None
  taken_held =
      map-set fingerprint_in noted x (with_before (node_at noted x) NOWHERE)
      ∙ ap (λ (l : List (Option ℕ)). slice_set l x None)
      (noted_held linked (node_at nodes x).next (before_at nodes x) before_some next_noted
      ∙ map-set_same fingerprint_in nodes (before_at nodes x) (with_next (node_at nodes (before_at nodes x)) (node_at nodes x).next) no_node refl)

  taken_links : (a : ℕ) → link_at taken heads_linked a ≡ link_at linked heads_linked a
  taken_links a = links_kept noted heads_linked x NOWHERE a ∙ links_kept linked heads_linked (node_at nodes x).next (before_at nodes x) a

  gap : link_at taken heads_linked (before_at nodes x) ≡ link_at nodes heads x
  gap = taken_links (before_at nodes x)
      ∙ elim (cases_lt (before_at nodes x) (length nodes)) [
        | inl within ↦ link_node linked heads_linked (before_at nodes x) (omega (arith, within, linked_length))
            ∙ ap (λ (n : Node). n.next) (get_or-set_same nodes (before_at nodes x) (with_next (node_at nodes (before_at nodes x)) (node_at nodes x).next) no_node within)
        | inr le ↦
            let at : length linked + (before_at nodes x - length nodes) ≡ before_at nodes x = omega (arith, le, linked_length) in
            let bound : before_at nodes x - length nodes < length heads = omega (arith, le, before_below) in
            ap (link_at linked heads_linked) (sym at) ∙ link_head linked heads_linked (before_at nodes x - length nodes)
            ∙ ap (λ (t : Bool). slice_index (cond t heads (slice_set heads (before_at nodes x - length nodes) (node_at nodes x).next)) (before_at nodes x - length nodes)) (le-ltb (before_at nodes x) (length nodes) le)
            ∙ get_or-set_same heads (before_at nodes x - length nodes) (node_at nodes x).next 0 bound
      ] ∙ sym x_link

  others_link : (a : ℕ) → a ≢ before_at nodes x → link_at taken heads_linked a ≡ link_at nodes heads a
  others_link a other = taken_links a
      ∙ link_alike nodes linked heads heads_linked a linked_length
      (λ within. ap (λ (n : Node). n.next) (get_or-set_other nodes (before_at nodes x) a (with_next (node_at nodes (before_at nodes x)) (node_at nodes x).next) no_node other))
      (λ le. elim (cases_lt (before_at nodes x) (length nodes)) [
        | inl within ↦ ap (λ (t : Bool). slice_index (cond t heads (slice_set heads (before_at nodes x - length nodes) (node_at nodes x).next)) (a - length nodes)) (lt-ltb (before_at nodes x) (length nodes) within)
        | inr past ↦ ap (λ (t : Bool). slice_index (cond t heads (slice_set heads (before_at nodes x - length nodes) (node_at nodes x).next)) (a - length nodes)) (le-ltb (before_at nodes x) (length nodes) past)
            ∙ get_or-set_other heads (before_at nodes x - length nodes) (a - length nodes) (node_at nodes x).next 0 (λ q. other (omega (arith, q, le, past)))
      ])

  next_back : link_at nodes heads x < length nodes → x ≢ link_at nodes heads x → before_at taken (link_at nodes heads x) ≡ before_at nodes x
  next_back next_lt apart =
      ap (before_at taken) x_link ∙ before_other noted x (node_at nodes x).next NOWHERE (λ q. apart (sym q ∙ sym x_link))
      ∙ before_same linked (node_at nodes x).next (before_at nodes x) (omega (arith, next_lt, x_link, linked_length))

  others_back : (y : ℕ) → y ≢ x → y ≢ link_at nodes heads x → before_at taken y ≡ before_at nodes y
  others_back y not_x not_next = before_other noted x y NOWHERE not_x ∙ before_other linked (node_at nodes x).next y (before_at nodes x) (λ q. not_next (q ∙ sym x_link))
      ∙ before_kept nodes (before_at nodes x) (node_at nodes x).next y

  taken_chained : AreChained (link_at taken heads_linked) (before_at taken) (held_at taken) (bucket_of f s) (length nodes) (length heads)
  taken_chained = chained_take (link_at nodes heads) (before_at nodes) (held_at nodes) (bucket_of f s) (length nodes) (length heads) kept.chained
      (link_at taken heads_linked) (before_at taken) (held_at taken) x fingerprint home_below lt used gap others_link next_back others_back
      (held_listed taken x ∙ ap (λ (l : List (Option ℕ)). get_or l x None) taken_held ∙ get_or-set_same (map fingerprint_in nodes) x None None (omega (arith, lt, length-map nodes fingerprint_in)))
      (λ y other. held_listed taken y ∙ ap (λ (l : List (Option ℕ)). get_or l y None) taken_held ∙ get_or-set_other (map fingerprint_in nodes) x y None None other ∙ sym (held_listed nodes y))

  heads_length : length heads_linked ≡ length heads
  heads_length =
      elim (cases_lt (before_at nodes x) (length nodes)) [
        | inl within ↦ ap (λ (t : Bool). length (cond t heads (slice_set heads (before_at nodes x - length nodes) (node_at nodes x).next))) (lt-ltb (before_at nodes x) (length nodes) within)
        | inr past ↦ ap (λ (t : Bool). length (cond t heads (slice_set heads (before_at nodes x - length nodes) (node_at nodes x).next))) (le-ltb (before_at nodes x) (length nodes) past)
            ∙ length-set heads (before_at nodes x - length nodes) (node_at nodes x).next
      ]

  pub taken_kept : AreKept taken heads_linked f s
  taken_kept = record {
    limit = let l = kept.limit in omega (arith, l, taken_length);
    few = let l = kept.few in omega (arith, l, heads_length);
    shifted = kept.shifted;
    all_buckets = rw heads_length kept.all_buckets;
    chained = subst (λ (n : ℕ). AreChained (link_at taken heads_linked) (before_at taken) (held_at taken) (bucket_of f s) n (length heads_linked)) (sym taken_length)
        (subst (λ (n : ℕ). AreChained (link_at taken heads_linked) (before_at taken) (held_at taken) (bucket_of f s) (length nodes) n) (sym heads_length) taken_chained);
  }

-- the same of a frame that is known to have a fingerprint
pub fingerprint_at : (nodes : List Node) (x : ℕ) → IsSome (held_at nodes x) → held_at nodes x ≡ Some (node_at nodes x).fingerprint
fingerprint_at nodes x some = by_before (node_at nodes x).fingerprint (eqb (node_at nodes x).before NOWHERE) some where
  by_before : (k : ℕ) (t : Bool) → IsSome (cond t None (Some k)) → cond t None (Some k) ≡ Some k
  by_before k true some = absurd (false≢true some)
  by_before k false some = refl

-- ---- a frame that has no fingerprint

not_some : (h : Option ℕ) → is_some h ≡ false → h ≡ None
not_some None e = refl
not_some (Some k) e = absurd (false≢true (sym e))

pub none_stays : (nodes : List Node) (x : ℕ) → is_some (held_at nodes x) ≡ false → slice_set (map fingerprint_in nodes) x None ≡ map fingerprint_in nodes
none_stays nodes x e =
    ap (slice_set (map fingerprint_in nodes) x) (sym (not_some (held_at nodes x) e) ∙ held_listed nodes x) ∙ set-get_or (map fingerprint_in nodes) x None

pub is_free_since : (nodes : List Node) (held : List (Option ℕ)) (x : ℕ) → map fingerprint_in nodes ≡ slice_set held x None → held_at nodes x ≡ None
is_free_since nodes held x e =
    held_listed nodes x ∙ ap (λ (l : List (Option ℕ)). get_or l x None) e
    ∙ elim (cases_lt x (length held)) [
      | inl lt ↦ get_or-set_same held x None None lt
      | inr le ↦ get_or_past (slice_set held x None) x None (omega (arith, le, length-set held x None))
    ]

pub set_twice : (held : List (Option ℕ)) (x : ℕ) (v : Option ℕ) → slice_set (slice_set held x None) x v ≡ slice_set held x v
set_twice [] x v = refl
set_twice (h ∷ held) zero v = refl
set_twice (h ∷ held) (suc x) v = ap (λ (l : List (Option ℕ)). h ∷ l) (set_twice held x v)

-- ---- before the first call

pub map_free : (n : ℕ) → map fingerprint_in (replicate n no_node) ≡ replicate n None
map_free zero = refl
map_free (suc n) = ap (λ (l : List (Option ℕ)). None ∷ l) (map_free n)

pub free_kept : (n count f s : ℕ) → n ≤ MAX_FRAMES → IsBucketCount (n / 2) count → s < 64 → count * 2 ^ s ≡ 2 ^ 64 → AreKept (replicate n no_node) (replicate count NOWHERE) f s
free_kept n count f s limit buckets shifted all =
    let len = length-replicate n no_node in
    let heads = length-replicate count NOWHERE in
    record {
      limit = omega (arith, len, limit);
      few = let few = buckets.few in elim (cases_lt 2 count) [ inl lt ↦ (let k = few lt in omega (arith, heads, k, limit)) | inr le ↦ omega (arith, heads, le) ];
      shifted = shifted;
      all_buckets = rw heads all;
      chained = record {
        chain = λ b. [];
        path = λ b lt. omega (arith, link_head (replicate n no_node) (replicate count NOWHERE) b, get_or-replicate count b NOWHERE 0 (omega (arith, lt, heads)), len, limit);
        apart = λ b lt. tt;
        listed = λ b x blt lt. sym (ap (λ (k : Node). belongs (bucket_of f s) b (fingerprint_in k)) (get_or-replicate n x no_node no_node (omega (arith, lt, len))));
      };
    }
