-- A search along a chain.
use Rattle.std.proofs.Common.{◌≡◌, ℕ, ◌+◌, ◌<◌, ◌≤◌, Bool, true, false, ◌||◌, cond, eqb, List, [], ◌∷◌, length, get_or, map, Option, Some, None, sym, refl, ap, ◌∙◌, ◌⊎◌, arith, subst, inl, inr}
use Rattle.std.proofs.lemmas.Bool.{false≢true, eqb-true, eq-eqb, cases_eq, cases_lt}
use Rattle.std.proofs.lemmas.List.{get_or_past}
use Rattle.std.proofs.lemmas.List.Folds.{list_any_at}
use Rattle.std.proofs.lemmas.Map.Steps.{length-le_from_distinct_below}
use Rattle.std.specs.Prelude.{is_some, slice_index_or, ◌&&◌, not}
use Prim.Native.Nat.{suc, zero}
use Rattle.std.proofs.lemmas.List.Elements.{recursion_from_All}
use Rattle.std.specs.List.{list_any, IsDistinct}
use Rattle.frame_fingerprints.specs.declared.node.Node.{Node}
use Rattle.frame_fingerprints.specs.declared.node.TheConstants.{NOWHERE}
use Rattle.frame_fingerprints.specs.Held.{Finds, is_this, is_held, is_tried}
use Rattle.frame_fingerprints.specs.Chained.{no_node, node_at, fingerprint_in, link_at, before_at, held_at, is_in, IsChain, AreApart, belongs, AreChained}
use Rattle.frame_fingerprints.proofs.Paths.{in_first, in_later, in_rest, not_first, not_later, chain_below}
use Rattle.frame_fingerprints.proofs.Nodes.{link_node, held_listed}

-- ---- lists of numbers

apart_each : (x : ℕ) (ys : List ℕ) → is_in x ys ≡ false → (k d : ℕ) → k < length ys → eqb x (get_or ys k d) ≡ false
apart_each x [] h k d lt = absurd (omega arith)
apart_each x (y ∷ ys) h zero d lt = not_first x y ys h
apart_each x (y ∷ ys) h (suc k) d lt = apart_each x ys (not_later x y ys h) k d (omega arith)

apart_distinct : (xs : List ℕ) → AreApart xs → IsDistinct eqb xs
unfolding IsDistinct
apart_distinct [] h = tt
apart_distinct (x ∷ xs) h = (recursion_from_All (λ (y : ℕ). eqb x y ≡ false) xs (apart_each x xs h.0), apart_distinct xs h.1)

pub chain_few : (link before : ℕ → ℕ) (frames a to : ℕ) (xs : List ℕ) → IsChain link before frames a to xs → AreApart xs → length xs ≤ frames
chain_few link before frames a to xs h apart = length-le_from_distinct_below xs frames (apart_distinct xs apart) (λ q i. chain_below link before frames a to xs q h i)

-- ---- the search

-- the frame's node has this fingerprint
abbrev pub passes : List Node → ℕ → ℕ → Bool
passes nodes f y = eqb (node_at nodes y).fingerprint f

-- what is left of a chain has each frame with the fingerprint whose part wasn't tried
pub record IsSearch (nodes : List Node) (f each : ℕ) (tried : List Bool) (at steps : ℕ) (heads : List ℕ) : Type 0 where
  pub rest : List ℕ
  pub from : ℕ
  pub path : IsChain (link_at nodes heads) (before_at nodes) (length nodes) from at rest
  pub few : length rest + steps ≤ length nodes
  pub left : (y : ℕ) → held_at nodes y ≡ Some f → (is_in y rest ≡ true) ⊎ (is_tried each tried y ≡ true)
  pub used : (y : ℕ) → is_in y rest ≡ true → is_some (held_at nodes y) ≡ true

used_of : (bucket : ℕ → ℕ) (b : ℕ) (held : Option ℕ) → belongs bucket b held ≡ true → is_some held ≡ true
used_of bucket b None e = absurd (false≢true e)
used_of bucket b (Some f) e = refl

within_nodes : (nodes : List Node) (y f : ℕ) → held_at nodes y ≡ Some f → y < length nodes
within_nodes nodes y f e =
    elim (cases_lt y (length nodes)) [
      | inl lt ↦ lt
      | inr le ↦ absurd (nothing (sym (ap (λ (n : Node). fingerprint_in n) (get_or_past nodes y no_node le)) ∙ e))
    ] where
      nothing : fingerprint_in no_node ≡ Some f → ⊥
      nothing q = cc

pub search_begins : (nodes : List Node) (heads : List ℕ) (bucket : ℕ → ℕ) (buckets f each : ℕ) (tried : List Bool) (at : ℕ) → bucket f < buckets
    → AreChained (link_at nodes heads) (before_at nodes) (held_at nodes) bucket (length nodes) buckets → at ≡ link_at nodes heads (length nodes + bucket f)
    → IsSearch nodes f each tried at 0 heads
search_begins nodes heads bucket buckets f each tried at lt h e =
    let path = h.path (bucket f) lt in
    record {
      rest = h.chain (bucket f);
      from = length nodes + bucket f;
      path = subst (λ (t : ℕ). IsChain (link_at nodes heads) (before_at nodes) (length nodes) (length nodes + bucket f) t (h.chain (bucket f))) (sym e) path;
      few = let n = chain_few (link_at nodes heads) (before_at nodes) (length nodes) (length nodes + bucket f) (link_at nodes heads (length nodes + bucket f)) (h.chain (bucket f)) path (h.apart (bucket f) lt) in omega (arith, n);
      left = λ y has. inl (h.listed (bucket f) y lt (within_nodes nodes y f has) ∙ ap (belongs bucket (bucket f)) has ∙ eq-eqb (bucket f) (bucket f) refl);
      used = λ y i. used_of bucket (bucket f) (held_at nodes y) (sym (h.listed (bucket f) y lt
          (chain_below (link_at nodes heads) (before_at nodes) (length nodes) (length nodes + bucket f) (link_at nodes heads (length nodes + bucket f)) (h.chain (bucket f)) y path i)) ∙ i);
    }

-- nothing is left of the chain
no_rest : (nodes : List Node) (f each : ℕ) (tried : List Bool) (y : ℕ) → (is_in y [] ≡ true) ⊎ (is_tried each tried y ≡ true) → is_tried each tried y ≡ true
no_rest nodes f each tried y (inl i) = absurd (false≢true i)
no_rest nodes f each tried y (inr t) = t

ends : (nodes : List Node) (heads : List ℕ) (f each : ℕ) (tried : List Bool) (at from : ℕ) (rest : List ℕ) → IsChain (link_at nodes heads) (before_at nodes) (length nodes) from at rest
    → length nodes ≤ at → (y : ℕ) → (is_in y rest ≡ true) ⊎ (is_tried each tried y ≡ true) → is_tried each tried y ≡ true
ends nodes heads f each tried at from [] path le y either = no_rest nodes f each tried y either
ends nodes heads f each tried at from (x ∷ xs) path le y either = absurd (let e = path.0 in let lt = path.2 in omega (arith, e, lt, le))

-- a link leads to no frame
pub search_ends : (nodes : List Node) (heads : List ℕ) (f each : ℕ) (tried : List Bool) (at steps : ℕ) → IsSearch nodes f each tried at steps heads → length nodes ≤ at
    → Finds f each tried (map fingerprint_in nodes) None
search_ends nodes heads f each tried at steps s le = λ y has. ends nodes heads f each tried at s.from s.rest s.path le y (s.left y (held_listed nodes y ∙ has))

there : (nodes : List Node) (heads : List ℕ) (at from : ℕ) (rest : List ℕ) → IsChain (link_at nodes heads) (before_at nodes) (length nodes) from at rest
    → at < length nodes → is_in at rest ≡ true
there nodes heads at from [] path lt = absurd (omega (arith, path, lt))
there nodes heads at from (x ∷ xs) path lt = ap (λ (y : ℕ). is_in y (x ∷ xs)) path.0 ∙ in_first x xs

this_one : (f k : ℕ) (t : Bool) → is_some (cond t None (Some k)) ≡ true → eqb k f ≡ true → cond t None (Some k) ≡ Some f
this_one f k true used e = absurd (false≢true used)
this_one f k false used e = ap (λ (n : ℕ). Some n) (eqb-true k f e)

-- a frame of the chain has the fingerprint, and its part wasn't tried
pub search_finds : (nodes : List Node) (heads : List ℕ) (f each : ℕ) (tried : List Bool) (at steps : ℕ) → IsSearch nodes f each tried at steps heads → at < length nodes
    → passes nodes f at ≡ true → is_tried each tried at ≡ false → Finds f each tried (map fingerprint_in nodes) (Some at)
search_finds nodes heads f each tried at steps s lt p t =
    (sym (held_listed nodes at) ∙ this_one f (node_at nodes at).fingerprint (eqb (node_at nodes at).before NOWHERE) (s.used at (there nodes heads at s.from s.rest s.path lt)) p, t)

-- a frame is sought if it has the fingerprint and its part wasn't tried
pub is_sought : (a b : Bool) → (a && not b) ≡ true → (a ≡ true) × (b ≡ false)
is_sought true false e = (refl, refl)
is_sought true true e = absurd (false≢true e)
is_sought false b e = absurd (false≢true e)

pub not_sought : (a b : Bool) → (a && not b) ≡ false → (a ≡ false) ⊎ (b ≡ true)
not_sought true true e = inr refl
not_sought true false e = absurd (false≢true (sym e))
not_sought false b e = inl refl

-- a frame that is passed by has another fingerprint, or its part was tried
abbrev pub IsPassedBy : List Node → ℕ → ℕ → List Bool → ℕ → Type 0
IsPassedBy nodes f each tried at = (passes nodes f at ≡ false) ⊎ (is_tried each tried at ≡ true)

other : (f k : ℕ) (t : Bool) → eqb k f ≡ false → cond t None (Some k) ≡ Some f → ⊥
other f k true n e = cc
other f k false n e = false≢true (sym n ∙ eq-eqb k f (same e)) where
  same : Some k ≡ Some f → k ≡ f
  same q = cc

passed : (nodes : List Node) (f each : ℕ) (tried : List Bool) (x : ℕ) → IsPassedBy nodes f each tried x → held_at nodes x ≡ Some f → is_tried each tried x ≡ true
passed nodes f each tried x (inl p) has = absurd (other f (node_at nodes x).fingerprint (eqb (node_at nodes x).before NOWHERE) p has)
passed nodes f each tried x (inr t) has = t

later : (nodes : List Node) (f each : ℕ) (tried : List Bool) (x y : ℕ) (xs : List ℕ) → IsPassedBy nodes f each tried x → held_at nodes y ≡ Some f
    → (is_in y (x ∷ xs) ≡ true) ⊎ (is_tried each tried y ≡ true) → (is_in y xs ≡ true) ⊎ (is_tried each tried y ≡ true)
later nodes f each tried x y xs by has (inr t) = inr t
later nodes f each tried x y xs by has (inl i) =
    elim (cases_eq y x) [
      | inl e ↦ inr (passed nodes f each tried y (subst (λ (z : ℕ). IsPassedBy nodes f each tried z) (sym e) by) has)
      | inr n ↦ inl (sym (in_rest y x xs n) ∙ i)
    ]

step : (nodes : List Node) (heads : List ℕ) (f each : ℕ) (tried : List Bool) (at steps from : ℕ) (rest : List ℕ) → IsChain (link_at nodes heads) (before_at nodes) (length nodes) from at rest
    → length rest + steps ≤ length nodes → ((y : ℕ) → held_at nodes y ≡ Some f → (is_in y rest ≡ true) ⊎ (is_tried each tried y ≡ true))
    → ((y : ℕ) → is_in y rest ≡ true → is_some (held_at nodes y) ≡ true)
    → at < length nodes → IsPassedBy nodes f each tried at → IsSearch nodes f each tried (node_at nodes at).next (steps + 1) heads
step nodes heads f each tried at steps from [] path few left used lt by = absurd (omega (arith, path, lt))
step nodes heads f each tried at steps from (x ∷ xs) path few left used lt by =
    record {
      rest = xs;
      from = x;
      path = subst (λ (t : ℕ). IsChain (link_at nodes heads) (before_at nodes) (length nodes) x t xs) (link_node nodes heads x path.2 ∙ ap (λ (y : ℕ). (node_at nodes y).next) (sym path.0)) path.3;
      few = omega (arith, few);
      left = λ y has. later nodes f each tried x y xs (subst (λ (z : ℕ). IsPassedBy nodes f each tried z) path.0 by) has (left y has);
      used = λ y i. used y (in_later y x xs i);
    }

pub search_steps : (nodes : List Node) (heads : List ℕ) (f each : ℕ) (tried : List Bool) (at steps : ℕ) → IsSearch nodes f each tried at steps heads → at < length nodes
    → IsPassedBy nodes f each tried at → IsSearch nodes f each tried (node_at nodes at).next (steps + 1) heads
search_steps nodes heads f each tried at steps s lt by = step nodes heads f each tried at steps s.from s.rest s.path s.few s.left s.used lt by

gone : (nodes : List Node) (f each : ℕ) (tried : List Bool) (steps : ℕ) (rest : List ℕ) → length rest + steps ≤ length nodes → length nodes ≤ steps
    → (y : ℕ) → (is_in y rest ≡ true) ⊎ (is_tried each tried y ≡ true) → is_tried each tried y ≡ true
gone nodes f each tried steps [] few le y either = no_rest nodes f each tried y either
gone nodes f each tried steps (x ∷ xs) few le y either = absurd (omega (arith, few, le))

pub search_gone : (nodes : List Node) (heads : List ℕ) (f each : ℕ) (tried : List Bool) (at steps : ℕ) → IsSearch nodes f each tried at steps heads → length nodes ≤ steps
    → Finds f each tried (map fingerprint_in nodes) None
search_gone nodes heads f each tried at steps s le = λ y has. gone nodes f each tried steps s.rest s.few le y (s.left y (held_listed nodes y ∙ has))

-- ---- whether there is one

within_held : (held : List (Option ℕ)) (at f : ℕ) → slice_index_or held at None ≡ Some f → at < length held
within_held held at f e =
    elim (cases_lt at (length held)) [
      | inl lt ↦ lt
      | inr le ↦ absurd (nothing (sym (get_or_past held at None le) ∙ e))
    ] where
      nothing : None ≡ Some f → ⊥
      nothing q = cc

is_some_one : (f : ℕ) (h : Option ℕ) → is_this f h ≡ true → h ≡ Some f
is_some_one f None e = absurd (false≢true e)
is_some_one f (Some k) e = ap (λ (n : ℕ). Some n) (eqb-true k f e)

none_in : (f : ℕ) (held : List (Option ℕ)) → ((k : ℕ) → slice_index_or held k None ≡ Some f → ⊥) → is_held f held ≡ false
none_in f [] none = refl
none_in f (h ∷ hs) none = first (is_this f h) refl (none_in f hs (λ k has. none (suc k) has)) where
  first : (t : Bool) → is_this f h ≡ t → is_held f hs ≡ false → is_held f (h ∷ hs) ≡ false
  first true e rest = absurd (none 0 (is_some_one f h e))
  first false e rest = ap (λ (b : Bool). b || list_any (is_this f) hs) e ∙ rest

none_is_held : (f : ℕ) (held : List (Option ℕ)) → Finds f 1 [] held None → is_held f held ≡ false
none_is_held f held none = none_in f held (λ k has. false≢true (none k has))

pub found_is_held : (f : ℕ) (held : List (Option ℕ)) (found : Option ℕ) → Finds f 1 [] held found → is_some found ≡ is_held f held
found_is_held f held None e = sym (none_is_held f held e)
found_is_held f held (Some at) e = sym (list_any_at (is_this f) held at None (within_held held at f e.0) (ap (is_this f) e.0 ∙ eq-eqb f f refl))
