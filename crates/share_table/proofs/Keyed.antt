-- A list of entries that have keys, as a map.
use Rattle.std.proofs.Common.{◌≡◌, ℕ, ◌+◌, ◌<◌, ◌≤◌, Bool, true, false, cond, eqb, nat_lt, not, List, [], ◌∷◌, ◌++◌, length, get_or, map, Option, Some, None, IsSome, sym, refl, ap, ◌∙◌, arith, rules, take, drop}
use Prim.Native.Nat.{suc}
use Rattle.std.proofs.Math.ListN.{set}
use Rattle.std.specs.List.{remove as removed, position, position_or_len}
use Rattle.std.specs.Ordering.{nat_cmp}
use Rattle.std.specs.Cmp.{unsigned_tied}
use Rattle.std.specs.FinMap.{from_entries, insert, remove}
use Rattle.std.proofs.lemmas.Bool.Decides.{nat_tests}
use Rattle.std.proofs.lemmas.List.{get_or-map, length-map, map-set, map_push, map-append, take-map, drop-map}
use Rattle.std.proofs.lemmas.List.Quantifiers.{position-Some}
use Rattle.share_table.specs.Stored.{HasDistinctKeys}
use Rattle.share_table.proofs.Maps.{tied, found}
use Rattle.share_table.proofs.Pairs.{first_of_key, find_at, find_set, find_removed, find_pushed, map_set_entry, distinct_set, map_removed, distinct_removed, map_push_entry, distinct_push}

tied-eqb : (x q : ℕ) (b : Bool) → eqb x q ≡ b → tied q x ≡ b
tied-eqb x q true e = grind (arith, nat_tests, unsigned_tied q x)
tied-eqb x q false e = grind (arith, nat_tests, unsigned_tied q x)

absent_step : {X : Type 0} (b t : Bool) (v : X) (r : Option X) (n m : ℕ) → t ≡ b → suc n ≤ cond (not b) (1 + m) 0 → (n ≤ m → r ≡ None) → cond t (Some v) r ≡ None
absent_step true t v r n m e h f = absurd (omega arith)
absent_step false t v r n m e h f = rw e (f (omega arith))

len_of_none : (i n : ℕ) (b : Bool) → nat_lt i n ≡ b → ◌≡◌ {A = Option ℕ} (cond b (Some i) None) None → n ≤ i
len_of_none i n true e h = absurd (cc)
len_of_none i n false e h = grind (arith, nat_tests)

some_not_none : {X : Type 0} (o : Option X) → IsSome o → o ≡ None → ⊥
some_not_none None h e = absurd (cc)
some_not_none (Some x) h e = cc

module _ {E X : Type 0} (key : E → ℕ) (val : E → X) where
  abbrev pub pair : E → ℕ × X
  pair e = (key e, val e)

  absent_past : (es : List E) (q : ℕ) → length es ≤ position_or_len (λ e. eqb (key e) q) es → found q (map pair es) ≡ None
  absent_past [] q h = refl
  absent_past (e ∷ es) q h =
      absent_step (eqb (key e) q) (tied q (key e)) (val e) (found q (map pair es)) (length es) (position_or_len (λ e. eqb (key e) q) es) (tied-eqb (key e) q (eqb (key e) q) refl) h (absent_past es q)

  -- a key that has no place isn't found
  pub absent : (es : List E) (q : ℕ) → position (λ e. eqb (key e) q) es ≡ None → found q (map pair es) ≡ None
  absent es q h =
      absent_past es q (len_of_none (position_or_len (λ e. eqb (key e) q) es) (length es) (nat_lt (position_or_len (λ e. eqb (key e) q) es) (length es)) refl h)

  placed : (es : List E) (q : ℕ) (o : Option ℕ) → position (λ e. eqb (key e) q) es ≡ o → IsSome (found q (map pair es)) → IsSome o
  placed es q None e h = absurd (some_not_none (found q (map pair es)) h (absent es q e))
  placed es q (Some i) e h = search rules

  -- a key that is found has a place
  pub place : (es : List E) (q : ℕ) → IsSome (found q (map pair es)) → IsSome (position (λ e. eqb (key e) q) es)
  place es q h = placed es q (position (λ e. eqb (key e) q) es) refl h

  -- what a search of the slice of a list answered, said of the list
  pub searched : (es slice : List E) (q : ℕ) (o answer : Option ℕ) → slice ≡ es → o ≡ position (λ e. eqb (key e) q) slice → o ≡ answer → position (λ e. eqb (key e) q) es ≡ answer
  searched es slice q o answer same e is = ap (position (λ e. eqb (key e) q)) (sym same) ∙ sym e ∙ is

  module _ (es : List E) (q i : ℕ) (at : position (λ e. eqb (key e) q) es ≡ Some i) where
    pub within : i < length es
    within = elim es as (λ es. position (λ e. eqb (key e) q) es ≡ Some i → i < length es) [ [] ↦ λ p. absurd (cc) | x ∷ xs ↦ λ p. (position-Some (λ e. eqb (key e) q) (x ∷ xs) i x p).0 ] at

    -- the entry that was read at the place
    module _ (e : E) (read : e ≡ get_or es i e) where
      pub key_is : key e ≡ q
      key_is = let p = (position-Some (λ e. eqb (key e) q) es i e at).1 in ap key read ∙ grind (arith, nat_tests)

      pair_within : i < length (map pair es)
      pair_within = rw length-map within

      pair_key : (get_or (map pair es) i (pair e)).0 ≡ q
      pair_key = ap (λ p. p.0) (get_or-map pair es i e (pair e) within) ∙ ap key (sym read) ∙ key_is

      module _ (u : HasDistinctKeys (map pair es)) where
        none_before : found q (take i (map pair es)) ≡ None
        none_before = first_of_key (map pair es) i q (pair e) pair_within pair_key u

        pub found_is : found q (map pair es) ≡ Some (val e)
        found_is =
            find_at (map pair es) i q (pair e) pair_within pair_key none_before
            ∙ ap (λ p. Some p.1) (get_or-map pair es i e (pair e) within)
            ∙ ap (λ x. Some (val x)) (sym read)

        pub found_set : (new : E) → key new ≡ q → (p : ℕ) → found p (map pair (set es i new)) ≡ cond (tied p q) (Some (val new)) (found p (map pair es))
        found_set new k p =
            ap (found p) (map-set pair es i new ∙ ap (λ h. set (map pair es) i (h, val new)) k)
            ∙ find_set (map pair es) i q (val new) (pair e) p pair_within pair_key none_before

        pub map_of_set : (new : E) → key new ≡ q → from_entries {R = nat_cmp} (map pair (set es i new)) ≡ insert (from_entries (map pair es)) q (val new)
        map_of_set new k =
            ap (from_entries {R = nat_cmp}) (map-set pair es i new ∙ ap (λ h. set (map pair es) i (h, val new)) k)
            ∙ map_set_entry (map pair es) i q (val new) (pair e) pair_within pair_key none_before

        pub distinct_of_set : (new : E) → key new ≡ q → HasDistinctKeys (map pair (set es i new))
        distinct_of_set new k =
            rw (map-set pair es i new, k) (distinct_set (map pair es) i q (val new) (pair e) pair_within pair_key none_before u)

        pairs_of_removed : map pair (removed es i) ≡ removed (map pair es) i
        pairs_of_removed = map-append pair (take i es) (drop (suc i) es) ∙ rw (take-map pair i es, drop-map pair (suc i) es) refl

        pub found_removed : (p : ℕ) → found p (map pair (removed es i)) ≡ cond (tied p q) None (found p (map pair es))
        found_removed p = ap (found p) pairs_of_removed ∙ find_removed (map pair es) i q (pair e) p pair_within pair_key u

        pub map_of_removed : from_entries {R = nat_cmp} (map pair (removed es i)) ≡ remove (from_entries (map pair es)) q
        map_of_removed = ap (from_entries {R = nat_cmp}) pairs_of_removed ∙ map_removed (map pair es) i q (pair e) pair_within pair_key u

        pub distinct_of_removed : HasDistinctKeys (map pair (removed es i))
        distinct_of_removed = rw pairs_of_removed (distinct_removed (map pair es) i (pair e) pair_within u)

  module _ (es : List E) (new : E) (none : found (key new) (map pair es) ≡ None) where
    pub found_pushed : (p : ℕ) → found p (map pair (es ++ new ∷ [])) ≡ cond (tied p (key new)) (Some (val new)) (found p (map pair es))
    found_pushed p = ap (found p) (map_push pair es new) ∙ find_pushed (map pair es) (key new) (val new) p none

    pub map_of_pushed : from_entries {R = nat_cmp} (map pair (es ++ new ∷ [])) ≡ insert (from_entries (map pair es)) (key new) (val new)
    map_of_pushed = ap (from_entries {R = nat_cmp}) (map_push pair es new) ∙ map_push_entry (map pair es) (key new) (val new) none

    pub distinct_of_pushed : HasDistinctKeys (map pair es) → HasDistinctKeys (map pair (es ++ new ∷ []))
    distinct_of_pushed u = rw map_push (distinct_push (map pair es) (key new) (val new) u none)
