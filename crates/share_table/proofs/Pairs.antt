-- Lists of keys with values, no key twice, and their maps, after a push, a write and a removal.
use Rattle.std.proofs.Common.{◌≡◌, ℕ, ◌+◌, ◌<◌, Bool, true, false, cond, List, [], ◌∷◌, ◌++◌, length, get_or, Option, Some, None, IsSome, is_some, sym, refl, ap, ◌∙◌, arith, take}
use Prim.Native.Nat.{zero, suc}
use Rattle.std.proofs.Math.ListN.{set}
use Rattle.std.specs.List.{remove as removed}
use Rattle.std.specs.Ordering.{nat_cmp}
use Rattle.std.specs.Cmp.{nat_cmp_total}
use Rattle.std.specs.FinMap.{FinMap, from_entries, insert, remove, get, len, nat_cmp-IsAntisymmetric, same_map, get-from_entries, get-insert, get-remove, len-insert, from_entries_push, len-empty}
use Rattle.share_table.specs.Stored.{HasDistinctKeys}
use Rattle.share_table.proofs.Maps.{tied, found, not_head, tied-symm, tied-refl, tied_same, true_not_false, under, len_new}

-- a map of distinct keys has as many entries as the list
pub len-from_entries : {X : Type 0} (es : List (ℕ × X)) → HasDistinctKeys es → len (from_entries {R = nat_cmp} es) ≡ length es
len-from_entries {X} [] d = len-empty nat_cmp X
len-from_entries (e ∷ es) d =
    let absent : is_some (get (from_entries {R = nat_cmp} es) e.0) ≡ false = rw (get-from_entries nat_cmp_total es e.0, d.0) refl in
    len-insert nat_cmp_total (from_entries es) e.0 e.1 ∙ rw (absent, len-from_entries es d.1) (omega arith)

-- a key that a map of entries has is found among the entries
pub is_got : {X : Type 0} (es : List (ℕ × X)) (m : FinMap nat_cmp X) (k : ℕ) → from_entries es ≡ m → IsSome (get m k) → IsSome (found k es)
is_got es m k e h = rw (← get-from_entries nat_cmp_total es k, e) h

pub is_not_got : {X : Type 0} (es : List (ℕ × X)) (m : FinMap nat_cmp X) (k : ℕ) → from_entries es ≡ m → get m k ≡ None → found k es ≡ None
is_not_got es m k e h = sym (get-from_entries nat_cmp_total es k) ∙ ap (λ (n : FinMap nat_cmp _). get n k) e ∙ h

-- ---- a push of a new key
pub find_push : {X : Type 0} (es : List (ℕ × X)) (k : ℕ) (v : X) (q : ℕ) → tied q k ≡ false → found q (es ++ (k, v) ∷ []) ≡ found q es
find_push [] k v q n = rw n refl
find_push (e ∷ es) k v q n = ap (λ r. cond (tied q e.0) (Some e.1) r) (find_push es k v q n)

pub distinct_push : {X : Type 0} (es : List (ℕ × X)) (k : ℕ) (v : X) → HasDistinctKeys es → found k es ≡ None → HasDistinctKeys (es ++ (k, v) ∷ [])
distinct_push [] k v d n = (refl, tt)
distinct_push (e ∷ es) k v d n =
    let h = not_head (tied k e.0) e.1 (found k es) n in
    (find_push es k v e.0 (tied-symm e.0 k ∙ h.0) ∙ d.0, distinct_push es k v d.1 h.1)

pub map_push_entry : {X : Type 0} (es : List (ℕ × X)) (k : ℕ) (v : X) → found k es ≡ None → from_entries {R = nat_cmp} (es ++ (k, v) ∷ []) ≡ insert (from_entries es) k v
map_push_entry es k v n = from_entries_push nat_cmp_total nat_cmp-IsAntisymmetric es k v n

-- what is found after a push of a new key
pub find_pushed : {X : Type 0} (es : List (ℕ × X)) (k : ℕ) (v : X) (q : ℕ) → found k es ≡ None → found q (es ++ (k, v) ∷ []) ≡ cond (tied q k) (Some v) (found q es)
find_pushed es k v q n =
    sym (get-from_entries nat_cmp_total (es ++ (k, v) ∷ []) q)
    ∙ ap (λ (m : FinMap nat_cmp _). get m q) (map_push_entry es k v n)
    ∙ get-insert nat_cmp_total (from_entries es) k v q
    ∙ ap (cond (tied q k) (Some v)) (get-from_entries nat_cmp_total es q)

pub len_pushed : {X : Type 0} (es : List (ℕ × X)) (m : FinMap nat_cmp X) (k : ℕ) (v : X) → from_entries es ≡ m → HasDistinctKeys es → found k es ≡ None → len (insert m k v) ≡ length es + 1
len_pushed es m k v e u n =
    len_new m k v (rw (← e) (get-from_entries nat_cmp_total es k ∙ n)) ∙ rw (← e, len-from_entries es u) refl

-- ---- a place and its key
-- a key that is found in a place of the list isn't absent from it
there : {X : Type 0} (es : List (ℕ × X)) (i k : ℕ) (d : ℕ × X) → i < length es → (get_or es i d).0 ≡ k → found k es ≡ None → ⊥
there [] i k d h at n = absurd (omega arith)
there (e ∷ es) zero k d h at n = true_not_false (tied k e.0) (rw at (tied-refl k)) (not_head (tied k e.0) e.1 (found k es) n).0
there (e ∷ es) (suc i) k d h at n = there es i k d (omega arith) at (not_head (tied k e.0) e.1 (found k es) n).1

absent_tied : {X : Type 0} (es : List (ℕ × X)) (i k : ℕ) (d : ℕ × X) (q : ℕ) → i < length es → (get_or es i d).0 ≡ k → found q es ≡ None → (b : Bool) → tied q k ≡ b → tied q k ≡ false
absent_tied es i k d q h at n false e = e
absent_tied es i k d q h at n true e = absurd (there es i q d h (at ∙ sym (tied_same q k e)) n)

-- in a list of distinct keys nothing before a place has its key
pub first_of_key : {X : Type 0} (es : List (ℕ × X)) (i k : ℕ) (d : ℕ × X) → i < length es → (get_or es i d).0 ≡ k → HasDistinctKeys es → found k (take i es) ≡ None
first_of_key [] i k d h at u = absurd (omega arith)
first_of_key (e ∷ es) zero k d h at u = refl
first_of_key (e ∷ es) (suc i) k d h at u =
    rw (tied-symm k e.0 ∙ absent_tied es i k d e.0 (omega arith) at u.0 (tied e.0 k) refl) (first_of_key es i k d (omega arith) at u.1)

-- what is found is the value at the first place of the key
pub find_at : {X : Type 0} (es : List (ℕ × X)) (i k : ℕ) (d : ℕ × X) → i < length es → (get_or es i d).0 ≡ k → found k (take i es) ≡ None → found k es ≡ Some (get_or es i d).1
find_at [] i k d h at n = absurd (omega arith)
find_at (e ∷ es) zero k d h at n = rw (at, tied-refl) refl
find_at (e ∷ es) (suc i) k d h at n =
    let s = not_head (tied k e.0) e.1 (found k (take i es)) n in
    rw s.0 (find_at es i k d (omega arith) at s.1)

-- ---- a write
-- two tests of one question, where both can't hold
swapped : {X : Type 0} (a b : Bool) (x y : X) (r : X) → (a ≡ true → b ≡ true → ⊥) → cond a x (cond b y r) ≡ cond b y (cond a x r)
swapped true true x y r h = absurd (h refl refl)
swapped true false x y r h = refl
swapped false true x y r h = refl
swapped false false x y r h = refl

-- a write of a value at the first place of its key
pub find_set : {X : Type 0} (es : List (ℕ × X)) (i k : ℕ) (v : X) (d : ℕ × X) (q : ℕ) → i < length es → (get_or es i d).0 ≡ k → found k (take i es) ≡ None → found q (set es i (k, v)) ≡ cond (tied q k) (Some v) (found q es)
find_set [] i k v d q h at n = absurd (omega arith)
find_set (e ∷ es) zero k v d q h at n = rw at (under (tied q k) (Some v) (Some e.1) (found q es))
find_set (e ∷ es) (suc i) k v d q h at n =
    let s = not_head (tied k e.0) e.1 (found k (take i es)) n in
    ap (λ r. cond (tied q e.0) (Some e.1) r) (find_set es i k v d q (omega arith) at s.1)
    ∙ swapped (tied q e.0) (tied q k) (Some e.1) (Some v) (found q es) (λ x y. absurd (true_not_false (tied k e.0) (ap (λ z. tied z e.0) (sym (tied_same q k y)) ∙ x) s.0))

distinct_set_head : {X : Type 0} (es : List (ℕ × X)) (i k : ℕ) (v : X) (d : ℕ × X) (q : ℕ) → i < length es → (get_or es i d).0 ≡ k → found k (take i es) ≡ None → found q es ≡ None → tied q k ≡ false → found q (set es i (k, v)) ≡ None
distinct_set_head es i k v d q h at n m t = find_set es i k v d q h at n ∙ rw t m

pub distinct_set : {X : Type 0} (es : List (ℕ × X)) (i k : ℕ) (v : X) (d : ℕ × X) → i < length es → (get_or es i d).0 ≡ k → found k (take i es) ≡ None → HasDistinctKeys es → HasDistinctKeys (set es i (k, v))
distinct_set [] i k v d h at n u = u
distinct_set (e ∷ es) zero k v d h at n u = (rw (← at) u.0, u.1)
distinct_set (e ∷ es) (suc i) k v d h at n u =
    let s = not_head (tied k e.0) e.1 (found k (take i es)) n in
    (distinct_set_head es i k v d e.0 (omega arith) at s.1 u.0 (tied-symm e.0 k ∙ s.0), distinct_set es i k v d (omega arith) at s.1 u.1)

pub map_set_entry : {X : Type 0} (es : List (ℕ × X)) (i k : ℕ) (v : X) (d : ℕ × X) → i < length es → (get_or es i d).0 ≡ k → found k (take i es) ≡ None → from_entries {R = nat_cmp} (set es i (k, v)) ≡ insert (from_entries es) k v
map_set_entry es i k v d h at n =
    same_map nat_cmp_total nat_cmp-IsAntisymmetric _ _ (λ q. get-from_entries nat_cmp_total (set es i (k, v)) q ∙ find_set es i k v d q h at n ∙ sym (get-insert nat_cmp_total (from_entries es) k v q ∙ ap (cond (tied q k) (Some v)) (get-from_entries nat_cmp_total es q)))

-- ---- a removal
none_cond : {X : Type 0} (b : Bool) → ◌≡◌ {A = Option X} (cond b None None) None
none_cond true = refl
none_cond false = refl

found_tied : {X : Type 0} (q k : ℕ) (es : List (ℕ × X)) → tied q k ≡ true → found k es ≡ None → found q es ≡ None
found_tied q k es t n = ap (λ x. found x es) (tied_same q k t) ∙ n

drop_head : {X : Type 0} (a b : Bool) (v : X) (rest : Option X) → a ≡ b → (b ≡ true → rest ≡ None) → rest ≡ cond b None (cond a (Some v) rest)
drop_head a true v rest e h = h refl
drop_head true false v rest e h = absurd (true_not_false true refl e)
drop_head false false v rest e h = refl

pub find_removed : {X : Type 0} (es : List (ℕ × X)) (i k : ℕ) (d : ℕ × X) (q : ℕ) → i < length es → (get_or es i d).0 ≡ k → HasDistinctKeys es → found q (removed es i) ≡ cond (tied q k) None (found q es)
find_removed [] i k d q h at u = absurd (omega arith)
find_removed (e ∷ es) zero k d q h at u =
    drop_head (tied q e.0) (tied q k) e.1 (found q es) (ap (tied q) at) (λ t. found_tied q k es t (ap (λ x. found x es) (sym at) ∙ u.0))
find_removed (e ∷ es) (suc i) k d q h at u =
    ap (λ r. cond (tied q e.0) (Some e.1) r) (find_removed es i k d q (omega arith) at u.1)
    ∙ swapped (tied q e.0) (tied q k) (Some e.1) None (found q es) (λ x y. there es i k d (omega arith) at (ap (λ z. found z es) (sym (tied_same q k y) ∙ tied_same q e.0 x) ∙ u.0))

pub distinct_removed : {X : Type 0} (es : List (ℕ × X)) (i : ℕ) (d : ℕ × X) → i < length es → HasDistinctKeys es → HasDistinctKeys (removed es i)
distinct_removed [] i d h u = absurd (omega arith)
distinct_removed (e ∷ es) zero d h u = u.1
distinct_removed (e ∷ es) (suc i) d h u =
    (find_removed es i _ d e.0 (omega arith) refl u.1 ∙ ap (λ r. cond (tied e.0 (get_or es i d).0) None r) u.0 ∙ none_cond (tied e.0 (get_or es i d).0), distinct_removed es i d (omega arith) u.1)

pub map_removed : {X : Type 0} (es : List (ℕ × X)) (i k : ℕ) (d : ℕ × X) → i < length es → (get_or es i d).0 ≡ k → HasDistinctKeys es → from_entries {R = nat_cmp} (removed es i) ≡ remove (from_entries es) k
map_removed es i k d h at u =
    same_map nat_cmp_total nat_cmp-IsAntisymmetric _ _ (λ q. get-from_entries nat_cmp_total (removed es i) q ∙ find_removed es i k d q h at u ∙ sym (get-remove nat_cmp_total (from_entries es) k q ∙ ap (cond (tied q k) None) (get-from_entries nat_cmp_total es q)))
