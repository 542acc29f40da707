-- The entries of one kind in chains, as a map, after a change of one chain.
use Rattle.std.proofs.Common.{◌≡◌, ◌≢◌, ℕ, ◌+◌, ◌<◌, Bool, true, false, cond, eqb, List, [], ◌∷◌, ◌++◌, length, get_or, Option, Some, None, IsSome, sym, refl, ap, ◌∙◌, arith, subst}
use Prim.Native.Nat.{zero, suc}
use Rattle.std.proofs.Math.ListN.{set}
use Rattle.std.specs.Cmp.{unsigned_tied}
use Rattle.std.proofs.lemmas.Bool.Decides.{nat_tests}
use Rattle.std.proofs.lemmas.List.{get_or-set_same, get_or-set_other}
use Rattle.std.proofs.lemmas.Option.{same_Some}
use Rattle.std.proofs.lemmas.Bool.{eqb-true, eqb-false}
use Rattle.packed_entries.specs.declared.entry.Entry.{Entry}
use Rattle.packed_entries.specs.declared.entry.Entry.TheVariants.{Shared, Hint}
use Rattle.packed_entries.specs.declared.key.Key.{Key}
use Rattle.packed_entries.specs.declared.key.Key.TheVariants as keys
use Rattle.packed_entries.specs.Keys.{key_of, has_key, first_with, with_other, without_first, shared_parts}
use Rattle.packed_entries.specs.Entries.{home, entries_in}
use Rattle.share_table.specs.TableMaps.{HintFrame}
use Rattle.share_table.specs.declared.entries.SharedEntry.{SharedEntry}
use Rattle.share_table.specs.Stored.{shared_of, hint_of, before_pairs, pairs, all_pairs, second_of, value_of, BelongInto, HasEachOnce}
use Rattle.share_table.proofs.Maps.{tied, found, tied_same, true_not_false, under}

-- ---- keys
abbrev pub is_tied_to : {X : Type 0} → Option (ℕ × X) → ℕ → Bool
is_tied_to None q = false
is_tied_to (Some p) q = tied q p.0

-- entries of one kind, each of which is found by the key that its number stands for
pub record IsKind {X : Type 0} (kind : Entry → Option (ℕ × X)) (key : ℕ → Key) : Type 0 where
  pub keyed : (e : Entry) (p : ℕ × X) → kind e ≡ Some p → key_of e ≡ key p.0
  pub finds : (q : ℕ) (e : Entry) → has_key (key q) e ≡ is_tied_to (kind e) q

alike_step : (q h : ℕ) (b : Bool) → eqb q h ≡ b → tied q h ≡ b
alike_step q h true e = grind (arith, nat_tests, unsigned_tied q h)
alike_step q h false e = grind (arith, nat_tests, unsigned_tied q h)

alike : (q h : ℕ) → eqb q h ≡ tied q h
alike q h = sym (alike_step q h (eqb q h) refl)

shared_keyed : (e : Entry) (p : ℕ × SharedEntry) → shared_of e ≡ Some p → key_of e ≡ keys.Shared p.0
shared_keyed (Shared h m c) p e = ap (λ (x : ℕ × SharedEntry). keys.Shared x.0) (same_Some _ p e)
shared_keyed (Hint k g n m) p e = absurd (cc)

shared_finds : (q : ℕ) (e : Entry) → has_key (keys.Shared q) e ≡ is_tied_to (shared_of e) q
shared_finds q (Shared h m c) = alike q h
shared_finds q (Hint k g n m) = refl

hint_keyed : (e : Entry) (p : ℕ × HintFrame) → hint_of e ≡ Some p → key_of e ≡ keys.Hint p.0
hint_keyed (Shared h m c) p e = absurd (cc)
hint_keyed (Hint k g n m) p e = ap (λ (x : ℕ × HintFrame). keys.Hint x.0) (same_Some _ p e)

hint_finds : (q : ℕ) (e : Entry) → has_key (keys.Hint q) e ≡ is_tied_to (hint_of e) q
hint_finds q (Shared h m c) = refl
hint_finds q (Hint k g n m) = alike q k

pub shared_kind : IsKind shared_of keys.Shared
shared_kind = record { keyed = shared_keyed; finds = shared_finds }

pub hint_kind : IsKind hint_of keys.Hint
hint_kind = record { keyed = hint_keyed; finds = hint_finds }

-- a key of one kind finds no entry of the other
pub no_hint : (h : ℕ) (e : Entry) → has_key (keys.Shared h) e ≡ true → hint_of e ≡ None
no_hint h (Shared x m c) t = refl
no_hint h (Hint k g n m) t = absurd (true_not_false true refl (sym t))

pub no_shared : (h : ℕ) (e : Entry) → has_key (keys.Hint h) e ≡ true → shared_of e ≡ None
no_shared h (Shared x m c) t = absurd (true_not_false true refl (sym t))
no_shared h (Hint k g n m) t = refl

pub same_number : (q h : ℕ) → eqb q h ≡ true → h ≡ q
same_number q h e = grind (arith, nat_tests)

-- an entry that is found has the key
pub key_tells : (k : Key) (e : Entry) → has_key k e ≡ true → key_of e ≡ k
key_tells (keys.Shared q) (Shared h m c) t = ap keys.Shared (same_number q h t)
key_tells (keys.Shared q) (Hint k g n m) t = absurd (true_not_false true refl (sym t))
key_tells (keys.Hint q) (Shared h m c) t = absurd (true_not_false true refl (sym t))
key_tells (keys.Hint q) (Hint k g n m) t = ap keys.Hint (same_number q k t)

abbrev same_key : Key → Key → Bool
same_key (keys.Shared q) (keys.Shared h) = eqb q h
same_key (keys.Shared q) (keys.Hint h) = false
same_key (keys.Hint q) (keys.Shared h) = false
same_key (keys.Hint q) (keys.Hint h) = eqb q h

has_same : (k : Key) (e : Entry) → has_key k e ≡ same_key k (key_of e)
has_same (keys.Shared q) (Shared h m c) = refl
has_same (keys.Shared q) (Hint k g n m) = refl
has_same (keys.Hint q) (Shared h m c) = refl
has_same (keys.Hint q) (Hint k g n m) = refl

has_alike : (k : Key) (a b : Entry) → key_of a ≡ key_of b → has_key k a ≡ has_key k b
has_alike k a b e = has_same k a ∙ ap (same_key k) e ∙ sym (has_same k b)

-- ---- one chain: the entries stand once, and in their bucket
none_head : (b : Bool) (e : Entry) (r : Option Entry) → cond b (Some e) r ≡ None → (b ≡ false) × (r ≡ None)
none_head true e r h = absurd (cc)
none_head false e r h = (refl, h)

none_of_both : (b : Bool) (e : Entry) (r : Option Entry) → b ≡ false → r ≡ None → cond b (Some e) r ≡ None
none_of_both b e r f h = rw f h

none_without_step : (k j : Key) (e : Entry) (es : List Entry) (b : Bool) → has_key k e ≡ false → first_with k es ≡ None → first_with k (without_first j es) ≡ None → first_with k (cond b es (e ∷ without_first j es)) ≡ None
none_without_step k j e es true f h ih = h
none_without_step k j e es false f h ih = none_of_both (has_key k e) e (first_with k (without_first j es)) f ih

none_without : (k j : Key) (es : List Entry) → first_with k es ≡ None → first_with k (without_first j es) ≡ None
none_without k j [] h = refl
none_without k j (e ∷ es) h =
    let s = none_head (has_key k e) e (first_with k es) h in
    none_without_step k j e es (has_key j e) s.0 s.1 (none_without k j es s.1)

none_other_step : (k j : Key) (new e : Entry) (es : List Entry) (b : Bool) → has_key j e ≡ b → key_of new ≡ j → has_key k e ≡ false → first_with k es ≡ None → first_with k (with_other j new es) ≡ None → first_with k (cond b (new ∷ es) (e ∷ with_other j new es)) ≡ None
none_other_step k j new e es true t at f h ih =
    none_of_both (has_key k new) new (first_with k es) (has_alike k new e (at ∙ sym (key_tells j e t)) ∙ f) h
none_other_step k j new e es false t at f h ih = none_of_both (has_key k e) e (first_with k (with_other j new es)) f ih

none_other : (k j : Key) (new : Entry) (es : List Entry) → key_of new ≡ j → first_with k es ≡ None → first_with k (with_other j new es) ≡ None
none_other k j new [] at h = refl
none_other k j new (e ∷ es) at h =
    let s = none_head (has_key k e) e (first_with k es) h in
    none_other_step k j new e es (has_key j e) refl at s.0 s.1 (none_other k j new es at s.1)

once_without_step : (j : Key) (e : Entry) (es : List Entry) (b : Bool) → first_with (key_of e) es ≡ None → HasEachOnce es → HasEachOnce (without_first j es) → HasEachOnce (cond b es (e ∷ without_first j es))
once_without_step j e es true n o ih = o
once_without_step j e es false n o ih = (none_without (key_of e) j es n, ih)

pub once_without : (j : Key) (es : List Entry) → HasEachOnce es → HasEachOnce (without_first j es)
once_without j [] o = tt
once_without j (e ∷ es) o = once_without_step j e es (has_key j e) o.0 o.1 (once_without j es o.1)

once_other_step : (j : Key) (new e : Entry) (es : List Entry) (b : Bool) → has_key j e ≡ b → key_of new ≡ j → first_with (key_of e) es ≡ None → HasEachOnce es → HasEachOnce (with_other j new es) → HasEachOnce (cond b (new ∷ es) (e ∷ with_other j new es))
once_other_step j new e es true t at n o ih = (ap (λ k. first_with k es) (at ∙ sym (key_tells j e t)) ∙ n, o)
once_other_step j new e es false t at n o ih = (none_other (key_of e) j new es at n, ih)

pub once_other : (j : Key) (new : Entry) (es : List Entry) → key_of new ≡ j → HasEachOnce es → HasEachOnce (with_other j new es)
once_other j new [] at o = tt
once_other j new (e ∷ es) at o = once_other_step j new e es (has_key j e) refl at o.0 o.1 (once_other j new es at o.1)

belong_without_step : (n b : ℕ) (j : Key) (e : Entry) (es : List Entry) (t : Bool) → home n (key_of e) ≡ b → BelongInto n b es → BelongInto n b (without_first j es) → BelongInto n b (cond t es (e ∷ without_first j es))
belong_without_step n b j e es true h hs ih = hs
belong_without_step n b j e es false h hs ih = (h, ih)

pub belong_without : (n b : ℕ) (j : Key) (es : List Entry) → BelongInto n b es → BelongInto n b (without_first j es)
belong_without n b j [] h = tt
belong_without n b j (e ∷ es) h = belong_without_step n b j e es (has_key j e) h.0 h.1 (belong_without n b j es h.1)

belong_other_step : (n b : ℕ) (j : Key) (new e : Entry) (es : List Entry) (t : Bool) → home n (key_of new) ≡ b → home n (key_of e) ≡ b → BelongInto n b es → BelongInto n b (with_other j new es) → BelongInto n b (cond t (new ∷ es) (e ∷ with_other j new es))
belong_other_step n b j new e es true at h hs ih = (at, hs)
belong_other_step n b j new e es false at h hs ih = (h, ih)

pub belong_other : (n b : ℕ) (j : Key) (new : Entry) (es : List Entry) → home n (key_of new) ≡ b → BelongInto n b es → BelongInto n b (with_other j new es)
belong_other n b j new [] at h = tt
belong_other n b j new (e ∷ es) at h = belong_other_step n b j new e es (has_key j e) at h.0 h.1 (belong_other n b j new es at h.1)

-- ---- lengths
length_other_step : (j : Key) (new e : Entry) (es : List Entry) (b : Bool) → length (with_other j new es) ≡ length es → length (cond b (new ∷ es) (e ∷ with_other j new es)) ≡ length (e ∷ es)
length_other_step j new e es true ih = refl
length_other_step j new e es false ih = ap suc ih

pub length_other : (j : Key) (new : Entry) (es : List Entry) → length (with_other j new es) ≡ length es
length_other j new [] = refl
length_other j new (e ∷ es) = length_other_step j new e es (has_key j e) (length_other j new es)

length_without_step : (j : Key) (e : Entry) (es : List Entry) (b : Bool) → IsSome (cond b (Some e) (first_with j es)) → (IsSome (first_with j es) → length (without_first j es) + 1 ≡ length es) → length (cond b es (e ∷ without_first j es)) + 1 ≡ length (e ∷ es)
length_without_step j e es true h ih = omega arith
length_without_step j e es false h ih = omega (arith, ih h)

pub length_without : (j : Key) (es : List Entry) → IsSome (first_with j es) → length (without_first j es) + 1 ≡ length es
length_without j [] h = absurd (true_not_false true refl (sym h))
length_without j (e ∷ es) h = length_without_step j e es (has_key j e) h (length_without j es)

pub entries_in_set : (cs : List (List Entry)) (b : ℕ) (es : List Entry) → b < length cs → entries_in (set cs b es) + length (get_or cs b []) ≡ entries_in cs + length es
entries_in_set [] b es l = absurd (omega arith)
entries_in_set (c ∷ cs) zero es l = omega arith
entries_in_set (c ∷ cs) (suc b) es l = omega (arith, entries_in_set cs b es (omega arith))

-- ---- one chain: what is found
abbrev or_else : {X : Type 0} → Option X → Option X → Option X
or_else None r = r
or_else (Some x) r = Some x

or_none : {X : Type 0} (o : Option X) → or_else o None ≡ o
or_none None = refl
or_none (Some x) = refl

or_step : {X : Type 0} (t : Bool) (x : X) (o r s : Option X) → s ≡ or_else o r → cond t (Some x) s ≡ or_else (cond t (Some x) o) r
or_step true x o r s h = refl
or_step false x o r s h = h

found-append : {X : Type 0} (q : ℕ) (xs ys : List (ℕ × X)) → found q (xs ++ ys) ≡ or_else (found q xs) (found q ys)
found-append q [] ys = refl
found-append q (x ∷ xs) ys = or_step (tied q x.0) x.1 (found q xs) (found q ys) (found q (xs ++ ys)) (found-append q xs ys)

none_or : {X : Type 0} (a b c : Option X) → a ≡ or_else b c → b ≡ None → a ≡ c
none_or a b c e h = e ∙ ap (λ o. or_else o c) h

-- two tests of one question, where both can't hold
swapped : {X : Type 0} (a b : Bool) (x : X) (y r : Option X) → (a ≡ true → b ≡ true → ⊥) → cond a (Some x) (cond b y r) ≡ cond b y (cond a (Some x) r)
swapped true true x y r h = absurd (h refl refl)
swapped true false x y r h = refl
swapped false true x y r h = refl
swapped false false x y r h = refl

none_cond : {X : Type 0} (b : Bool) → ◌≡◌ {A = Option X} None (cond b None None)
none_cond true = refl
none_cond false = refl

-- what is left behind the only pair of a key
left : {X : Type 0} (t s : Bool) (x : X) (r : Option X) → s ≡ t → (t ≡ true → r ≡ None) → r ≡ cond t None (cond s (Some x) r)
left true s x r e h = h refl
left false s x r e h = rw e refl

module _ {X : Type 0} (kind : Entry → Option (ℕ × X)) (key : ℕ → Key) (K : IsKind kind key) where
  value_tied : (p : ℕ × X) (q : ℕ) (e : Entry) (ps : List (ℕ × X)) (r : Option Entry) (t : Bool) → kind e ≡ Some p → found q ps ≡ value_of kind r → cond t (Some p.1) (found q ps) ≡ value_of kind (cond t (Some e) r)
  value_tied p q e ps r true is h = sym (ap second_of is)
  value_tied p q e ps r false is h = h

  value_step : (o : Option (ℕ × X)) (q : ℕ) (e : Entry) (b : Bool) (ps : List (ℕ × X)) (r : Option Entry) → kind e ≡ o → b ≡ is_tied_to o q → found q ps ≡ value_of kind r → found q (before_pairs o ps) ≡ value_of kind (cond b (Some e) r)
  value_step None q e b ps r is t h = rw t h
  value_step (Some p) q e b ps r is t h = rw t (value_tied p q e ps r (tied q p.0) is h)

  -- the value that is found is that of the first entry
  pub found_value : (q : ℕ) (es : List Entry) → found q (pairs kind es) ≡ value_of kind (first_with (key q) es)
  found_value q [] = refl
  found_value q (e ∷ es) = value_step (kind e) q e (has_key (key q) e) (pairs kind es) (first_with (key q) es) refl (K.finds q e) (found_value q es)

  none_pair : (b : Bool) (x : X) (r : Option X) → cond b (Some x) r ≡ None → (b ≡ false) × (r ≡ None)
  none_pair true x r h = absurd (cc)
  none_pair false x r h = (refl, h)

  absent_step : (o : Option (ℕ × X)) (q : ℕ) (e : Entry) (ps : List (ℕ × X)) (r : Option Entry) (b : Bool) → b ≡ is_tied_to o q → found q (before_pairs o ps) ≡ None → (found q ps ≡ None → r ≡ None) → cond b (Some e) r ≡ None
  absent_step None q e ps r b t h ih = rw t (ih h)
  absent_step (Some p) q e ps r b t h ih =
      let s = none_pair (tied q p.0) p.1 (found q ps) h in
      rw (t, s.0) (ih s.1)

  -- a number that isn't found is no entry's
  pub absent_first : (q : ℕ) (es : List Entry) → found q (pairs kind es) ≡ None → first_with (key q) es ≡ None
  absent_first q [] h = refl
  absent_first q (e ∷ es) h = absent_step (kind e) q e (pairs kind es) (first_with (key q) es) (has_key (key q) e) (K.finds q e) h (absent_first q es)

  foreign_tied : (p : ℕ × X) (n b q : ℕ) (e : Entry) (r : Option X) (t : Bool) → tied q p.0 ≡ t → kind e ≡ Some p → home n (key_of e) ≡ b → home n (key q) ≢ b → r ≡ None → cond t (Some p.1) r ≡ None
  foreign_tied p n b q e r true t is h ne ih =
      absurd (ne (ap (λ x. home n (key x)) (tied_same q p.0 t) ∙ sym (ap (home n) (K.keyed e p is)) ∙ h))
  foreign_tied p n b q e r false t is h ne ih = ih

  foreign_step : (o : Option (ℕ × X)) (n b q : ℕ) (e : Entry) (ps : List (ℕ × X)) → kind e ≡ o → home n (key_of e) ≡ b → home n (key q) ≢ b → found q ps ≡ None → found q (before_pairs o ps) ≡ None
  foreign_step None n b q e ps is h ne ih = ih
  foreign_step (Some p) n b q e ps is h ne ih = foreign_tied p n b q e (found q ps) (tied q p.0) refl is h ne ih

  -- a number of another bucket isn't found
  foreign : (n b q : ℕ) (es : List Entry) → BelongInto n b es → home n (key q) ≢ b → found q (pairs kind es) ≡ None
  foreign n b q [] h ne = refl
  foreign n b q (e ∷ es) h ne = foreign_step (kind e) n b q e (pairs kind es) refl h.0 ne (foreign n b q es h.1 ne)

  -- ---- all chains: what is found stands in the chain of the number's bucket
  shift : (n o : ℕ) (c : List Entry) (cs : List (List Entry)) → ((i : ℕ) → BelongInto n (o + i) (get_or (c ∷ cs) i [])) → (i : ℕ) → BelongInto n (suc o + i) (get_or cs i [])
  shift n o c cs h i = let e : o + suc i ≡ suc o + i = omega arith in subst (λ x. BelongInto n x (get_or cs i [])) e (h (suc i))

  none_past : (n o q : ℕ) (cs : List (List Entry)) → ((i : ℕ) → BelongInto n (o + i) (get_or cs i [])) → home n (key q) < o → found q (all_pairs kind cs) ≡ None
  none_past n o q [] h l = refl
  none_past n o q (c ∷ cs) h l =
      none_or _ _ _ (found-append q (pairs kind c) (all_pairs kind cs)) (foreign n (o + 0) q c (h 0) (omega arith))
      ∙ none_past n (suc o) q cs (shift n o c cs h) (omega arith)

  found_from : (n o j q : ℕ) (cs : List (List Entry)) → ((i : ℕ) → BelongInto n (o + i) (get_or cs i [])) → home n (key q) ≡ o + j → found q (all_pairs kind cs) ≡ found q (pairs kind (get_or cs j []))
  found_from n o j q [] h e = refl
  found_from n o zero q (c ∷ cs) h e =
      found-append q (pairs kind c) (all_pairs kind cs)
      ∙ ap (or_else (found q (pairs kind c))) (none_past n (suc o) q cs (shift n o c cs h) (omega arith))
      ∙ or_none (found q (pairs kind c))
  found_from n o (suc j) q (c ∷ cs) h e =
      none_or _ _ _ (found-append q (pairs kind c) (all_pairs kind cs)) (foreign n (o + 0) q c (h 0) (omega arith))
      ∙ found_from n (suc o) j q cs (shift n o c cs h) (omega arith)

  pub found_there : (n q : ℕ) (cs : List (List Entry)) → ((i : ℕ) → BelongInto n i (get_or cs i [])) → found q (all_pairs kind cs) ≡ found q (pairs kind (get_or cs (home n (key q)) []))
  found_there n q cs h =
      found_from n 0 (home n (key q)) q cs (λ i. let e : i ≡ 0 + i = omega arith in subst (λ x. BelongInto n x (get_or cs i [])) e (h i)) (omega arith)

  -- ---- one chain becomes another
  changed_step : (n b k q : ℕ) (cs : List (List Entry)) (es : List Entry) (v : Option X) → b < length cs → home n (key k) ≡ b
      → found q (pairs kind es) ≡ cond (tied q k) v (found q (pairs kind (get_or cs b []))) → (t s : Bool) → eqb (home n (key q)) b ≡ t → tied q k ≡ s
      → found q (pairs kind (get_or (set cs b es) (home n (key q)) [])) ≡ cond s v (found q (pairs kind (get_or cs (home n (key q)) [])))
  changed_step n b k q cs es v l at h true s e f =
      let is : home n (key q) ≡ b = eqb-true _ _ e in
      ap (λ i. found q (pairs kind (get_or (set cs b es) i []))) is
      ∙ ap (λ c. found q (pairs kind c)) (get_or-set_same cs b es [] l)
      ∙ h
      ∙ ap (λ x. cond x v (found q (pairs kind (get_or cs b [])))) f
      ∙ ap (λ i. cond s v (found q (pairs kind (get_or cs i [])))) (sym is)
  changed_step n b k q cs es v l at h false true e f =
      absurd (eqb-false _ _ e (ap (λ x. home n (key x)) (tied_same q k f) ∙ at))
  changed_step n b k q cs es v l at h false false e f =
      ap (λ c. found q (pairs kind c)) (get_or-set_other cs b (home n (key q)) es [] (eqb-false _ _ e))

  pub changed : (n b k : ℕ) (cs : List (List Entry)) (es : List Entry) (v : Option X) → ((i : ℕ) → BelongInto n i (get_or cs i []))
      → ((i : ℕ) → BelongInto n i (get_or (set cs b es) i [])) → b < length cs → home n (key k) ≡ b
      → ((q : ℕ) → found q (pairs kind es) ≡ cond (tied q k) v (found q (pairs kind (get_or cs b [])))) → (q : ℕ)
      → found q (all_pairs kind (set cs b es)) ≡ cond (tied q k) v (found q (all_pairs kind cs))
  changed n b k cs es v old new l at h q =
      found_there n q (set cs b es) new
      ∙ changed_step n b k q cs es v l at (h q) (eqb (home n (key q)) b) (tied q k) refl refl
      ∙ ap (cond (tied q k) v) (sym (found_there n q cs old))

  -- ---- a write and a removal in one chain
  other_tied : (k q : ℕ) (p : ℕ × X) (v : X) (ps : List (ℕ × X)) (s : Option X) (b : Bool) → tied k p.0 ≡ b
      → (b ≡ false → s ≡ cond (tied q k) (Some v) (found q ps)) → cond b (cond (tied q k) (Some v) (found q ps)) (cond (tied q p.0) (Some p.1) s)
      ≡ cond (tied q k) (Some v) (cond (tied q p.0) (Some p.1) (found q ps))
  other_tied k q p v ps s true e h =
      under (tied q k) (Some v) (Some p.1) (found q ps)
      ∙ ap (λ x. cond (tied q k) (Some v) (cond (tied q x) (Some p.1) (found q ps))) (tied_same k p.0 e)
  other_tied k q p v ps s false e h =
      ap (cond (tied q p.0) (Some p.1)) (h refl)
      ∙ swapped (tied q p.0) (tied q k) p.1 (Some v) (found q ps) (λ x y. true_not_false (tied k p.0) (ap (λ z. tied z p.0) (sym (tied_same q k y)) ∙ x) e)

  abbrev pushed : Bool → X → ℕ → ℕ → List (ℕ × X) → Option (ℕ × X) → List (ℕ × X) → Option X
  pushed b v k q ps o rest = cond b (cond (tied q k) (Some v) (found q ps)) (found q (before_pairs o rest))

  other_step : (o : Option (ℕ × X)) (k q : ℕ) (new e : Entry) (es : List Entry) (v : X) (b : Bool) → kind e ≡ o → kind new ≡ Some (k, v)
      → b ≡ is_tied_to o k → IsSome (cond b (Some e) (first_with (key k) es))
      → (IsSome (first_with (key k) es) → found q (pairs kind (with_other (key k) new es)) ≡ cond (tied q k) (Some v) (found q (pairs kind es)))
      → pushed b v k q (pairs kind es) o (pairs kind (with_other (key k) new es))
      ≡ cond (tied q k) (Some v) (found q (before_pairs o (pairs kind es)))
  other_step None k q new e es v b is at t h ih = let there : IsSome (first_with (key k) es) = rw t at h in rw t (ih there)
  other_step (Some p) k q new e es v b is at t h ih =
      rw t (other_tied k q p v (pairs kind es) (found q (pairs kind (with_other (key k) new es))) (tied k p.0) refl (λ f. ih (let g : b ≡ false = t ∙ f in rw g at h)))

  push_step : (k q : ℕ) (new e : Entry) (es : List Entry) (v : X) (b : Bool) → kind new ≡ Some (k, v) → found q (pairs kind (cond b (new ∷ es) (e ∷ with_other (key k) new es))) ≡ pushed b v k q (pairs kind es) (kind e) (pairs kind (with_other (key k) new es))
  push_step k q new e es v true at = ap (λ o. found q (before_pairs o (pairs kind es))) at
  push_step k q new e es v false at = refl

  pub found_other : (k q : ℕ) (new : Entry) (es : List Entry) (v : X) → kind new ≡ Some (k, v) → IsSome (first_with (key k) es) → found q (pairs kind (with_other (key k) new es)) ≡ cond (tied q k) (Some v) (found q (pairs kind es))
  found_other k q new [] v at h = absurd (true_not_false true refl (sym h))
  found_other k q new (e ∷ es) v at h =
      push_step k q new e es v (has_key (key k) e) at
      ∙ other_step (kind e) k q new e es v (has_key (key k) e) refl at (K.finds k e) h (found_other k q new es v at)

  gone_tied : (k q : ℕ) (p : ℕ × X) (ps : List (ℕ × X)) (s : Option X) (b : Bool) → tied k p.0 ≡ b → (b ≡ true → found k ps ≡ None)
      → (b ≡ false → s ≡ cond (tied q k) None (found q ps))
      → cond b (found q ps) (cond (tied q p.0) (Some p.1) s) ≡ cond (tied q k) None (cond (tied q p.0) (Some p.1) (found q ps))
  gone_tied k q p ps s true e n h =
      left (tied q k) (tied q p.0) p.1 (found q ps) (ap (tied q) (sym (tied_same k p.0 e))) (λ t. ap (λ x. found x ps) (tied_same q k t) ∙ n refl)
  gone_tied k q p ps s false e n h =
      ap (cond (tied q p.0) (Some p.1)) (h refl)
      ∙ swapped (tied q p.0) (tied q k) p.1 None (found q ps) (λ x y. true_not_false (tied k p.0) (ap (λ z. tied z p.0) (sym (tied_same q k y)) ∙ x) e)

  gone_step : (o : Option (ℕ × X)) (k q : ℕ) (e : Entry) (es : List Entry) (b : Bool) → kind e ≡ o → b ≡ is_tied_to o k → first_with (key_of e) es ≡ None
      → found q (pairs kind (without_first (key k) es)) ≡ cond (tied q k) None (found q (pairs kind es))
      → cond b (found q (pairs kind es)) (found q (before_pairs o (pairs kind (without_first (key k) es))))
      ≡ cond (tied q k) None (found q (before_pairs o (pairs kind es)))
  gone_step None k q e es b is t n ih = rw t ih
  gone_step (Some p) k q e es b is t n ih =
      rw t (gone_tied k q p (pairs kind es) (found q (pairs kind (without_first (key k) es))) (tied k p.0) refl
      (λ same. found_value k es ∙ ap (λ j. value_of kind (first_with j es)) (ap key (tied_same k p.0 same) ∙ sym (K.keyed e p is)) ∙ ap (value_of kind) n)
      (λ _. ih))

  pull_step : (k q : ℕ) (e : Entry) (es : List Entry) (b : Bool) → found q (pairs kind (cond b es (e ∷ without_first (key k) es))) ≡ cond b (found q (pairs kind es)) (found q (before_pairs (kind e) (pairs kind (without_first (key k) es))))
  pull_step k q e es true = refl
  pull_step k q e es false = refl

  pub found_without : (k q : ℕ) (es : List Entry) → HasEachOnce es → found q (pairs kind (without_first (key k) es)) ≡ cond (tied q k) None (found q (pairs kind es))
  found_without k q [] o = none_cond (tied q k)
  found_without k q (e ∷ es) o =
      pull_step k q e es (has_key (key k) e)
      ∙ gone_step (kind e) k q e es (has_key (key k) e) refl (K.finds k e) o.0 (found_without k q es o.1)

-- ---- the entries of the other kind stay
module _ {X : Type 0} (kind : Entry → Option (ℕ × X)) (j : Key) (skips : (e : Entry) → has_key j e ≡ true → kind e ≡ None) where
  stay_other_step : (new e : Entry) (es : List Entry) (b : Bool) → has_key j e ≡ b → kind new ≡ None → pairs kind (with_other j new es) ≡ pairs kind es → pairs kind (cond b (new ∷ es) (e ∷ with_other j new es)) ≡ before_pairs (kind e) (pairs kind es)
  stay_other_step new e es true t at ih = ap (λ o. before_pairs o (pairs kind es)) (at ∙ sym (skips e t))
  stay_other_step new e es false t at ih = ap (before_pairs (kind e)) ih

  pub stay_other : (new : Entry) (es : List Entry) → kind new ≡ None → pairs kind (with_other j new es) ≡ pairs kind es
  stay_other new [] at = refl
  stay_other new (e ∷ es) at = stay_other_step new e es (has_key j e) refl at (stay_other new es at)

  stay_without_step : (e : Entry) (es : List Entry) (b : Bool) → has_key j e ≡ b → pairs kind (without_first j es) ≡ pairs kind es → pairs kind (cond b es (e ∷ without_first j es)) ≡ before_pairs (kind e) (pairs kind es)
  stay_without_step e es true t ih = ap (λ o. before_pairs o (pairs kind es)) (sym (skips e t))
  stay_without_step e es false t ih = ap (before_pairs (kind e)) ih

  pub stay_without : (es : List Entry) → pairs kind (without_first j es) ≡ pairs kind es
  stay_without [] = refl
  stay_without (e ∷ es) = stay_without_step e es (has_key j e) refl (stay_without es)

pub all_stay : {X : Type 0} (kind : Entry → Option (ℕ × X)) (cs : List (List Entry)) (b : ℕ) (es : List Entry) → pairs kind es ≡ pairs kind (get_or cs b []) → all_pairs kind (set cs b es) ≡ all_pairs kind cs
all_stay kind [] b es h = refl
all_stay kind (c ∷ cs) zero es h = ap (λ ps. ps ++ all_pairs kind cs) h
all_stay kind (c ∷ cs) (suc b) es h = ap (λ ps. pairs kind c ++ ps) (all_stay kind cs b es h)

-- ---- what holds of each chain
each_step : (P : ℕ → List Entry → Type 0) (cs : List (List Entry)) (b : ℕ) (es : List Entry) → ((i : ℕ) → P i (get_or cs i [])) → P b es → b < length cs → (i : ℕ) (t : Bool) → eqb i b ≡ t → P i (get_or (set cs b es) i [])
each_step P cs b es all new l i true e =
    let is : i ≡ b = eqb-true i b e in
    subst (λ x. P x (get_or (set cs b es) x [])) (sym is) (subst (P b) (sym (get_or-set_same cs b es [] l)) new)
each_step P cs b es all new l i false e = subst (P i) (sym (get_or-set_other cs b i es [] (eqb-false i b e))) (all i)

pub each_set : (P : ℕ → List Entry → Type 0) (cs : List (List Entry)) (b : ℕ) (es : List Entry) → ((i : ℕ) → P i (get_or cs i [])) → P b es → b < length cs → (i : ℕ) → P i (get_or (set cs b es) i [])
each_set P cs b es all new l i = each_step P cs b es all new l i (eqb i b) refl

-- ---- what a search of a chain found of a shared frame
value_of_head : (h : ℕ) (e : Entry) (r : Option Entry) (m f : ℕ) (b : Bool) → has_key (keys.Shared h) e ≡ b
    → shared_parts (cond b (Some e) r) ≡ Some (m, f)
    → (shared_parts r ≡ Some (m, f) → Some (record { hash = h; mpn = m; field = f }) ≡ value_of shared_of r)
    → Some (record { hash = h; mpn = m; field = f }) ≡ value_of shared_of (cond b (Some e) r)
value_of_head h (Shared x n c) r m f true t is ih =
    let parts : (n, c) ≡ (m, f) = same_Some _ _ is in
    rw (same_number h x t, ← ap (λ (p : ℕ × ℕ). p.0) parts, ← ap (λ (p : ℕ × ℕ). p.1) parts) refl
value_of_head h (Hint k g n p) r m f true t is ih = absurd (cc)
value_of_head h e r m f false t is ih = ih is

pub shared_value : (h : ℕ) (es : List Entry) (m f : ℕ) → shared_parts (first_with (keys.Shared h) es) ≡ Some (m, f) → Some (record { hash = h; mpn = m; field = f }) ≡ value_of shared_of (first_with (keys.Shared h) es)
shared_value h [] m f is = absurd (cc)
shared_value h (e ∷ es) m f is = value_of_head h e (first_with (keys.Shared h) es) m f (has_key (keys.Shared h) e) refl is (shared_value h es m f)
