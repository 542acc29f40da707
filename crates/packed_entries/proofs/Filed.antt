-- Chains of places as chains of entries.
use Rattle.std.proofs.Common.{◌≡◌, ℕ, ◌+◌, ◌-◌, ◌<◌, ◌≤◌, ◌≢◌, Bool, true, false, cond, eqb, List, [], ◌∷◌, length, get_or, map, Option, Some, None, IsSome, sym, refl, ap, ◌∙◌, arith, rules, replicate, subst}
use Prim.Native.Nat.{zero, suc}
use Rattle.std.proofs.Math.ListN.{set}
use Rattle.std.specs.Option.{option_map}
use Rattle.std.proofs.lemmas.List.{get_or-set_same, get_or-set_other, set-get_or, length-map, length-set, length-replicate}
use Rattle.std.proofs.lemmas.Bool.{eqb-true, eqb-false, ne_eqb}
use Rattle.std.proofs.lemmas.Option.{same_Some}
use Rattle.packed_entries.specs.declared.entry.Entry.{Entry}
use Rattle.packed_entries.specs.declared.key.Key.{Key}
use Rattle.packed_entries.specs.Places.{no_entry}
use Rattle.packed_entries.specs.Keys.{has_key, first_with, with_other, without_first}
use Rattle.packed_entries.specs.Linked.{times, times_in, lengths, without, first_of, Chained, entry_at, chain_at, with_place, without_place, with_entry_at, no_chains, used}
use Rattle.packed_entries.specs.declared.entry.Entry.TheVariants.{Shared}
use Rattle.packed_entries.specs.Entries.{EntryChains, entries_in, entry_count, empty_chains, filed, chain_of, with_chain, counted_up, counted_down}
use Rattle.packed_entries.proofs.Threaded.{times_head, times_more, times_in-set, times_at, first_there}

-- ---- one chain
pub map_kept : (f g : ℕ → Entry) (ps : List ℕ) → ((q : ℕ) → 1 ≤ times q ps → g q ≡ f q) → map g ps ≡ map f ps
map_kept f g [] same = refl
map_kept f g (p ∷ ps) same =
    rw (same p (omega (arith, times_head p ps)), map_kept f g ps (λ q h. same q (omega (arith, times_more q p ps)))) refl

first_step : (f : ℕ → Entry) (p : ℕ) (b : Bool) (r : Option Entry) (s : Option ℕ) → r ≡ option_map f s → cond b (Some (f p)) r ≡ option_map f (cond b (Some p) s)
first_step f p true r s h = refl
first_step f p false r s h = h

-- the first entry is that of the first place
pub first_entry : (k : Key) (f : ℕ → Entry) (ps : List ℕ) → first_with k (map f ps) ≡ option_map f (first_of (λ p. has_key k (f p)) ps)
first_entry k f [] = refl
first_entry k f (p ∷ ps) = first_step f p (has_key k (f p)) (first_with k (map f ps)) (first_of (λ p. has_key k (f p)) ps) (first_entry k f ps)

not_there : (p q r : ℕ) (qs : List ℕ) → times p (q ∷ qs) ≤ 1 → q ≡ p → 1 ≤ times r qs → r ≡ p → ⊥
not_there p q r qs once is m i =
    let here : 1 ≤ times p qs = subst (λ x. 1 ≤ times x qs) i m in
    let two : times p (p ∷ qs) ≤ 1 = subst (λ x. times p (x ∷ qs) ≤ 1) is once in
    omega (arith, here, two, times_head p qs)

twice : (p q : ℕ) (qs : List ℕ) → times p (q ∷ qs) ≤ 1 → q ≡ p → 1 ≤ times p qs → ⊥
twice p q qs once is m = not_there p q p qs once is m refl

other_step : (k : Key) (f g : ℕ → Entry) (p q : ℕ) (e : Entry) (qs : List ℕ) (b : Bool) → g p ≡ e → ((r : ℕ) → r ≢ p → g r ≡ f r)
    → times p (q ∷ qs) ≤ 1 → has_key k (f q) ≡ b → cond b (Some q) (first_of (λ r. has_key k (f r)) qs) ≡ Some p
    → (first_of (λ r. has_key k (f r)) qs ≡ Some p → map g qs ≡ with_other k e (map f qs))
    → g q ∷ map g qs ≡ cond b (e ∷ map f qs) (f q ∷ with_other k e (map f qs))
other_step k f g p q e qs true at same once t h ih =
    let is : q ≡ p = same_Some q p h in
    let rest : map g qs ≡ map f qs = map_kept f g qs (λ r m. same r (λ i. not_there p q r qs once is m i)) in
    rw (is, at, rest) refl
other_step k f g p q e qs false at same once t h ih =
    let there : 1 ≤ times p qs = first_there (λ r. has_key k (f r)) p qs h in
    rw (same q (λ i. twice p q qs once i there), ih h) refl

-- an entry is written at the first place that the key finds
pub map_other : (k : Key) (f g : ℕ → Entry) (p : ℕ) (e : Entry) (ps : List ℕ) → g p ≡ e → ((q : ℕ) → q ≢ p → g q ≡ f q) → times p ps ≤ 1 → first_of (λ q. has_key k (f q)) ps ≡ Some p → map g ps ≡ with_other k e (map f ps)
map_other k f g p e [] at same once h = absurd (cc)
map_other k f g p e (q ∷ qs) at same once h =
    other_step k f g p q e qs (has_key k (f q)) at same once refl h (map_other k f g p e qs at same (omega (arith, once, times_more p q qs)))

true_is_false : true ≡ false → ⊥
true_is_false h = cc

gone_step : (k : Key) (f : ℕ → Entry) (p q : ℕ) (qs : List ℕ) (b c : Bool) → eqb p q ≡ c → has_key k (f q) ≡ b → (q ≡ p → b ≡ true)
    → cond b (Some q) (first_of (λ r. has_key k (f r)) qs) ≡ Some p
    → (first_of (λ r. has_key k (f r)) qs ≡ Some p → map f (without p qs) ≡ without_first k (map f qs))
    → map f (cond c qs (q ∷ without p qs)) ≡ cond b (map f qs) (f q ∷ without_first k (map f qs))
gone_step k f p q qs true true e t all h ih = refl
gone_step k f p q qs true false e t all h ih = absurd (eqb-false p q e (sym (same_Some q p h)))
gone_step k f p q qs false true e t all h ih = absurd (true_is_false (sym (all (sym (eqb-true p q e)))))
gone_step k f p q qs false false e t all h ih = ap (λ es. f q ∷ es) (ih h)

found_tells_step : (test : ℕ → Bool) (p q : ℕ) (qs : List ℕ) (b : Bool) → test q ≡ b → cond b (Some q) (first_of test qs) ≡ Some p → (first_of test qs ≡ Some p → test p ≡ true) → test p ≡ true
found_tells_step test p q qs true e h ih = ap test (sym (same_Some q p h)) ∙ e
found_tells_step test p q qs false e h ih = ih h

found_tells : (test : ℕ → Bool) (p : ℕ) (ps : List ℕ) → first_of test ps ≡ Some p → test p ≡ true
found_tells test p [] h = absurd (cc)
found_tells test p (q ∷ qs) h = found_tells_step test p q qs (test q) refl h (found_tells test p qs)

-- the first place that the key finds is taken out
pub map_gone : (k : Key) (f : ℕ → Entry) (p : ℕ) (ps : List ℕ) → first_of (λ q. has_key k (f q)) ps ≡ Some p → map f (without p ps) ≡ without_first k (map f ps)
map_gone k f p [] h = absurd (cc)
map_gone k f p (q ∷ qs) h =
    gone_step k f p q qs (has_key k (f q)) (eqb p q) refl refl (λ i. ap (λ r. has_key k (f r)) i ∙ found_tells (λ r. has_key k (f r)) p (q ∷ qs) h) h (map_gone k f p qs)

-- ---- all chains
pub maps_kept : (f g : ℕ → Entry) (cs : List (List ℕ)) → ((q : ℕ) → 1 ≤ times_in q cs → g q ≡ f q) → map (map g) cs ≡ map (map f) cs
maps_kept f g [] same = refl
maps_kept f g (c ∷ cs) same = rw (map_kept f g c (λ q h. same q (omega arith)), maps_kept f g cs (λ q h. same q (omega arith))) refl

pub maps_set : (f g : ℕ → Entry) (cs : List (List ℕ)) (b : ℕ) (ps : List ℕ) → ((q : ℕ) → 1 ≤ times_in q (set cs b []) → g q ≡ f q) → map (map g) (set cs b ps) ≡ set (map (map f) cs) b (map g ps)
maps_set f g [] b ps same = refl
maps_set f g (c ∷ cs) zero ps same = rw (maps_kept f g cs (λ q h. same q (omega arith))) refl
maps_set f g (c ∷ cs) (suc b) ps same = rw (map_kept f g c (λ q h. same q (omega arith)), maps_set f g cs b ps (λ q h. same q (omega arith))) refl

pub chain_at_map : (f : ℕ → Entry) (cs : List (List ℕ)) (b : ℕ) → get_or (map (map f) cs) b [] ≡ map f (get_or cs b [])
chain_at_map f [] b = refl
chain_at_map f (c ∷ cs) zero = refl
chain_at_map f (c ∷ cs) (suc b) = chain_at_map f cs b

pub entries_are : (f : ℕ → Entry) (cs : List (List ℕ)) → entries_in (map (map f) cs) ≡ lengths cs
entries_are f [] = refl
entries_are f (c ∷ cs) = omega (arith, length-map c f, entries_are f cs)

-- a place that stands in no chain, or in this bucket's alone, isn't in the others
missed : (cs : List (List ℕ)) (b p q : ℕ) → b < length cs → times_in p cs ≤ times p (get_or cs b []) → 1 ≤ times_in q (set cs b []) → q ≢ p
missed cs b p q l h m e =
    let there : 1 ≤ times_in p (set cs b []) = subst (λ x. 1 ≤ times_in x (set cs b [])) e m in
    omega (arith, there, times_in-set p cs b [] l)

once_in : (ps : List ℕ) (p q : ℕ) → times p ps ≡ 0 → 1 ≤ times q ps → q ≢ p
once_in ps p q h m e = let there : 1 ≤ times p ps = subst (λ x. 1 ≤ times x ps) e m in omega arith

abbrev pub at_bucket : EntryChains → ℕ → List Entry → EntryChains
at_bucket t b es = record t { chains = set t.chains b es }

pub length_filed : (c : Chained) → length (filed c).chains ≡ length c.chains
length_filed c = length-map c.chains (map (entry_at c))

pub entry_count_is : (c : Chained) → entry_count (filed c) ≡ used c
entry_count_is c = entries_are (entry_at c) c.chains

pub chain_is : (c : Chained) (b : ℕ) → get_or (filed c).chains b [] ≡ map (entry_at c) (chain_at c b)
chain_is c b = chain_at_map (entry_at c) c.chains b

-- what a search for a place found
pub searched : (c : Chained) (b : ℕ) (k : Key) (o : Option ℕ) → o ≡ first_of (λ p. has_key k (entry_at c p)) (chain_at c b) → first_with k (get_or (filed c).chains b []) ≡ option_map (entry_at c) o
searched c b k o e = ap (first_with k) (chain_is c b) ∙ first_entry k (entry_at c) (chain_at c b) ∙ ap (option_map (entry_at c)) (sym e)

same_chains : (capacity capacity' : ℕ) (cs cs' : List (List Entry)) → capacity' ≡ capacity → cs' ≡ cs → ◌≡◌ {A = EntryChains} (record { capacity = capacity'; chains = cs' }) (record { capacity = capacity; chains = cs })
same_chains capacity capacity' cs cs' e f = rw (e, f) refl

module _ (c : Chained) (b p : ℕ) (l : b < length c.chains) where
  pub added : (e : Entry) → times_in p c.chains ≡ 0 → p < length c.entries → filed (with_place c b p e) ≡ at_bucket (filed c) b (e ∷ get_or (filed c).chains b [])
  added e none within =
      let f : ℕ → Entry = entry_at c in
      let g : ℕ → Entry = entry_at (with_place c b p e) in
      let same : (q : ℕ) → q ≢ p → g q ≡ f q = λ q ne. get_or-set_other c.entries p q e no_entry ne in
      let head : g p ≡ e = get_or-set_same c.entries p e no_entry within in
      let rest : map g (chain_at c b) ≡ map f (chain_at c b) = map_kept f g (chain_at c b) (λ q m. same q (once_in (chain_at c b) p q (omega (arith, none, times_at p c.chains b)) m)) in
      let all : map (map g) (set c.chains b (p ∷ chain_at c b)) ≡ set (map (map f) c.chains) b (g p ∷ map g (chain_at c b)) = maps_set f g c.chains b (p ∷ chain_at c b) (λ q m. same q (missed c.chains b p q l (omega arith) m)) in
      let chain : g p ∷ map g (chain_at c b) ≡ e ∷ get_or (map (map f) c.chains) b [] = rw (head, rest, chain_at_map f c.chains b) refl in
      same_chains _ _ _ _ (length-set c.entries p e) (all ∙ ap (set (map (map f) c.chains) b) chain)

  module _ (k : Key) (found : first_of (λ q. has_key k (entry_at c q)) (chain_at c b) ≡ Some p) (once : times_in p c.chains ≡ 1) where
    there : 1 ≤ times p (chain_at c b)
    there = first_there (λ q. has_key k (entry_at c q)) p (chain_at c b) found

    pub is_there : 1 ≤ times p (chain_at c b)
    is_there = there

    pub replaced_entry : (e : Entry) → p < length c.entries → filed (with_entry_at c p e) ≡ at_bucket (filed c) b (with_other k e (get_or (filed c).chains b []))
    replaced_entry e within =
        let f : ℕ → Entry = entry_at c in
        let g : ℕ → Entry = entry_at (with_entry_at c p e) in
        let same : (q : ℕ) → q ≢ p → g q ≡ f q = λ q ne. get_or-set_other c.entries p q e no_entry ne in
        let head : g p ≡ e = get_or-set_same c.entries p e no_entry within in
        let back : map (map g) (set c.chains b (chain_at c b)) ≡ map (map g) c.chains = ap (map (map g)) (set-get_or c.chains b []) in
        let all : map (map g) (set c.chains b (chain_at c b)) ≡ set (map (map f) c.chains) b (map g (chain_at c b)) = maps_set f g c.chains b (chain_at c b) (λ q m. same q (missed c.chains b p q l (omega (arith, once, there)) m)) in
        let chain : map g (chain_at c b) ≡ with_other k e (map f (chain_at c b)) = map_other k f g p e (chain_at c b) head same (omega (arith, once, times_at p c.chains b)) found in
        same_chains _ _ _ _ (length-set c.entries p e) (sym back ∙ all ∙ ap (set (map (map f) c.chains) b) (chain ∙ ap (with_other k e) (sym (chain_at_map f c.chains b))))

    pub removed_entry : filed (without_place c b p) ≡ at_bucket (filed c) b (without_first k (get_or (filed c).chains b []))
    removed_entry =
        let f : ℕ → Entry = entry_at c in
        let all : map (map f) (set c.chains b (without p (chain_at c b))) ≡ set (map (map f) c.chains) b (map f (without p (chain_at c b))) = maps_set f f c.chains b (without p (chain_at c b)) (λ q m. refl) in
        let chain : map f (without p (chain_at c b)) ≡ without_first k (map f (chain_at c b)) = map_gone k f p (chain_at c b) found in
        same_chains _ _ _ _ refl (all ∙ ap (set (map (map f) c.chains) b) (chain ∙ ap (without_first k) (sym (chain_at_map f c.chains b))))

-- no chains
none_map : (f : ℕ → Entry) (n : ℕ) → map (map f) (replicate n []) ≡ replicate n []
none_map f zero = refl
none_map f (suc n) = ap (λ cs. [] ∷ cs) (none_map f n)

pub some_of : {A B : Type 0} (f : A → B) (o : Option A) → IsSome (option_map f o) → IsSome o
some_of f None h = h
some_of f (Some x) h = search rules

-- a key that finds an entry has a place
pub place_found : (c : Chained) (b : ℕ) (k : Key) (o : Option ℕ) → o ≡ first_of (λ p. has_key k (entry_at c p)) (chain_at c b) → IsSome (first_with k (get_or (filed c).chains b [])) → IsSome o
place_found c b k o e h = some_of (entry_at c) o (rw (searched c b k o e) at h)

pub none_filed : (buckets capacity : ℕ) → filed (no_chains buckets capacity) ≡ empty_chains buckets capacity
none_filed buckets capacity = same_chains _ _ _ _ (length-replicate capacity no_entry) (none_map (entry_at (no_chains buckets capacity)) buckets)

-- ---- one page more or less

module _ (t : EntryChains) (key : Key) (h m n : ℕ) where
  pub up_is : n ≢ 0 → n ≢ 65535 → counted_up t key (Some (Shared h m n)) ≡ with_chain t key (with_other key (Shared h m (n + 1)) (chain_of t key))
  up_is some room = rw (ne_eqb n 0 some, ne_eqb n 65535 room) refl

  pub up_stays : n ≡ 65535 → counted_up t key (Some (Shared h m n)) ≡ t
  up_stays full = rw full refl

  pub down_is : n ≢ 0 → n ≢ 1 → counted_down t key (Some (Shared h m n)) ≡ with_chain t key (with_other key (Shared h m (n - 1)) (chain_of t key))
  down_is some more = rw (ne_eqb n 0 some, ne_eqb n 1 more) refl
