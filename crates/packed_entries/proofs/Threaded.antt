-- What a change of the links does to the lists that are threaded through them. `next` is any function,
-- so that the links may lie in a list of their own or inside of larger places.
use Rattle.std.proofs.Common.{◌≡◌, ℕ, ◌+◌, ◌-◌, ◌<◌, ◌≤◌, ◌≢◌, Bool, true, false, cond, eqb, nat_lt, List, [], ◌∷◌, length, get_or, map, Some, None, sym, refl, ap, ◌∙◌, arith, subst, add-one, replicate, drop, take, ◌++◌}
use Prim.Native.Nat.{suc, zero}
use Rattle.std.proofs.Math.ListN.{set}
use Rattle.std.proofs.lemmas.Bool.Decides.{nat_tests}
use Rattle.std.proofs.lemmas.List.{set-get_or, length-set, get_or-set_same, get_or-set_other, length-map, map-set, get_or-map}
use Rattle.std.proofs.Math.Seq.{map-set_same}
use Rattle.std.proofs.lemmas.Option.{same_Some}
use Rattle.std.proofs.lemmas.Bool.{ne_eqb, eqb-true, eqb-false}
use Rattle.packed_entries.specs.declared.entry.Entry.{Entry}
use Rattle.packed_entries.specs.declared.packed.Packed.{Packed}
use Rattle.packed_entries.specs.Places.{link_of, entry_of, no_entry, with_link, with_entry}
use Rattle.packed_entries.specs.Linked.{times, times_in, lengths, without, link_before, first_of, walk, Follows, FollowAll, Linked, link_in, chains_from, IsKept, IsSearch}

-- ---- tests

pub same_is : (p : ℕ) → eqb p p ≡ true
same_is p = grind (arith, nat_tests)

below_tells : (p n k : ℕ) (b : Bool) → nat_lt p n ≡ b → k ≡ cond b 1 0 → 1 ≤ k → p < n
below_tells p n k true e h l = grind (arith, nat_tests)
below_tells p n k false e h l = absurd (omega arith)

at_most_one : (k : ℕ) (b : Bool) → k ≡ cond b 1 0 → k ≤ 1
at_most_one k true h = omega arith
at_most_one k false h = omega arith

-- ---- how often a place stands in a list
pub times_head : (p : ℕ) (ps : List ℕ) → times p (p ∷ ps) ≡ times p ps + 1
times_head p ps = rw (same_is p) (omega arith)

pub times_more : (p q : ℕ) (qs : List ℕ) → times p qs ≤ times p (q ∷ qs)
times_more p q qs = elim (eqb p q) as (λ b. times p qs ≤ cond b 1 0 + times p qs) [ true ↦ omega arith | false ↦ omega arith ]

times_rest : (p q : ℕ) (qs : List ℕ) → 1 ≤ times p (q ∷ qs) → p ≢ q → 1 ≤ times p qs
times_rest p q qs h ne = let r = rw (ne_eqb p q ne) at h in omega arith

times_length : (p : ℕ) (qs : List ℕ) → times p qs ≤ length qs
times_length p [] = omega arith
times_length p (q ∷ qs) = let ih = times_length p qs in elim (eqb p q) as (λ b. cond b 1 0 + times p qs ≤ length (q ∷ qs)) [ true ↦ omega arith | false ↦ omega arith ]

-- a place that stands behind q isn't q
not_head : (p q : ℕ) (qs : List ℕ) → times q (q ∷ qs) ≤ 1 → 1 ≤ times p qs → p ≢ q
not_head p q qs once h e =
    let P : ℕ → Type 0 = λ r. 1 ≤ times r qs in
    let more : 1 ≤ times q qs = subst P e h in
    omega (arith, times_head q qs)

without_step : (p r q : ℕ) (qs : List ℕ) (b : Bool) → eqb p q ≡ b → (p ≢ q → cond (eqb r p) 1 0 + times r (without p qs) ≡ times r qs) → cond (eqb r p) 1 0 + times r (cond b qs (q ∷ without p qs)) ≡ cond (eqb r q) 1 0 + times r qs
without_step p r q qs true e ih = ap (λ x. cond (eqb r x) 1 0 + times r qs) (eqb-true p q e)
without_step p r q qs false e ih = omega (arith, ih (eqb-false p q e))

pub times_without : (p r : ℕ) (qs : List ℕ) → 1 ≤ times p qs → cond (eqb r p) 1 0 + times r (without p qs) ≡ times r qs
times_without p r [] h = absurd (omega arith)
times_without p r (q ∷ qs) h = without_step p r q qs (eqb p q) refl (λ ne. times_without p r qs (times_rest p q qs h ne))

length_step : (p q : ℕ) (qs : List ℕ) (b : Bool) → eqb p q ≡ b → (p ≢ q → length (without p qs) + 1 ≡ length qs) → length (cond b qs (q ∷ without p qs)) + 1 ≡ length (q ∷ qs)
length_step p q qs true e ih = omega arith
length_step p q qs false e ih = omega (arith, ih (eqb-false p q e))

pub length_without : (p : ℕ) (qs : List ℕ) → 1 ≤ times p qs → length (without p qs) + 1 ≡ length qs
length_without p [] h = absurd (omega arith)
length_without p (q ∷ qs) h = length_step p q qs (eqb p q) refl (λ ne. length_without p qs (times_rest p q qs h ne))

-- the place right before p in the list q ∷ qs
abbrev pub before : ℕ → ℕ → List ℕ → ℕ
before p q [] = q
before p q (r ∷ rs) = cond (eqb p r) q (before p r rs)

code_step : (q m n : ℕ) (b : Bool) → m ≡ n + 1 → cond b (q + 1) m ≡ cond b q n + 1
code_step q m n true e = refl
code_step q m n false e = e

code_of_before : (p q : ℕ) (rs : List ℕ) → link_before p (q + 1) rs ≡ before p q rs + 1
code_of_before p q [] = refl
code_of_before p q (r ∷ rs) = code_step q (link_before p (r + 1) rs) (before p r rs) (eqb p r) (code_of_before p r rs)

no_code_step : (p q : ℕ) (rs : List ℕ) (b : Bool) → eqb p q ≡ b → cond b 0 (link_before p (q + 1) rs) ≡ 0 → p ≡ q
no_code_step p q rs true e h = eqb-true p q e
no_code_step p q rs false e h = absurd (omega (arith, code_of_before p q rs))

-- nothing stands before the head of a list alone
no_code : (p q : ℕ) (rs : List ℕ) → link_before p 0 (q ∷ rs) ≡ 0 → p ≡ q
no_code p q rs h = no_code_step p q rs (eqb p q) refl h

some_code_step : (p q : ℕ) (rs : List ℕ) (b : Bool) → eqb p q ≡ b → cond b 0 (link_before p (q + 1) rs) ≢ 0 → (p ≢ q) × (cond b 0 (link_before p (q + 1) rs) ≡ before p q rs + 1)
some_code_step p q rs true e h = absurd (h refl)
some_code_step p q rs false e h = (eqb-false p q e, code_of_before p q rs)

some_code : (p q : ℕ) (rs : List ℕ) → link_before p 0 (q ∷ rs) ≢ 0 → (p ≢ q) × (link_before p 0 (q ∷ rs) ≡ before p q rs + 1)
some_code p q rs h = some_code_step p q rs (eqb p q) refl h

before_step : (p q r : ℕ) (rs : List ℕ) (b : Bool) → eqb p r ≡ b → (p ≢ r → 1 ≤ times (before p r rs) (r ∷ rs)) → 1 ≤ times (cond b q (before p r rs)) (q ∷ (r ∷ rs))
before_step p q r rs true e ih = omega (arith, times_head q (r ∷ rs))
before_step p q r rs false e ih = omega (arith, times_more (before p r rs) q (r ∷ rs), ih (eqb-false p r e))

-- the place before p stands in the list
pub times_before : (p q : ℕ) (rs : List ℕ) → 1 ≤ times (before p q rs) (q ∷ rs)
times_before p q [] = omega (arith, times_head q [])
times_before p q (r ∷ rs) = before_step p q r rs (eqb p r) refl (λ _. times_before p r rs)

before_other_step : (p q r : ℕ) (rs : List ℕ) (b : Bool) → eqb p r ≡ b → p ≢ q → (p ≢ r → before p r rs ≢ p) → cond b q (before p r rs) ≢ p
before_other_step p q r rs true e ne ih = λ h. ne (sym h)
before_other_step p q r rs false e ne ih = ih (eqb-false p r e)

-- the place before p isn't p
before_other : (p q : ℕ) (rs : List ℕ) → p ≢ q → before p q rs ≢ p
before_other p q [] ne = λ h. ne (sym h)
before_other p q (r ∷ rs) ne = before_other_step p q r rs (eqb p r) refl ne (before_other p r rs)

-- ---- one list
pub walk_is : (next : ℕ → ℕ) (n link : ℕ) (ps : List ℕ) → Follows next link ps → length ps ≤ n → walk next n link ≡ ps
walk_is next zero link [] f h = refl
walk_is next (suc n) link [] f h = rw f refl
walk_is next zero link (p ∷ ps) f h = absurd (omega arith)
walk_is next (suc n) link (p ∷ ps) f h = rw (f.0, add-one) (ap (λ qs. p ∷ qs) (walk_is next n (next p) ps f.1 (omega arith)))

pub length_walk : (next : ℕ → ℕ) (n link : ℕ) → length (walk next n link) ≤ n
length_walk next zero link = omega arith
length_walk next (suc n) zero = omega arith
length_walk next (suc n) (suc p) = omega (arith, length_walk next n (next p))

-- the first step of a list
pub record Steps (next : ℕ → ℕ) (n p : ℕ) (ps : List ℕ) : Type 0 where
  pub is : ps ≡ p ∷ walk next n (next p)
  pub ends : Follows next (next p) (walk next n (next p))

steps_to : (next : ℕ → ℕ) (n link p : ℕ) (ps : List ℕ) → Follows next link ps → length ps ≤ n → link ≡ p + 1 → Steps next n p ps
steps_to next n link p [] f h e = absurd (omega arith)
steps_to next n link p (q ∷ qs) f h e =
    let same : q ≡ p = omega (arith, f.0) in
    let ends : Follows next (next p) qs = rw (← same) f.1 in
    let is : walk next n (next p) ≡ qs = walk_is next n (next p) qs ends (omega arith) in
    record { is = rw (is, same) refl; ends = rw is ends }

pub steps : (next : ℕ → ℕ) (n link p : ℕ) → Follows next link (walk next n link) → link ≡ p + 1 → Steps next n p (walk next n link)
steps next n link p f e = steps_to next n link p (walk next n link) f (length_walk next n link) e

-- a list stays where no link of its places changes
pub Follows-kept : (next next' : ℕ → ℕ) (link : ℕ) (ps : List ℕ) → ((q : ℕ) → 1 ≤ times q ps → next' q ≡ next q) → Follows next link ps → Follows next' link ps
Follows-kept next next' link [] same f = f
Follows-kept next next' link (p ∷ ps) same f =
    let at : next' p ≡ next p = same p (omega (arith, times_head p ps)) in
    (f.0, rw at (Follows-kept next next' (next p) ps (λ q h. same q (omega (arith, times_more q p ps))) f.1))

-- a list without its first place
pub Follows-headless : (next next' : ℕ → ℕ) (link p : ℕ) (ps : List ℕ) → Follows next link ps → link ≡ p + 1 → ((q : ℕ) → times q ps ≤ 1) → ((q : ℕ) → q ≢ p → next' q ≡ next q) → Follows next' (next p) (without p ps)
Follows-headless next next' link p [] f e once same = absurd (omega arith)
Follows-headless next next' link p (q ∷ qs) f e once same =
    let is : q ≡ p = omega (arith, f.0) in
    let rest : without p (q ∷ qs) ≡ qs = rw (is, same_is p) refl in
    let kept = Follows-kept next next' (next q) qs (λ r h. same r (rw is at (not_head r q qs (once q) h))) f.1 in
    rw (rest, ← is) kept

cut_step : (next next' : ℕ → ℕ) (p q r : ℕ) (rs : List ℕ) (b : Bool) → eqb p r ≡ b → Follows next (next q) (r ∷ rs)
    → ((s : ℕ) → times s (q ∷ (r ∷ rs)) ≤ 1) → p ≢ q → next' (cond b q (before p r rs)) ≡ next p
    → ((s : ℕ) → s ≢ p → s ≢ cond b q (before p r rs) → next' s ≡ next s)
    → (p ≢ r → next' (before p r rs) ≡ next p → ((s : ℕ) → s ≢ p → s ≢ before p r rs → next' s ≡ next s)
    → Follows next' (next q) (without p (r ∷ rs))) → Follows next' (next' q) (cond b rs (r ∷ without p rs))
cut_step next next' p q r rs true e f once ne at same ih =
    let is : p ≡ r = eqb-true p r e in
    let kept : Follows next' (next r) rs = Follows-kept next next' (next r) rs (λ s h. same s (rw is (not_head s r rs (omega (arith, once r, times_more r q (r ∷ rs))) h)) (not_head s q (r ∷ rs) (once q) (omega (arith, times_more s r rs)))) f.1 in
    rw (at, is) kept
cut_step next next' p q r rs false e f once ne at same ih =
    let is : next' q ≡ next q = same q (λ h. ne (sym h)) (λ h. not_head (before p r rs) q (r ∷ rs) (once q) (times_before p r rs) (sym h)) in
    rw is (rw e at (ih (eqb-false p r e) at same))

-- a list without p, which isn't its first place: the place before p has the link of p
pub Follows-cut : (next next' : ℕ → ℕ) (p link q : ℕ) (qs : List ℕ) → Follows next link (q ∷ qs) → p ≢ q → 1 ≤ times p qs → ((s : ℕ) → times s (q ∷ qs) ≤ 1) → next' (before p q qs) ≡ next p → ((s : ℕ) → s ≢ p → s ≢ before p q qs → next' s ≡ next s) → Follows next' link (without p (q ∷ qs))
Follows-cut next next' p link q [] f ne h once at same = absurd (omega arith)
Follows-cut next next' p link q (r ∷ rs) f ne h once at same =
    rw (ne_eqb p q ne) (f.0, cut_step next next' p q r rs (eqb p r) refl f.1 once ne at same (λ ner at' same'. Follows-cut next next' p (next q) r rs f.1 ner (times_rest p r rs h ner) (λ s. omega (arith, once s, times_more s q (r ∷ rs))) at' same'))

-- ---- all lists
pub FollowAll-kept : (next next' : ℕ → ℕ) (heads : List ℕ) (chains : List (List ℕ)) → ((q : ℕ) → 1 ≤ times_in q chains → next' q ≡ next q) → FollowAll next heads chains → FollowAll next' heads chains
FollowAll-kept next next' [] [] same f = tt
FollowAll-kept next next' [] (c ∷ cs) same f = f
FollowAll-kept next next' (h ∷ hs) [] same f = f
FollowAll-kept next next' (h ∷ hs) (c ∷ cs) same f =
    (Follows-kept next next' h c (λ q l. same q (omega arith)) f.0, FollowAll-kept next next' hs cs (λ q l. same q (omega arith)) f.1)

pub FollowAll-set : (next next' : ℕ → ℕ) (heads : List ℕ) (chains : List (List ℕ)) (b h : ℕ) (ps : List ℕ) → ((q : ℕ) → 1 ≤ times_in q (set chains b []) → next' q ≡ next q) → Follows next' h ps → FollowAll next heads chains → FollowAll next' (set heads b h) (set chains b ps)
FollowAll-set next next' [] [] b h ps same new f = tt
FollowAll-set next next' [] (c ∷ cs) b h ps same new f = absurd f
FollowAll-set next next' (k ∷ ks) [] b h ps same new f = absurd f
FollowAll-set next next' (k ∷ ks) (c ∷ cs) zero h ps same new f = (new, FollowAll-kept next next' ks cs (λ q l. same q (omega arith)) f.1)
FollowAll-set next next' (k ∷ ks) (c ∷ cs) (suc b) h ps same new f =
    (Follows-kept next next' k c (λ q l. same q (omega arith)) f.0, FollowAll-set next next' ks cs b h ps (λ q l. same q (omega arith)) new f.1)

pub FollowAll-at : (next : ℕ → ℕ) (heads : List ℕ) (chains : List (List ℕ)) (b : ℕ) → FollowAll next heads chains → Follows next (get_or heads b 0) (get_or chains b [])
FollowAll-at next [] [] b f = refl
FollowAll-at next [] (c ∷ cs) b f = absurd f
FollowAll-at next (h ∷ hs) [] b f = absurd f
FollowAll-at next (h ∷ hs) (c ∷ cs) zero f = f.0
FollowAll-at next (h ∷ hs) (c ∷ cs) (suc b) f = FollowAll-at next hs cs b f.1

pub walks_are : (next : ℕ → ℕ) (n : ℕ) (heads : List ℕ) (chains : List (List ℕ)) → FollowAll next heads chains → lengths chains ≤ n → map (walk next n) heads ≡ chains
walks_are next n [] [] f h = refl
walks_are next n [] (c ∷ cs) f h = absurd f
walks_are next n (k ∷ ks) [] f h = absurd f
walks_are next n (k ∷ ks) (c ∷ cs) f h = rw (walk_is next n k c f.0 (omega arith), walks_are next n ks cs f.1 (omega arith)) refl

pub times_in-set : (q : ℕ) (chains : List (List ℕ)) (b : ℕ) (ps : List ℕ) → b < length chains → times_in q (set chains b ps) + times q (get_or chains b []) ≡ times_in q chains + times q ps
times_in-set q [] b ps l = absurd (omega arith)
times_in-set q (c ∷ cs) zero ps l = omega arith
times_in-set q (c ∷ cs) (suc b) ps l = omega (arith, times_in-set q cs b ps (omega arith))

pub lengths-set : (chains : List (List ℕ)) (b : ℕ) (ps : List ℕ) → b < length chains → lengths (set chains b ps) + length (get_or chains b []) ≡ lengths chains + length ps
lengths-set [] b ps l = absurd (omega arith)
lengths-set (c ∷ cs) zero ps l = omega arith
lengths-set (c ∷ cs) (suc b) ps l = omega (arith, lengths-set cs b ps (omega arith))

pub length_at : (chains : List (List ℕ)) (b : ℕ) → length (get_or chains b []) ≤ lengths chains
length_at [] b = omega arith
length_at (c ∷ cs) zero = omega arith
length_at (c ∷ cs) (suc b) = omega (arith, length_at cs b)

pub times_at : (q : ℕ) (chains : List (List ℕ)) (b : ℕ) → times q (get_or chains b []) ≤ times_in q chains
times_at q [] b = omega arith
times_at q (c ∷ cs) zero = omega arith
times_at q (c ∷ cs) (suc b) = omega (arith, times_at q cs b)

-- ---- the whole
pub in_range : (next : ℕ → ℕ) (cap free : ℕ) (heads spare : List ℕ) (chains : List (List ℕ)) → Linked next cap free heads spare chains → (p : ℕ) → 1 ≤ times p spare + times_in p chains → p < cap
in_range next cap free heads spare chains L p h = below_tells p cap _ (nat_lt p cap) refl (L.each_once p) h

pub once_each : (next : ℕ → ℕ) (cap free : ℕ) (heads spare : List ℕ) (chains : List (List ℕ)) → Linked next cap free heads spare chains → (p : ℕ) → times p spare + times_in p chains ≤ 1
once_each next cap free heads spare chains L p = at_most_one _ (nat_lt p cap) (L.each_once p)

-- one bucket's chain and the spare places are others; the links of all other places stay
pub replaced : (next next' : ℕ → ℕ) (cap free free' : ℕ) (heads spare spare' : List ℕ) (chains : List (List ℕ)) (b h : ℕ) (ps : List ℕ)
    → Linked next cap free heads spare chains → b < length chains
    → ((q : ℕ) → times q spare ≡ 0 → times q (get_or chains b []) ≡ 0 → next' q ≡ next q) → Follows next' free' spare' → Follows next' h ps
    → ((q : ℕ) → times q spare' + times q ps ≡ times q spare + times q (get_or chains b []))
    → length spare' + length ps ≡ length spare + length (get_or chains b []) → Linked next' cap free' (set heads b h) spare' (set chains b ps)
replaced next next' cap free free' heads spare spare' chains b h ps L l same new_spare new counts len = record {
  spare_ends = new_spare;
  chains_end = FollowAll-set next next' heads chains b h ps
      (λ q m. same q (omega (arith, once_each next cap free heads spare chains L q, times_in-set q chains b [] l)) (omega (arith, once_each next cap free heads spare chains L q, times_in-set q chains b [] l)))
      new L.chains_end;
  each_once = λ q. let e : times q spare' + times_in q (set chains b ps) ≡ times q spare + times_in q chains = omega (arith, counts q, times_in-set q chains b ps l) in e ∙ L.each_once q;
  all_placed = omega (arith, len, lengths-set chains b ps l, L.all_placed);
}

pub settled : (next : ℕ → ℕ) (cap free : ℕ) (heads spare : List ℕ) (chains : List (List ℕ)) → Linked next cap free heads spare chains → Linked next cap free heads (walk next cap free) (map (walk next cap) heads)
settled next cap free heads spare chains L =
    rw (walk_is next cap free spare L.spare_ends (omega (arith, L.all_placed)), walks_are next cap heads chains L.chains_end (omega (arith, L.all_placed))) L

pub settled_chains : (next : ℕ → ℕ) (cap free : ℕ) (heads spare : List ℕ) (chains : List (List ℕ)) → Linked next cap free heads spare chains → map (walk next cap) heads ≡ chains
settled_chains next cap free heads spare chains L = walks_are next cap heads chains L.chains_end (omega (arith, L.all_placed))

-- a chain from its head
pub chain_ends : (next : ℕ → ℕ) (cap free : ℕ) (heads spare : List ℕ) (chains : List (List ℕ)) (b : ℕ) → Linked next cap free heads spare chains → Follows next (get_or heads b 0) (get_or chains b [])
chain_ends next cap free heads spare chains b L = FollowAll-at next heads chains b L.chains_end

pub chain_is : (next : ℕ → ℕ) (cap free : ℕ) (heads spare : List ℕ) (chains : List (List ℕ)) (b : ℕ) → Linked next cap free heads spare chains → walk next cap (get_or heads b 0) ≡ get_or chains b []
chain_is next cap free heads spare chains b L = walk_is next cap _ _ (chain_ends next cap free heads spare chains b L) (omega (arith, L.all_placed, length_at chains b))

pub chain_once : (next : ℕ → ℕ) (cap free : ℕ) (heads spare : List ℕ) (chains : List (List ℕ)) (b : ℕ) → Linked next cap free heads spare chains → (q : ℕ) → times q spare + times q (get_or chains b []) ≤ 1
chain_once next cap free heads spare chains b L q = omega (arith, once_each next cap free heads spare chains L q, times_at q chains b)

pub chain_within : (next : ℕ → ℕ) (cap free : ℕ) (heads spare : List ℕ) (chains : List (List ℕ)) (b : ℕ) → Linked next cap free heads spare chains → (q : ℕ) → 1 ≤ times q (get_or chains b []) → q < cap
chain_within next cap free heads spare chains b L q h = in_range next cap free heads spare chains L q (omega (arith, times_at q chains b))

-- the first spare place
pub spare_place : (next : ℕ → ℕ) (cap free : ℕ) (heads spare : List ℕ) (chains : List (List ℕ)) → Linked next cap free heads spare chains → lengths chains < cap → (1 ≤ free) × (free ≤ cap) × (times_in (free - 1) chains ≡ 0)
spare_place next cap free heads [] chains L room = absurd (omega (arith, L.all_placed))
spare_place next cap free heads (q ∷ qs) chains L room =
    let is : free ≡ q + 1 = L.spare_ends.0 in
    let same : free - 1 ≡ q = omega arith in
    let below : q < cap = in_range next cap free heads (q ∷ qs) chains L q (omega (arith, times_head q qs)) in
    let none : times_in q chains ≡ 0 = omega (arith, once_each next cap free heads (q ∷ qs) chains L q, times_head q qs) in
    (omega arith, omega arith, rw same none)

pub spare_some : (next : ℕ → ℕ) (cap free : ℕ) (heads spare : List ℕ) (chains : List (List ℕ)) → Linked next cap free heads spare chains → free ≢ 0 → lengths chains < cap
spare_some next cap free heads [] chains L ne = absurd (ne L.spare_ends)
spare_some next cap free heads (q ∷ qs) chains L ne = omega (arith, L.all_placed)

-- the first spare place is put at the head of a chain
pub added : (next next' : ℕ → ℕ) (cap free : ℕ) (heads spare : List ℕ) (chains : List (List ℕ)) (b p : ℕ) → Linked next cap free heads spare chains
    → b < length chains → free ≡ p + 1 → next' p ≡ get_or heads b 0 → ((q : ℕ) → q ≢ p → next' q ≡ next q)
    → Linked next' cap (next p) (set heads b (p + 1)) (drop 1 spare) (set chains b (p ∷ get_or chains b []))
added next next' cap free heads [] chains b p L l e at same = absurd (omega (arith, L.spare_ends))
added next next' cap free heads (r ∷ qs) chains b p L l e at same =
    let is : r ≡ p = omega (arith, L.spare_ends.0) in
    let once : (q : ℕ) → times q (r ∷ qs) + times q (get_or chains b []) ≤ 1 = chain_once next cap free heads (r ∷ qs) chains b L in
    replaced next next' cap free (next p) heads (r ∷ qs) qs chains b (p + 1) (p ∷ get_or chains b []) L l
    (λ q s c. same q (λ h. let P : ℕ → Type 0 = λ x. times x (r ∷ qs) ≡ 0 in let z : times r (r ∷ qs) ≡ 0 = subst P (h ∙ sym is) s in omega (arith, times_head r qs)))
    (rw (← is) (Follows-kept next next' (next r) qs (λ q h. same q (rw is at (not_head q r qs (omega (arith, once r)) h))) L.spare_ends.1))
    (refl, rw at (Follows-kept next next' _ _ (λ q h. same q (λ g. let P : ℕ → Type 0 = λ x. 1 ≤ times x (get_or chains b []) in let z : 1 ≤ times r (get_or chains b []) = subst P (g ∙ sym is) h in omega (arith, once r, times_head r qs))) (chain_ends next cap free heads (r ∷ qs) chains b L)))
    (λ q. rw is (omega arith))
    (omega arith)

-- p is in no list of spare places, as it stands in a chain
spare_kept : (next next' : ℕ → ℕ) (cap free : ℕ) (heads spare : List ℕ) (chains : List (List ℕ)) (b p : ℕ) → Linked next cap free heads spare chains → next' p ≡ free → ((q : ℕ) → times q (get_or chains b []) ≡ 0 → next' q ≡ next q) → Follows next' (p + 1) (p ∷ spare)
spare_kept next next' cap free heads spare chains b p L at same =
    (refl, rw at (Follows-kept next next' free spare (λ q h. same q (omega (arith, chain_once next cap free heads spare chains b L q))) L.spare_ends))

in_list : (p q : ℕ) (ps : List ℕ) → 1 ≤ times p ps → times q ps ≡ 0 → q ≢ p
in_list p q ps h n e = let P : ℕ → Type 0 = λ x. times x ps ≡ 0 in let z : times p ps ≡ 0 = subst P e n in omega arith

-- the head of a chain is freed
pub freed_head : (next next' : ℕ → ℕ) (cap free : ℕ) (heads spare : List ℕ) (chains : List (List ℕ)) (b p : ℕ)
    → Linked next cap free heads spare chains → b < length chains → get_or heads b 0 ≡ p + 1 → 1 ≤ times p (get_or chains b []) → next' p ≡ free
    → ((q : ℕ) → q ≢ p → next' q ≡ next q)
    → Linked next' cap (p + 1) (set heads b (next p)) (p ∷ spare) (set chains b (without p (get_or chains b [])))
freed_head next next' cap free heads spare chains b p L l e there at same =
    replaced next next' cap free (p + 1) heads spare (p ∷ spare) chains b (next p) (without p (get_or chains b [])) L l
    (λ q s c. same q (in_list p q _ there c))
    (spare_kept next next' cap free heads spare chains b p L at (λ q c. same q (in_list p q _ there c)))
    (Follows-headless next next' _ p _ (chain_ends next cap free heads spare chains b L) e (λ q. omega (arith, chain_once next cap free heads spare chains b L q)) same)
    (λ q. omega (arith, times_without p q (get_or chains b []) there))
    (omega (arith, length_without p (get_or chains b []) there))

-- another place of a chain is freed
pub freed_inner : (next next' : ℕ → ℕ) (cap free : ℕ) (heads spare : List ℕ) (chains : List (List ℕ)) (b p r : ℕ) (rs : List ℕ)
    → Linked next cap free heads spare chains → b < length chains → get_or chains b [] ≡ r ∷ rs → p ≢ r → 1 ≤ times p (get_or chains b [])
    → next' (before p r rs) ≡ next p → next' p ≡ free → ((q : ℕ) → q ≢ p → q ≢ before p r rs → next' q ≡ next q)
    → Linked next' cap (p + 1) heads (p ∷ spare) (set chains b (without p (get_or chains b [])))
freed_inner next next' cap free heads spare chains b p r rs L l is ne there cut at same =
    let P : List ℕ → Type 0 = λ c. Follows next' (get_or heads b 0) (without p c) in
    let kept : (q : ℕ) → times q (get_or chains b []) ≡ 0 → next' q ≡ next q = λ q c. same q (in_list p q _ there c) (in_list (before p r rs) q (r ∷ rs) (times_before p r rs) (rw is at c)) in
    let once : (q : ℕ) → times q (get_or chains b []) ≤ 1 = λ q. omega (arith, chain_once next cap free heads spare chains b L q) in
    let new : Follows next' (get_or heads b 0) (without p (r ∷ rs)) = Follows-cut next next' p _ r rs (rw is at (chain_ends next cap free heads spare chains b L)) ne (times_rest p r rs (rw is at there) ne) (λ q. rw is at (once q)) cut same in
    let all : Linked next' cap (p + 1) (set heads b (get_or heads b 0)) (p ∷ spare) (set chains b (without p (get_or chains b []))) =
    replaced next next' cap free (p + 1) heads spare (p ∷ spare) chains b (get_or heads b 0) (without p (get_or chains b [])) L l
    (λ q s c. kept q c)
    (spare_kept next next' cap free heads spare chains b p L at kept)
    (subst P (sym is) new)
    (λ q. omega (arith, times_without p q (get_or chains b []) there))
    (omega (arith, length_without p (get_or chains b []) there)) in
    rw (set-get_or heads b 0) at all

-- ---- a table with no chains, none of whose places were reached
none_in : (q b : ℕ) → times_in q (replicate b []) ≡ 0
none_in q zero = refl
none_in q (suc b) = omega (arith, none_in q b)

pub no_lengths : (b : ℕ) → lengths (replicate b []) ≡ 0
no_lengths zero = refl
no_lengths (suc b) = omega (arith, no_lengths b)

none_follow : (next : ℕ → ℕ) (b : ℕ) → FollowAll next (replicate b 0) (replicate b [])
none_follow next zero = tt
none_follow next (suc b) = (refl, none_follow next b)

none_below : (p k : ℕ) → k ≡ 0 → k ≡ cond (nat_lt p 0) 1 0
none_below p k e = grind (arith, nat_tests)

pub started : (next : ℕ → ℕ) (b : ℕ) → Linked next 0 0 (replicate b 0) [] (replicate b [])
started next b = record {
  spare_ends = refl;
  chains_end = none_follow next b;
  each_once = λ p. none_below p (times p [] + times_in p (replicate b [])) (omega (arith, none_in p b));
  all_placed = omega (arith, no_lengths b);
}

-- ---- one place more is reached
more_step : (p n k : ℕ) (b c d : Bool) → eqb p n ≡ b → nat_lt p n ≡ c → nat_lt p (n + 1) ≡ d → 0 + k ≡ cond c 1 0 → cond b 1 0 + 0 + k ≡ cond d 1 0
more_step p n k b c d e f g h = grind (arith, nat_tests)

-- the place behind the last one is the only spare one
pub one_more : (next next' : ℕ → ℕ) (n : ℕ) (heads : List ℕ) (chains : List (List ℕ)) → Linked next n 0 heads [] chains → next' n ≡ 0 → ((q : ℕ) → next' q ≡ next q) → Linked next' (n + 1) (n + 1) heads (n ∷ []) chains
one_more next next' n heads chains L end same = record {
  spare_ends = (refl, end);
  chains_end = FollowAll-kept next next' heads chains (λ q h. same q) L.chains_end;
  each_once = λ p. more_step p n (times_in p chains) (eqb p n) (nat_lt p n) (nat_lt p (n + 1)) refl refl refl (L.each_once p);
  all_placed = omega (arith, L.all_placed);
}

pub no_walk : (next : ℕ → ℕ) (n link : ℕ) → link ≡ 0 → walk next n link ≡ []
no_walk next n link e = walk_is next n link [] e (omega arith)

-- ---- links in a list of their own
pub kept : (heads links : List ℕ) (free used cap : ℕ) (spare : List ℕ) (chains : List (List ℕ)) → length links ≡ cap → Linked (link_in links) cap free heads spare chains → lengths chains ≡ used → IsKept heads links free used
kept heads links free used cap spare chains len L count =
    let P : ℕ → Type 0 = λ n. Linked (link_in links) n free heads spare chains in
    let M : Linked (link_in links) (length links) free heads spare chains = subst P (sym len) L in
    record {
      linked = settled (link_in links) (length links) free heads spare chains M;
      counted = ap lengths (settled_chains (link_in links) (length links) free heads spare chains M) ∙ count;
    }

pub chains_are : (heads links : List ℕ) (free cap : ℕ) (spare : List ℕ) (chains : List (List ℕ)) → length links ≡ cap → Linked (link_in links) cap free heads spare chains → chains_from links heads ≡ chains
chains_are heads links free cap spare chains len L =
    let P : ℕ → Type 0 = λ n. Linked (link_in links) n free heads spare chains in
    settled_chains (link_in links) (length links) free heads spare chains (subst P (sym len) L)

-- a number that was read
pub read_is : (xs : List ℕ) (i x : ℕ) → i < length xs → x ≡ get_or xs i x → x ≡ get_or xs i 0
read_is [] i x l e = absurd (omega arith)
read_is (y ∷ ys) zero x l e = e
read_is (y ∷ ys) (suc i) x l e = read_is ys i x (omega arith) e

starts_somewhere : (next : ℕ → ℕ) (link p : ℕ) (ps : List ℕ) → Follows next link ps → 1 ≤ times p ps → 1 ≤ link
starts_somewhere next link p [] f h = absurd (omega arith)
starts_somewhere next link p (q ∷ qs) f h = omega (arith, f.0)

module _ (heads links : List ℕ) (free used : ℕ) (K : IsKept heads links free used) where
  abbrev spare_of : List ℕ
  spare_of = walk (link_in links) (length links) free

  abbrev chains_of : List (List ℕ)
  chains_of = chains_from links heads

  pub place_of_spare : lengths chains_of < length links → (1 ≤ free) × (free ≤ length links) × (times_in (free - 1) chains_of ≡ 0)
  place_of_spare room = spare_place (link_in links) (length links) free heads spare_of chains_of K.linked room

  -- a place that was reached is empty if a link says so, and else all of them are in chains
  pub some_spare : free ≢ 0 → lengths chains_of < length links
  some_spare ne = spare_some (link_in links) (length links) free heads spare_of chains_of K.linked ne

  pub none_spare : free ≡ 0 → lengths chains_of ≡ length links
  none_spare e =
      let L = K.linked in
      omega (arith, L.all_placed, ap length (no_walk (link_in links) (length links) free e))

  -- a place that is in a chain was reached
  pub chained_within : (p : ℕ) → times_in p chains_of ≡ 1 → p < length links
  chained_within p once = in_range (link_in links) (length links) free heads spare_of chains_of K.linked p (omega (arith, once))

  pub heads_are : length chains_of ≡ length heads
  heads_are = length-map heads (walk (link_in links) (length links))

  module _ (b : ℕ) (l : b < length chains_of) where
    pub add_linked : (p h after : ℕ) → lengths chains_of < length links → p ≡ free - 1 → h ≡ get_or heads b h → after ≡ get_or links p after → Linked (link_in (set links p h)) (length links) after (set heads b free) (drop 1 spare_of) (set chains_of b (p ∷ get_or chains_of b []))
    add_linked p h after room e he ae =
        let some = place_of_spare room in
        let is : free ≡ p + 1 = omega (arith, some.0) in
        let within : p < length links = omega (arith, some.1) in
        let old : Linked (link_in (set links p h)) (length links) (link_in links p) (set heads b (p + 1)) (drop 1 spare_of) (set chains_of b (p ∷ get_or chains_of b [])) =
        added (link_in links) (link_in (set links p h)) (length links) free heads spare_of chains_of b p K.linked l is
        (get_or-set_same links p h 0 within ∙ read_is heads b h (omega (arith, heads_are)) he)
        (λ q ne. get_or-set_other links p q h 0 ne) in
        rw (read_is links p after within ae) (rw (← is) at old)

    module _ (p : ℕ) (there : 1 ≤ times p (get_or chains_of b [])) where
      pub place_within : p < length links
      place_within = chain_within (link_in links) (length links) free heads spare_of chains_of b K.linked p there

      chain_there : 1 ≤ length (get_or chains_of b [])
      chain_there = omega (arith, times_length p (get_or chains_of b []))

      pub used_some : 1 ≤ used
      used_some = omega (arith, chain_there, length_at chains_of b, K.counted)

      pub head_some : 1 ≤ get_or heads b 0
      head_some = starts_somewhere (link_in links) (get_or heads b 0) p (get_or chains_of b []) (chain_ends (link_in links) (length links) free heads spare_of chains_of b K.linked) there

      pub remove_head : (after : ℕ) → get_or heads b 0 ≡ p + 1 → after ≡ get_or links p after → Linked (link_in (set links p free)) (length links) (p + 1) (set heads b after) (p ∷ spare_of) (set chains_of b (without p (get_or chains_of b [])))
      remove_head after e ae =
          let old : Linked (link_in (set links p free)) (length links) (p + 1) (set heads b (link_in links p)) (p ∷ spare_of) (set chains_of b (without p (get_or chains_of b []))) =
          freed_head (link_in links) (link_in (set links p free)) (length links) free heads spare_of chains_of b p K.linked l e there
          (get_or-set_same links p free 0 place_within)
          (λ q ne. get_or-set_other links p q free 0 ne) in
          rw (read_is links p after place_within ae) old

      module _ (at : ℕ) (is : get_or heads b 0 ≡ at + 1) where
        rest : Steps (link_in links) (length links) at (get_or chains_of b [])
        rest =
            let M = K.linked in
            let ends = chain_ends (link_in links) (length links) free heads spare_of chains_of b M in
            steps_to (link_in links) (length links) (get_or heads b 0) at (get_or chains_of b []) ends (omega (arith, M.all_placed, length_at chains_of b)) is

        pub chain_from : get_or chains_of b [] ≡ at ∷ walk (link_in links) (length links) (link_in links at)
        chain_from = rest.is

        pub remove_inner : p ≢ at → (o after : ℕ) → o < length links → o ≡ before p at (walk (link_in links) (length links) (link_in links at))
            → after ≡ get_or links p after
            → Linked (link_in (set (set links o after) p free)) (length links) (p + 1) heads (p ∷ spare_of)
            (set chains_of b (without p (get_or chains_of b [])))
        remove_inner ne o after lo oe ae =
            let rs : List ℕ = walk (link_in links) (length links) (link_in links at) in
            let apart : o ≢ p = λ e. before_other p at rs ne (sym oe ∙ e) in
            let inside : p < length (set links o after) = omega (arith, place_within, length-set links o after) in
            let cut : link_in (set (set links o after) p free) o ≡ link_in links p =
            get_or-set_other (set links o after) p o free 0 apart ∙ get_or-set_same links o after 0 lo ∙ read_is links p after place_within ae in
            freed_inner (link_in links) (link_in (set (set links o after) p free)) (length links) free heads spare_of chains_of b p at rs K.linked l rest.is ne there
            (rw (← oe) cut)
            (get_or-set_same (set links o after) p free 0 inside)
            (λ q a f. get_or-set_other (set links o after) p q free 0 a ∙ get_or-set_other links o q after 0 (λ e. f (e ∙ oe)))

take_none : (n : ℕ) → take {A = ℕ} n [] ≡ []
take_none zero = refl
take_none (suc n) = refl

pub resized : (n k : ℕ) (old : List ℕ) → old ≡ [] → k ≡ 0 → take n old ++ replicate (n - k) 0 ≡ replicate n 0
resized n k old e z = let d : n - k ≡ n = omega arith in rw (e, d, take_none n) refl

-- ---- a place is taken out, before its own link is written
pub record Freed (heads links : List ℕ) (free used b p : ℕ) (heads' links' : List ℕ) (free' used' : ℕ) : Type 0 where
  pub len : length links' ≡ length links
  pub free_is : free' ≡ free
  pub used_is : used' ≡ used
  pub linked : Linked (link_in (set links' p free)) (length links) (p + 1) heads' (p ∷ walk (link_in links) (length links) free) (set (chains_from links heads) b (without p (get_or (chains_from links heads) b [])))

module _ (heads links : List ℕ) (free used : ℕ) (K : IsKept heads links free used) (b : ℕ) (l : b < length (chains_from links heads)) (p : ℕ) (there : 1 ≤ times p (get_or (chains_from links heads) b [])) where
  abbrev first : ℕ
  first = get_or heads b 0 - 1

  abbrev others : List ℕ
  others = walk (link_in links) (length links) (link_in links first)

  first_is : get_or heads b 0 ≡ first + 1
  first_is = let some = head_some heads links free used K b l p there in omega arith

  chain_split : get_or (chains_from links heads) b [] ≡ first ∷ others
  chain_split = chain_from heads links free used K b l p there first first_is

  pub freed_first : (before_it after : ℕ) → before_it ≡ link_before p 0 (get_or (chains_from links heads) b []) → before_it ≡ 0 → after ≡ get_or links p after → Freed heads links free used b p (set heads b after) links free used
  freed_first before_it after be z ae =
      let none : link_before p 0 (first ∷ others) ≡ 0 = rw chain_split at (sym be ∙ z) in
      let is : p ≡ first = no_code p first others none in
      let e : get_or heads b 0 ≡ p + 1 = omega (arith, first_is) in
      record { len = refl; free_is = refl; used_is = refl; linked = remove_head heads links free used K b l p there after e ae }

  pub freed_later : (before_it after : ℕ) → before_it ≡ link_before p 0 (get_or (chains_from links heads) b []) → before_it ≢ 0 → after ≡ get_or links p after → (before_it - 1 < length links) × Freed heads links free used b p heads (set links (before_it - 1) after) free used
  freed_later before_it after be nz ae =
      let be' : before_it ≡ link_before p 0 (first ∷ others) = rw chain_split at be in
      let some : (p ≢ first) × (link_before p 0 (first ∷ others) ≡ before p first others + 1) = some_code p first others (λ z. nz (be' ∙ z)) in
      let is : before_it - 1 ≡ before p first others = omega (arith, be', some.1) in
      let stands : 1 ≤ times (before p first others) (get_or (chains_from links heads) b []) = rw chain_split (times_before p first others) in
      let below : before_it - 1 < length links = rw is (chain_within (link_in links) (length links) free heads _ (chains_from links heads) b K.linked (before p first others) stands) in
      (below, record { len = length-set links (before_it - 1) after; free_is = refl; used_is = refl; linked = remove_inner heads links free used K b l p there first first_is some.0 (before_it - 1) after below is ae })

  module _ (heads' links' : List ℕ) (free' used' : ℕ) (F : Freed heads links free used b p heads' links' free' used') where
    freed_len : length (set links' p free') ≡ length links
    freed_len = length-set links' p free' ∙ F.len

    freed_linked : Linked (link_in (set links' p free')) (length links) (p + 1) heads' (p ∷ walk (link_in links) (length links) free) (set (chains_from links heads) b (without p (get_or (chains_from links heads) b [])))
    freed_linked = rw F.free_is F.linked

    pub freed_kept : IsKept heads' (set links' p free') (p + 1) (used' - 1)
    freed_kept =
        let cs : List (List ℕ) = chains_from links heads in
        kept heads' (set links' p free') (p + 1) (used' - 1) (length links) _ _ freed_len freed_linked
        (omega (arith, lengths-set cs b (without p (get_or cs b [])) l, length_without p (get_or cs b []) there, K.counted, F.used_is))

    pub freed_len_is : length (set links' p free') ≡ length links
    freed_len_is = freed_len

    pub freed_chains : chains_from (set links' p free') heads' ≡ set (chains_from links heads) b (without p (get_or (chains_from links heads) b []))
    freed_chains = chains_are heads' (set links' p free') (p + 1) (length links) _ _ freed_len freed_linked

-- ---- steps of a search
pub record Searched (links : List ℕ) (before_it link : ℕ) (test : ℕ → Bool) (chain : List ℕ) : Type 0 where
  pub here : link - 1 < length links
  pub less : length (walk (link_in links) (length links) (link_in links (link - 1))) < length (walk (link_in links) (length links) link)
  pub found : test (link - 1) ≡ true → first_of test chain ≡ Some (link - 1)
  pub behind : test (link - 1) ≡ true → before_it ≡ link_before (link - 1) 0 chain
  pub next : test (link - 1) ≡ false → IsSearch links link (link_in links (link - 1)) test chain

true_is_false : true ≡ false → ⊥
true_is_false h = cc

pub looks_into : (links : List ℕ) (before_it link : ℕ) (test : ℕ → Bool) (chain : List ℕ) → link ≢ 0 → IsSearch links before_it link test chain → Searched links before_it link test chain
looks_into links before_it link test chain ne I =
    let next : ℕ → ℕ = link_in links in
    let n : ℕ = length links in
    let p : ℕ = link - 1 in
    let rest : List ℕ = walk next n (next (link - 1)) in
    let S : Steps next n (link - 1) (walk next n link) = steps next n link (link - 1) I.ends (omega arith) in
    let within : (q : ℕ) → 1 ≤ times q ((link - 1) ∷ walk next n (next (link - 1))) → q < n = λ q h. I.within q (rw S.is h) in
    let code_is : link ≡ p + 1 = omega arith in
    record {
      here = within (link - 1) (omega (arith, times_head (link - 1) (walk next n (next (link - 1)))));
      less = rw S.is (omega arith);
      found = λ t. sym I.same ∙ rw (S.is, t) refl;
      behind = λ t.
          let old : link_before p before_it (p ∷ rest) ≡ link_before p 0 chain = rw S.is at (I.behind p t) in
          let here : link_before p before_it (p ∷ rest) ≡ before_it = rw (same_is p) refl in
          sym here ∙ old;
      next = λ t. record {
        ends = S.ends;
        within = λ q h. within q (omega (arith, times_more q (link - 1) (walk next n (next (link - 1)))));
        same = (let e : first_of test (walk next n link) ≡ first_of test (walk next n (next (link - 1))) = rw (S.is, t) refl in sym e) ∙ I.same;
        behind = λ q tq.
            let apart : q ≢ p = λ h. true_is_false (sym tq ∙ ap test h ∙ t) in
            let old : link_before q before_it (p ∷ rest) ≡ link_before q 0 chain = rw S.is at (I.behind q tq) in
            let skip : link_before q before_it (p ∷ rest) ≡ link_before q (p + 1) rest = rw (ne_eqb q p apart) refl in
            ap (λ x. link_before q x rest) code_is ∙ sym skip ∙ old;
      };
    }

pub looked : (links : List ℕ) (before_it link : ℕ) (test : ℕ → Bool) (chain : List ℕ) → link ≡ 0 → IsSearch links before_it link test chain → first_of test chain ≡ None
looked links before_it link test chain e I =
    let next : ℕ → ℕ = link_in links in
    let none : walk next (length links) link ≡ [] = walk_is next (length links) link [] e (omega arith) in
    sym I.same ∙ rw none refl

pub looks_from : (heads links : List ℕ) (free used : ℕ) → IsKept heads links free used → (b first : ℕ) → b < length (chains_from links heads) → first ≡ get_or heads b first → (test : ℕ → Bool) → IsSearch links 0 first test (get_or (chains_from links heads) b [])
looks_from heads links free used K b first l fe test =
    let next : ℕ → ℕ = link_in links in
    let n : ℕ = length links in
    let cs : List (List ℕ) = chains_from links heads in
    let is : first ≡ get_or heads b 0 = read_is heads b first (omega (arith, heads_are heads links free used K)) fe in
    let walked : walk next n first ≡ get_or cs b [] = rw is (chain_is next n free heads _ cs b K.linked) in
    record {
      ends = rw walked (rw is (chain_ends next n free heads _ cs b K.linked));
      within = λ q h. chain_within next n free heads _ cs b K.linked q (rw walked at h);
      same = ap (first_of test) walked;
      behind = λ q t. ap (link_before q 0) walked;
    }

-- ---- what a search found

first_there_step : (test : ℕ → Bool) (p q : ℕ) (qs : List ℕ) (b : Bool) → test q ≡ b → cond b (Some q) (first_of test qs) ≡ Some p → (first_of test qs ≡ Some p → 1 ≤ times p qs) → 1 ≤ times p (q ∷ qs)
first_there_step test p q qs true e h ih =
    let is : q ≡ p = same_Some q p h in
    rw is (omega (arith, times_head p qs))
first_there_step test p q qs false e h ih = omega (arith, ih h, times_more p q qs)

pub first_there : (test : ℕ → Bool) (p : ℕ) (qs : List ℕ) → first_of test qs ≡ Some p → 1 ≤ times p qs
first_there test p [] h = absurd (cc)
first_there test p (q ∷ qs) h = first_there_step test p q qs (test q) refl h (first_there test p qs)

module _ (heads links : List ℕ) (free used : ℕ) (K : IsKept heads links free used) (b : ℕ) (test : ℕ → Bool) (p : ℕ) (found : first_of test (get_or (chains_from links heads) b []) ≡ Some p) where
  pub found_within : p < length links
  found_within = chain_within (link_in links) (length links) free heads _ (chains_from links heads) b K.linked p (first_there test p _ found)

  pub found_once : times_in p (chains_from links heads) ≡ 1
  found_once =
      omega (arith, first_there test p _ found, times_at p (chains_from links heads) b, once_each (link_in links) (length links) free heads _ (chains_from links heads) K.linked p)

-- ---- links inside of places
module _ (ps : List Packed) (i : ℕ) where
  -- a link that was read
  pub link_read : (p : Packed) (link : ℕ) → i < length ps → p ≡ get_or ps i p → link ≡ p.link → link ≡ get_or (map link_of ps) i link
  link_read p link l is e = e ∙ ap link_of is ∙ sym (get_or-map link_of ps i p link l)

  -- another packed entry in a place
  pub links_set : (p : Packed) → map link_of (set ps i p) ≡ set (map link_of ps) i p.link
  links_set p = map-set link_of ps i p

  pub entries_set : (p : Packed) → map entry_of (set ps i p) ≡ set (map entry_of ps) i p.entry
  entries_set p = map-set entry_of ps i p

  -- the same as the link in the list of all links
  pub link_at : (p : Packed) (link : ℕ) → i < length ps → p ≡ get_or ps i p → link ≡ p.link → link ≡ link_in (map link_of ps) i
  link_at p link l is e = read_is (map link_of ps) i link (omega (arith, length-map ps link_of)) (link_read p link l is e)

  pub entry_read : (p : Packed) → i < length ps → p ≡ get_or ps i p → get_or (map entry_of ps) i no_entry ≡ p.entry
  entry_read p l is = get_or-map entry_of ps i p no_entry l ∙ ap entry_of (sym is)

  pub link_written : (p : Packed) (link : ℕ) → map link_of (set ps i (with_link p link)) ≡ set (map link_of ps) i link
  link_written p link = map-set link_of ps i (with_link p link)

  pub entries_stay : (p : Packed) (link : ℕ) → i < length ps → p ≡ get_or ps i p → map entry_of (set ps i (with_link p link)) ≡ map entry_of ps
  entries_stay p link l is = map-set_same entry_of ps i (with_link p link) p (ap entry_of is)

module _ (ps : List Packed) (i : ℕ) where
  pub entry_written : (p : Packed) (entry : Entry) → map entry_of (set ps i (with_entry p entry)) ≡ set (map entry_of ps) i entry
  entry_written p entry = map-set entry_of ps i (with_entry p entry)

  pub links_stay : (p : Packed) (entry : Entry) → i < length ps → p ≡ get_or ps i p → map link_of (set ps i (with_entry p entry)) ≡ map link_of ps
  links_stay p entry l is = map-set_same link_of ps i (with_entry p entry) p (ap link_of is)

-- ---- links fit
code_most : (next : ℕ → ℕ) (n link : ℕ) (ps : List ℕ) → Follows next link ps → ((q : ℕ) → 1 ≤ times q ps → q < n) → link ≤ n
code_most next n link [] f h = omega arith
code_most next n link (p ∷ ps) f h = omega (arith, f.0, h p (omega (arith, times_head p ps)))

module _ (heads links : List ℕ) (free used : ℕ) (K : IsKept heads links free used) (limit : length links ≤ 1048576) where
  pub free_fits : free ≤ 1048576
  free_fits =
      let L = K.linked in
      omega (arith, limit, code_most (link_in links) (length links) free _ L.spare_ends (λ q h. in_range (link_in links) (length links) free heads _ (chains_from links heads) L q (omega arith)))

  pub head_fits : (b head : ℕ) → b < length (chains_from links heads) → head ≡ get_or heads b head → head ≤ 1048576
  head_fits b head l e =
      let L = K.linked in
      let is : head ≡ get_or heads b 0 = read_is heads b head (omega (arith, heads_are heads links free used K)) e in
      omega (arith, limit, code_most (link_in links) (length links) (get_or heads b 0) _ (chain_ends (link_in links) (length links) free heads _ (chains_from links heads) b L) (λ q h. chain_within (link_in links) (length links) free heads _ (chains_from links heads) b L q h))
