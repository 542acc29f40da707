-- The places that were reached, and those behind them that were not.
use Rattle.std.proofs.Common.{◌≡◌, ℕ, ◌+◌, ◌-◌, ◌<◌, ◌≤◌, ◌≢◌, List, [], ◌∷◌, ◌++◌, length, get_or, map, sym, refl, ap, ◌∙◌, arith, replicate, append_assoc}
use Prim.Native.Nat.{suc, zero}
use Rattle.std.proofs.Math.ListN.{set}
use Rattle.std.proofs.lemmas.List.{length-append, length-map, length-replicate, length-set, length_push, map_push, map-set, set-append_left}
use Rattle.packed_entries.specs.declared.entry.Entry.{Entry}
use Rattle.packed_entries.specs.declared.packed.Packed.{Packed}
use Rattle.packed_entries.specs.Places.{link_of, entry_of, entries_of, empty_place, no_entry}
use Rattle.packed_entries.specs.Linked.{link_in, chains_from, lengths, Linked, IsKept, IsWithin}
use Rattle.packed_entries.proofs.Threaded.{one_more, no_walk, kept, chains_are, none_spare, entry_read}

-- ---- lists that go on with the element that is read behind their end
get_or-equal : {X : Type 0} (k p : ℕ) (d : X) → get_or (replicate k d) p d ≡ d
get_or-equal zero p d = refl
get_or-equal (suc k) zero d = refl
get_or-equal (suc k) (suc p) d = get_or-equal k p d

pub get_or-padded : {X : Type 0} (xs : List X) (k p : ℕ) (d : X) → get_or (xs ++ replicate k d) p d ≡ get_or xs p d
get_or-padded [] k p d = get_or-equal k p d
get_or-padded (x ∷ xs) k zero d = refl
get_or-padded (x ∷ xs) k (suc p) d = get_or-padded xs k p d

get_or-end : (xs : List ℕ) → get_or xs (length xs) 0 ≡ 0
get_or-end [] = refl
get_or-end (x ∷ xs) = get_or-end xs

-- ---- the entries of all places
pub length_entries : (ps : List Packed) (capacity : ℕ) → length ps ≤ capacity → length (entries_of ps capacity) ≡ capacity
length_entries ps capacity few =
    omega (arith, few, length-append (map entry_of ps) (replicate (capacity - length ps) no_entry), length-map ps entry_of, length-replicate (capacity - length ps) no_entry)

pub entry_in : (ps : List Packed) (capacity i : ℕ) → get_or (entries_of ps capacity) i no_entry ≡ get_or (map entry_of ps) i no_entry
entry_in ps capacity i = get_or-padded (map entry_of ps) (capacity - length ps) i no_entry

pub reached_entry : (ps : List Packed) (capacity i : ℕ) (p : Packed) → i < length ps → p ≡ get_or ps i p → get_or (entries_of ps capacity) i no_entry ≡ p.entry
reached_entry ps capacity i p l is = entry_in ps capacity i ∙ entry_read ps i p l is

-- no place was reached
pub entries_unused : (capacity : ℕ) → entries_of [] capacity ≡ replicate capacity no_entry
entries_unused capacity = let all : capacity - 0 ≡ capacity = omega arith in ap (λ n. replicate n no_entry) all

-- a place is written
pub entries_written : (ps : List Packed) (capacity i : ℕ) (p : Packed) → i < length ps → entries_of (set ps i p) capacity ≡ set (entries_of ps capacity) i p.entry
entries_written ps capacity i p l =
    let rest : List Entry = replicate (capacity - length ps) no_entry in
    ap (λ n. map entry_of (set ps i p) ++ replicate (capacity - n) no_entry) (length-set ps i p)
    ∙ (ap (λ (es : List Entry). es ++ rest) (map-set entry_of ps i p)
    ∙ sym (set-append_left (map entry_of ps) rest i p.entry (omega (arith, l, length-map ps entry_of))))

-- no entry changes
pub entries_same : (ps qs : List Packed) (capacity : ℕ) → length qs ≡ length ps → map entry_of qs ≡ map entry_of ps → entries_of qs capacity ≡ entries_of ps capacity
entries_same ps qs capacity len same = rw (len, same) refl

-- one place more is reached
first_of_rest : (n m : ℕ) → n ≡ m + 1 → replicate n no_entry ≡ no_entry ∷ replicate m no_entry
first_of_rest zero m e = absurd (omega (arith, e))
first_of_rest (suc n) m e = let is : n ≡ m = omega (arith, e) in rw is refl

pub entries_reached : (ps : List Packed) (capacity : ℕ) → length ps < capacity → entries_of (ps ++ empty_place ∷ []) capacity ≡ entries_of ps capacity
entries_reached ps capacity room =
    let fewer : ℕ = capacity - (length ps + 1) in
    ap (λ n. map entry_of (ps ++ empty_place ∷ []) ++ replicate (capacity - n) no_entry) (length_push ps empty_place)
    ∙ (ap (λ (es : List Entry). es ++ replicate fewer no_entry) (map_push entry_of ps empty_place)
    ∙ (append_assoc (map entry_of ps) (no_entry ∷ []) (replicate fewer no_entry)
    ∙ ap (λ (es : List Entry). map entry_of ps ++ es) (sym (first_of_rest (capacity - length ps) fewer (omega (arith, room))))))

-- ---- the fields once a place is empty
pub record Ready (heads : List ℕ) (ps : List Packed) (used capacity : ℕ) (heads' : List ℕ) (ps' : List Packed) (free' used' capacity' reserved' : ℕ) : Type 0 where
  pub heads_are : heads' ≡ heads
  pub used_is : used' ≡ used
  pub capacity_is : capacity' ≡ capacity
  pub kept_is : IsKept heads' (map link_of ps') free' used'
  pub within : IsWithin (length ps') capacity' reserved'
  pub some : free' ≢ 0
  pub chains : chains_from (map link_of ps') heads' ≡ chains_from (map link_of ps) heads
  pub entries : entries_of ps' capacity' ≡ entries_of ps capacity

module _ (heads : List ℕ) (ps : List Packed) (free used capacity reserved : ℕ) (K : IsKept heads (map link_of ps) free used) (W : IsWithin (length ps) capacity reserved) where
  pub ready : free ≢ 0 → Ready heads ps used capacity heads ps free used capacity reserved
  ready ne = record { heads_are = refl; used_is = refl; capacity_is = refl; kept_is = K; within = W; some = ne; chains = refl; entries = refl }

  module _ (none : free ≡ 0) (room : lengths (chains_from (map link_of ps) heads) < length (entries_of ps capacity)) where
    -- a place is left that was not reached
    pub unreached : length ps < capacity
    unreached =
        omega (arith, room, length_entries ps capacity W.fits, none_spare heads (map link_of ps) free used K none, length-map ps link_of)

    abbrev links : List ℕ
    links = map link_of ps

    abbrev more : List ℕ
    more = map link_of (ps ++ empty_place ∷ [])

    more_is : more ≡ links ++ 0 ∷ []
    more_is = map_push link_of ps empty_place

    length_more : length more ≡ length links + 1
    length_more = ap length more_is ∙ length_push links 0

    link_stays : (q : ℕ) → link_in more q ≡ link_in links q
    link_stays q = ap (λ (ls : List ℕ). link_in ls q) more_is ∙ get_or-padded links 1 q 0

    reached_linked : Linked (link_in more) (length links + 1) (length links + 1) heads (length links ∷ []) (chains_from links heads)
    reached_linked =
        let P : ℕ → List ℕ → Type 0 = λ f s. Linked (link_in links) (length links) f heads s (chains_from links heads) in
        let old : Linked (link_in links) (length links) 0 heads [] (chains_from links heads) = rw (none, no_walk (link_in links) (length links) 0 refl) at K.linked in
        one_more (link_in links) (link_in more) (length links) heads (chains_from links heads) old (link_stays (length links) ∙ get_or-end links) link_stays

    pub reached : (link : ℕ) → link ≡ length ps + 1 → Ready heads ps used capacity heads (ps ++ empty_place ∷ []) link used capacity reserved
    reached link e =
        let is : link ≡ length links + 1 = omega (arith, e, length-map ps link_of) in
        record {
          heads_are = refl;
          used_is = refl;
          capacity_is = refl;
          kept_is = rw is (kept heads more (length links + 1) used (length links + 1) (length links ∷ []) (chains_from links heads) length_more reached_linked K.counted);
          within = record { fits = omega (arith, unreached, length_push ps empty_place); room = W.room; limit = W.limit };
          some = λ z. absurd (omega (arith, z, e));
          chains = chains_are heads more (length links + 1) (length links + 1) (length links ∷ []) (chains_from links heads) length_more reached_linked;
          entries = entries_reached ps capacity unreached;
        }
