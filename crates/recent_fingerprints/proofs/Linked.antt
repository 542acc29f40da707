-- Notes in chains.
use Rattle.std.proofs.Common.{◌≡◌, ℕ, ◌+◌, ◌-◌, ◌*◌, ◌%◌, ◌^◌, ◌<◌, ◌≤◌, min, Bool, true, false, not, ◌&&◌, ◌||◌, cond, eqb, List, [], ◌∷◌, length, get_or, take, drop, map, sym, refl, ap, ◌∙◌, arith, subst, ◌⊎◌, ⊎_elim, inl, inr}
use Prim.Native.Nat.{zero, suc}
use Rattle.std.specs.List.{list_any}
use Rattle.std.proofs.lemmas.Bool.Decides.{eqb_tells}
use Rattle.std.proofs.lemmas.Bool.{false≢true, eqb-true, eq-eqb, cases_lt, ne_eqb}
use Rattle.std.proofs.lemmas.List.{length-take, drop_min, drop_more, drop_all, drop-drop, take-map, length-drop, length-set, get_or-set_same, get_or-set_other}
use Rattle.std.proofs.Math.Seq.{drop-nil}
use Rattle.std.proofs.Math.Nat.{div-lt_iff_lt-mul}
use Rattle.std.proofs.lemmas.Nat.{pow_pos}
use Rattle.std.proofs.Math.ListN.{set}
use Rattle.recent_fingerprints.specs.declared.note.Note.{Note}
use Rattle.recent_fingerprints.specs.declared.note.Place.{Place}
use Rattle.recent_fingerprints.specs.Halved.{whole}
use Rattle.recent_fingerprints.specs.Notes.{counts, is_same, is_same_page, is_other}
use Rattle.recent_fingerprints.specs.Chains.{note_in, first_where, bucket_of, in_bucket, comes_next, AreLinked, begins_in, age_of, age_in, IsHead, AreKept}

-- ---- lists

pub first-le : {X : Type 0} (t : X → Bool) (xs : List X) → first_where t xs ≤ length xs
first-le t [] = omega arith
first-le t (x ∷ xs) =
    let ih = first-le t xs in
    elim (t x) as (λ b. cond b 0 (suc (first_where t xs)) ≤ length (x ∷ xs)) [ true ↦ omega arith | false ↦ omega arith ]

first-take-step : (b : Bool) (k f g : ℕ) → g ≡ min k f → cond b 0 (suc g) ≡ min (suc k) (cond b 0 (suc f))
first-take-step true k f g h = omega arith
first-take-step false k f g h = omega arith

pub first-take : {X : Type 0} (t : X → Bool) (k : ℕ) (xs : List X) → first_where t (take k xs) ≡ min k (first_where t xs)
first-take t zero xs = omega arith
first-take t (suc k) [] = omega arith
first-take t (suc k) (x ∷ xs) = first-take-step (t x) k (first_where t xs) (first_where t (take k xs)) (first-take t k xs)

any-skip-step : {X : Type 0} (q : X → Bool) (x : X) (xs : List X) (n : ℕ) (b : Bool) → (b ≡ false → q x ≡ false) → list_any q xs ≡ list_any q (drop n xs) → list_any q (x ∷ xs) ≡ list_any q (drop (cond b 0 (suc n)) (x ∷ xs))
any-skip-step q x xs n true h same = refl
any-skip-step q x xs n false h same = rw (h refl) same

-- those before the first that passes t don't matter to a test that implies t
pub any-skip : {X : Type 0} (q t : X → Bool) → ((x : X) → t x ≡ false → q x ≡ false) → (xs : List X) → list_any q xs ≡ list_any q (drop (first_where t xs) xs)
any-skip q t h [] = refl
any-skip q t h (x ∷ xs) = any-skip-step q x xs (first_where t xs) (t x) (h x) (any-skip q t h xs)

-- the list is empty, or its first passes the test
abbrev pub BeginsWith : {X : Type 0} → (X → Bool) → List X → Type 0
BeginsWith t [] = Unit {0}
BeginsWith t (x ∷ xs) = t x ≡ true

begins-step : {X : Type 0} (t : X → Bool) (x : X) (xs : List X) (n : ℕ) (b : Bool) → t x ≡ b → BeginsWith t (drop n xs) → BeginsWith t (drop (cond b 0 (suc n)) (x ∷ xs))
begins-step t x xs n true h later = h
begins-step t x xs n false h later = later

pub begins-first : {X : Type 0} (t : X → Bool) (xs : List X) → BeginsWith t (drop (first_where t xs) xs)
begins-first t [] = tt
begins-first t (x ∷ xs) = begins-step t x xs (first_where t xs) (t x) refl (begins-first t xs)

first-split-step : {X : Type 0} (s : X → Bool) (x : X) (xs : List X) (n : ℕ) (b : Bool) → (b ≡ false → s x ≡ false) → first_where s xs ≡ n + first_where s (drop n xs) → first_where s (x ∷ xs) ≡ cond b 0 (suc n) + first_where s (drop (cond b 0 (suc n)) (x ∷ xs))
first-split-step s x xs n true h later = omega arith
first-split-step s x xs n false h later = rw (h refl) (omega (arith, later))

-- the first that passes a test which implies t is the first that passes t or comes behind it
pub first-split : {X : Type 0} (s t : X → Bool) → ((x : X) → t x ≡ false → s x ≡ false) → (xs : List X) → first_where s xs ≡ first_where t xs + first_where s (drop (first_where t xs) xs)
first-split s t h [] = refl
first-split s t h (x ∷ xs) = first-split-step s x xs (first_where t xs) (t x) (h x) (first-split s t h xs)

pub any-map : {X Y : Type 0} (q : Y → Bool) (g : X → Y) (xs : List X) → list_any q (map g xs) ≡ list_any (λ x. q (g x)) xs
any-map q g [] = refl
any-map q g (x ∷ xs) = ap (λ r. q (g x) || r) (any-map q g xs)

pub first-same : {X : Type 0} (s t : X → Bool) → ((x : X) → s x ≡ t x) → (xs : List X) → first_where s xs ≡ first_where t xs
first-same s t h [] = refl
first-same s t h (x ∷ xs) = rw (h x, first-same s t h xs) refl

-- ---- tests of notes

other-tests : (home : ℕ → ℕ) (a b : ℕ) (r : Bool) → eqb (home b) (home a) ≡ false → (eqb b a && r) ≡ false
other-tests home a b r h =
    ⊎_elim (λ e. absurd (false≢true (sym h ∙ eq-eqb (home b) (home a) (ap home e.1)))) (λ e. rw e.0 refl) (eqb_tells b a)

-- a note of another page with the fingerprint is in its bucket
pub other-shares : (f s : ℕ) (lives : List ℕ) (asked : Note) (x : Place) → in_bucket f s (bucket_of f s asked.fingerprint) x ≡ false → is_other lives asked (note_in x) ≡ false
other-shares f s lives asked x h =
    other-tests (bucket_of f s) asked.fingerprint (whole x.fingerprint) (not (is_same_page (note_in x).page asked.page) && counts lives (note_in x)) h

both : (a b : Bool) → (a && b) ≡ true → (a ≡ true) × (b ≡ true)
both true b h = (refl, h)
both false b h = absurd (false≢true h)

one-of : (a b : Bool) → (a && not b) ≡ false → (a ≡ false) ⊎ (b ≡ true)
one-of true true h = inr refl
one-of true false h = absurd (false≢true (sym h))
one-of false b h = inl refl

-- the fields of two notes that are the same
same-fields : (a b : Note) → is_same a b ≡ true → (a.fingerprint ≡ b.fingerprint) × (a.page.client ≡ b.page.client) × (a.page.number ≡ b.page.number) × (a.life ≡ b.life)
same-fields a b h =
    let t = both (eqb a.fingerprint b.fingerprint) (is_same_page a.page b.page && eqb a.life b.life) h in
    let v = both (is_same_page a.page b.page) (eqb a.life b.life) t.1 in
    let u = both (eqb a.page.client b.page.client) (eqb a.page.number b.page.number) v.0 in
    (eqb-true _ _ t.0, eqb-true _ _ u.0, eqb-true _ _ u.1, eqb-true _ _ v.1)

-- it may follow any note of that bucket that isn't one itself
pub other-follows : (f s : ℕ) (lives : List ℕ) (asked : Note) (p x : Place) → in_bucket f s (bucket_of f s asked.fingerprint) p ≡ true → is_other lives asked (note_in p) ≡ false → comes_next f s (note_in p) x ≡ false → is_other lives asked (note_in x) ≡ false
other-follows f s lives asked p x here nope h =
    let meets : bucket_of f s (whole p.fingerprint) ≡ bucket_of f s asked.fingerprint = eqb-true _ _ here in
    ⊎_elim
    (λ e. other-shares f s lives asked x (subst (λ b. in_bucket f s b x ≡ false) meets e))
    (λ e. let t = same-fields (note_in p) (note_in x) e in rw (← t.0, ← t.1, ← t.2, ← t.3) nope)
    (one-of (in_bucket f s (bucket_of f s (whole p.fingerprint)) x) (is_same (note_in p) (note_in x)) h)

pub next-shares : (f s : ℕ) (note : Note) (x : Place) → in_bucket f s (bucket_of f s note.fingerprint) x ≡ false → comes_next f s note x ≡ false
next-shares f s note x h = rw h refl

pub next-same : (f s : ℕ) (a b : Note) → is_same a b ≡ true → (x : Place) → comes_next f s a x ≡ comes_next f s b x
next-same f s a b h x = let t = same-fields a b h in rw (t.0, t.1, t.2, t.3) refl

-- ---- chains

pub linked-drop : (f s : ℕ) (a : ℕ) (xs : List Place) → AreLinked f s xs → AreLinked f s (drop a xs)
linked-drop f s zero xs h = h
linked-drop f s (suc a) [] h = tt
linked-drop f s (suc a) (x ∷ xs) h = linked-drop f s a xs h.1

pub linked-take : (f s : ℕ) (k : ℕ) (xs : List Place) → AreLinked f s xs → AreLinked f s (take k xs)
linked-take f s zero xs h = tt
linked-take f s (suc k) [] h = tt
linked-take f s (suc k) (x ∷ xs) h =
    (let l = length-take k xs in let t = first-take (comes_next f s (note_in x)) k xs in let e = h.0 in omega (arith, l, t, e), linked-take f s k xs h.1)

-- one more note, whose link is right before some are forgotten
pub linked-more : (f s : ℕ) (k : ℕ) (p : Place) (xs : List Place) → p.between ≡ first_where (comes_next f s (note_in p)) xs → AreLinked f s xs → AreLinked f s (p ∷ take k xs)
linked-more f s k p xs e h =
    (let l = length-take k xs in let t = first-take (comes_next f s (note_in p)) k xs in let m = first-le (comes_next f s (note_in p)) xs in omega (arith, l, t, e, m), linked-take f s k xs h)

-- ---- a search

-- what is left from an age on gives the same answer, and begins in the bucket
pub record IsSearch (f s : ℕ) (lives : List ℕ) (asked : Note) (ring : List Place) (age : ℕ) : Type 0 where
  pub same : list_any (is_other lives asked) (map note_in ring) ≡ list_any (λ p. is_other lives asked (note_in p)) (drop age ring)
  pub begins : BeginsWith (in_bucket f s (bucket_of f s asked.fingerprint)) (drop age ring)

pub search-begins : (f s : ℕ) (lives : List ℕ) (asked : Note) (ring : List Place) (age : ℕ) → age ≡ first_where (in_bucket f s (bucket_of f s asked.fingerprint)) ring → IsSearch f s lives asked ring age
search-begins f s lives asked ring age e = record {
  same = any-map (is_other lives asked) note_in ring ∙ any-skip (λ p. is_other lives asked (note_in p)) (in_bucket f s (bucket_of f s asked.fingerprint)) (other-shares f s lives asked) ring ∙ ap (λ n. list_any (λ p. is_other lives asked (note_in p)) (drop n ring)) (sym e);
  begins = subst (λ n. BeginsWith (in_bucket f s (bucket_of f s asked.fingerprint)) (drop n ring)) (sym e) (begins-first (in_bucket f s (bucket_of f s asked.fingerprint)) ring);
}

pub search-ends : (f s : ℕ) (lives : List ℕ) (asked : Note) (ring : List Place) (age : ℕ) → IsSearch f s lives asked ring age → length ring ≤ age → list_any (is_other lives asked) (map note_in ring) ≡ false
search-ends f s lives asked ring age h past = h.same ∙ ap (list_any (λ p. is_other lives asked (note_in p))) (drop_all age ring past)

at-age : (ring : List Place) (age : ℕ) (p : Place) → age < length ring → p ≡ get_or ring age p → drop age ring ≡ p ∷ drop (age + 1) ring
at-age ring age p lt e = drop_more ring age p lt ∙ ap (λ x. x ∷ drop (age + 1) ring) (sym e)

pub search-finds : (f s : ℕ) (lives : List ℕ) (asked : Note) (ring : List Place) (age : ℕ) (p : Place) → IsSearch f s lives asked ring age → age < length ring → p ≡ get_or ring age p → is_other lives asked (note_in p) ≡ true → list_any (is_other lives asked) (map note_in ring) ≡ true
search-finds f s lives asked ring age p h lt e hit = h.same ∙ ap (list_any (λ p. is_other lives asked (note_in p))) (at-age ring age p lt e) ∙ ap (λ b. b || list_any (λ p. is_other lives asked (note_in p)) (drop (age + 1) ring)) hit

-- from the note at the front to the one that follows it
same-bucket : (f s : ℕ) (lives : List ℕ) (asked : Note) (p : Place) → in_bucket f s (bucket_of f s asked.fingerprint) p ≡ true → (xs : List Place) → BeginsWith (comes_next f s (note_in p)) xs → BeginsWith (in_bucket f s (bucket_of f s asked.fingerprint)) xs
same-bucket f s lives asked p here [] h = tt
same-bucket f s lives asked p here (x ∷ xs) h =
    let meets : bucket_of f s (whole p.fingerprint) ≡ bucket_of f s asked.fingerprint = eqb-true _ _ here in
    let t = both (in_bucket f s (bucket_of f s (whole p.fingerprint)) x) (not (is_same (note_in p) (note_in x))) h in
    subst (λ b. in_bucket f s b x ≡ true) meets t.0

step : (f s : ℕ) (lives : List ℕ) (asked : Note) (p : Place) (rest : List Place) → AreLinked f s (p ∷ rest) → in_bucket f s (bucket_of f s asked.fingerprint) p ≡ true → is_other lives asked (note_in p) ≡ false → (list_any (λ p. is_other lives asked (note_in p)) (p ∷ rest) ≡ list_any (λ p. is_other lives asked (note_in p)) (drop p.between rest)) × BeginsWith (in_bucket f s (bucket_of f s asked.fingerprint)) (drop p.between rest)
step f s lives asked p rest linked here nope =
    let jumped : drop p.between rest ≡ drop (first_where (comes_next f s (note_in p)) rest) rest = sym (drop_min p.between rest) ∙ ap (λ n. drop n rest) linked.0 in (
      ap (λ b. b || list_any (λ p. is_other lives asked (note_in p)) rest) nope ∙ any-skip (λ p. is_other lives asked (note_in p)) (comes_next f s (note_in p)) (λ x h. other-follows f s lives asked p x here nope h) rest ∙ ap (list_any (λ p. is_other lives asked (note_in p))) (sym jumped),
      subst (BeginsWith (in_bucket f s (bucket_of f s asked.fingerprint))) (sym jumped) (same-bucket f s lives asked p here (drop (first_where (comes_next f s (note_in p)) rest) rest) (begins-first (comes_next f s (note_in p)) rest)),
    )

pub search-steps : (f s : ℕ) (lives : List ℕ) (asked : Note) (ring : List Place) (age : ℕ) (p : Place) → AreLinked f s ring → IsSearch f s lives asked ring age → age < length ring → p ≡ get_or ring age p → is_other lives asked (note_in p) ≡ false → IsSearch f s lives asked ring (age + (1 + p.between))
search-steps f s lives asked ring age p linked h lt e nope =
    let at = at-age ring age p lt e in
    let here : in_bucket f s (bucket_of f s asked.fingerprint) p ≡ true = subst (BeginsWith (in_bucket f s (bucket_of f s asked.fingerprint))) at h.begins in
    let S = step f s lives asked p (drop (age + 1) ring) (subst (AreLinked f s) at (linked-drop f s age ring linked)) here nope in
    let j : drop p.between (drop (age + 1) ring) ≡ drop (age + (1 + p.between)) ring = drop-drop p.between (age + 1) ring ∙ ap (λ n. drop n ring) (omega arith) in
    record {
      same = h.same ∙ ap (list_any (λ p. is_other lives asked (note_in p))) at ∙ S.0 ∙ ap (list_any (λ p. is_other lives asked (note_in p))) j;
      begins = subst (BeginsWith (in_bucket f s (bucket_of f s asked.fingerprint))) j S.1;
    }

-- ---- the link of a new note

-- the note that follows it is the first of its bucket, or comes behind that one
pub link-first : (f s : ℕ) (note : Note) (ring : List Place) (first : ℕ) → first ≡ first_where (in_bucket f s (bucket_of f s note.fingerprint)) ring → first_where (comes_next f s note) ring ≡ first + first_where (comes_next f s note) (drop first ring)
link-first f s note ring first e =
    let P : ℕ → Type 0 = λ n. first_where (comes_next f s note) ring ≡ n + first_where (comes_next f s note) (drop n ring) in
    subst P (sym e) (first-split (comes_next f s note) (in_bucket f s (bucket_of f s note.fingerprint)) (next-shares f s note) ring)

pub link-none : (f s : ℕ) (note : Note) (ring : List Place) (first : ℕ) → first ≡ first_where (in_bucket f s (bucket_of f s note.fingerprint)) ring → length ring ≤ first → length ring ≡ first_where (comes_next f s note) ring
link-none f s note ring first e past =
    let a = link-first f s note ring first e in
    let b = first-le (comes_next f s note) ring in
    omega arith

-- the first of the bucket, at its age
at-first : (f s : ℕ) (note : Note) (ring : List Place) (first : ℕ) (p : Place) → first ≡ first_where (in_bucket f s (bucket_of f s note.fingerprint)) ring → first < length ring → p ≡ get_or ring first p → in_bucket f s (bucket_of f s note.fingerprint) p ≡ true
at-first f s note ring first p e lt is =
    subst (BeginsWith (in_bucket f s (bucket_of f s note.fingerprint))) (ap (λ n. drop n ring) (sym e) ∙ at-age ring first p lt is) (begins-first (in_bucket f s (bucket_of f s note.fingerprint)) ring)

front : (f s : ℕ) (note : Note) (p : Place) (rest : List Place) (b : Bool) → in_bucket f s (bucket_of f s note.fingerprint) p ≡ true → is_same note (note_in p) ≡ b → first_where (comes_next f s note) (p ∷ rest) ≡ cond (not b) 0 (suc (first_where (comes_next f s note) rest))
front f s note p rest b here e = rw (here, e) refl

pub link-other : (f s : ℕ) (note : Note) (ring : List Place) (first : ℕ) (p : Place) → first ≡ first_where (in_bucket f s (bucket_of f s note.fingerprint)) ring → first < length ring → p ≡ get_or ring first p → is_same note (note_in p) ≡ false → first ≡ first_where (comes_next f s note) ring
link-other f s note ring first p e lt is differs =
    let a = link-first f s note ring first e in
    let b : first_where (comes_next f s note) (drop first ring) ≡ 0 = ap (first_where (comes_next f s note)) (at-age ring first p lt is) ∙ front f s note p (drop (first + 1) ring) false (at-first f s note ring first p e lt is) differs in
    omega arith

pub link-same : (f s : ℕ) (note : Note) (ring : List Place) (first : ℕ) (p : Place) → AreLinked f s ring → first ≡ first_where (in_bucket f s (bucket_of f s note.fingerprint)) ring → first < length ring → p ≡ get_or ring first p → is_same note (note_in p) ≡ true → min (length ring) (first + 1 + p.between) ≡ first_where (comes_next f s note) ring
link-same f s note ring first p linked e lt is same =
    let a = link-first f s note ring first e in
    let at = at-age ring first p lt is in
    let rest : List Place = drop (first + 1) ring in
    let b : first_where (comes_next f s note) (drop first ring) ≡ suc (first_where (comes_next f s note) rest) = ap (first_where (comes_next f s note)) at ∙ front f s note p rest true (at-first f s note ring first p e lt is) same in
    let l = (subst (AreLinked f s) at (linked-drop f s first ring linked)).0 in
    let m = first-same (comes_next f s note) (comes_next f s (note_in p)) (next-same f s note (note_in p) same) rest in
    let n = length-drop (first + 1) ring in
    omega (arith, a, b, l, m, n)

-- ---- heads

-- a number's age is one more where one more is counted, or wraps
ages : (newest number : ℕ) → newest < 2 ^ 32 → number < 2 ^ 32 → ((age_of ((newest + 1) % 2 ^ 32) number ≡ suc (age_of newest number)) × (age_of newest number < 2 ^ 32)) ⊎ ((age_of ((newest + 1) % 2 ^ 32) number ≡ 0) × (suc (age_of newest number) ≡ 2 ^ 32))
ages newest number n m =
    ⊎_elim
    (λ lt. inl (omega arith, omega arith))
    (λ ge. inr (omega arith, omega arith))
    (cases_lt (suc (age_of newest number)) (2 ^ 32))

newest-age : (newest : ℕ) → newest < 2 ^ 32 → age_of newest newest ≡ 0
newest-age newest n = omega arith

begins-within : (f s b : ℕ) (k a : ℕ) (ring : List Place) → a < k → begins_in f s b (drop a (take k ring)) ≡ begins_in f s b (drop a ring)
begins-within f s b zero a ring h = absurd (omega arith)
begins-within f s b (suc k) a [] h = refl
begins-within f s b (suc k) zero (x ∷ xs) h = refl
begins-within f s b (suc k) (suc a) (x ∷ xs) h = begins-within f s b k a xs (omega arith)

begins-past : (f s b : ℕ) (k a : ℕ) (ring : List Place) → k ≤ a → begins_in f s b (drop a (take k ring)) ≡ false
begins-past f s b k a ring h = ap (begins_in f s b) (drop_all a (take k ring) (let l = length-take k ring in omega (arith, l)))

begins-lt : (f s b : ℕ) (a : ℕ) (ring : List Place) → begins_in f s b (drop a ring) ≡ true → a < length ring
begins-lt f s b a [] h = absurd (false≢true (ap (begins_in f s b) (sym (drop-nil a)) ∙ h))
begins-lt f s b zero (x ∷ xs) h = omega arith
begins-lt f s b (suc a) (x ∷ xs) h = let ih = begins-lt f s b a xs h in omega arith

stays-within : (B : Bool) (F age k len : ℕ) → F ≡ cond B age len → age < k → suc (min k F) ≡ cond B (suc age) (suc (min k len))
stays-within true F age k len e h = omega arith
stays-within false F age k len e h = omega arith

stays-past : (B : Bool) (F age k len : ℕ) → F ≡ cond B age len → (B ≡ true → age < len) → k ≤ age → suc (min k F) ≡ suc (min k len)
stays-past true F age k len e lt h = let l = lt refl in omega arith
stays-past false F age k len e lt h = omega arith

other-first : (f s b : ℕ) (k : ℕ) (p : Place) (ring : List Place) → in_bucket f s b p ≡ false → first_where (in_bucket f s b) (p ∷ take k ring) ≡ suc (min k (first_where (in_bucket f s b) ring))
other-first f s b k p ring other = rw other (ap suc (first-take (in_bucket f s b) k ring))

aged-within : (f s b : ℕ) (k age : ℕ) (p : Place) (ring : List Place) → age < k → age_in f s b (p ∷ take k ring) (suc age) ≡ cond (begins_in f s b (drop age ring)) (suc age) (suc (min k (length ring)))
aged-within f s b k age p ring h = rw (begins-within f s b k age ring h, length-take k ring) refl

aged-past : (f s b : ℕ) (k age : ℕ) (p : Place) (ring : List Place) → k ≤ age → age_in f s b (p ∷ take k ring) (suc age) ≡ suc (min k (length ring))
aged-past f s b k age p ring h = rw (begins-past f s b k age ring h, length-take k ring) refl

aged-first : (f s b : ℕ) (k : ℕ) (p : Place) (ring : List Place) → in_bucket f s b p ≡ false → age_in f s b (p ∷ take k ring) 0 ≡ suc (min k (length ring))
aged-first f s b k p ring other = rw (other, length-take k ring) refl

stays-wrapped : (B : Bool) (F age k len : ℕ) → F ≡ cond B age len → (B ≡ true → age < len) → len ≤ age → suc (min k F) ≡ suc (min k len)
stays-wrapped true F age k len e lt h = absurd (let l = lt refl in omega arith)
stays-wrapped false F age k len e lt h = omega arith

-- the head of another bucket stays
head-stays : (f s b : ℕ) (k : ℕ) (p : Place) (ring : List Place) (newest head : ℕ) → in_bucket f s b p ≡ false → newest < 2 ^ 32 → length ring < 2 ^ 32 - 1 → IsHead f s b ring newest head → IsHead f s b (p ∷ take k ring) ((newest + 1) % 2 ^ 32) head
head-stays f s b k p ring newest head other n few h =
    let age : ℕ = age_of newest head in
    let lt : begins_in f s b (drop age ring) ≡ true → age < length ring = begins-lt f s b age ring in
    record {
      fits = h.fits;
      first =
          other-first f s b k p ring other
          ∙ ⊎_elim
          (λ e.
          ⊎_elim
          (λ within. stays-within (begins_in f s b (drop age ring)) _ age k (length ring) h.first within ∙ sym (aged-within f s b k age p ring within))
          (λ past. stays-past (begins_in f s b (drop age ring)) _ age k (length ring) h.first lt past ∙ sym (aged-past f s b k age p ring past))
          (cases_lt age k)
          ∙ ap (age_in f s b (p ∷ take k ring)) (sym e.0))
          (λ e. stays-wrapped (begins_in f s b (drop age ring)) _ age k (length ring) h.first lt (omega (arith, few, e.1)) ∙ sym (aged-first f s b k p ring other) ∙ ap (age_in f s b (p ∷ take k ring)) (sym e.0))
          (ages newest head n h.fits);
    }

new-first : (f s b : ℕ) (p : Place) (rest : List Place) → in_bucket f s b p ≡ true → first_where (in_bucket f s b) (p ∷ rest) ≡ 0
new-first f s b p rest here = rw here refl

new-age : (f s b : ℕ) (p : Place) (rest : List Place) → in_bucket f s b p ≡ true → age_in f s b (p ∷ rest) 0 ≡ 0
new-age f s b p rest here = rw here refl

-- the head of the note's own bucket is its number
head-new : (f s b : ℕ) (p : Place) (rest : List Place) (number : ℕ) → in_bucket f s b p ≡ true → number < 2 ^ 32 → IsHead f s b (p ∷ rest) number number
head-new f s b p rest number here n = record {
  fits = n;
  first = new-first f s b p rest here ∙ sym (new-age f s b p rest here) ∙ ap (age_in f s b (p ∷ rest)) (sym (newest-age number n));
}

pub kept-more : (ring : List Place) (heads : List ℕ) (f s places newest room bucket : ℕ) (p : Place) → AreKept ring heads f s places newest room → bucket ≡ bucket_of f s (whole p.fingerprint) → p.between ≡ first_where (comes_next f s (note_in p)) ring → AreKept (p ∷ take (places - 1) ring) (set heads bucket ((newest + 1) % 2 ^ 32)) f s places ((newest + 1) % 2 ^ 32) room
kept-more ring heads f s places newest room bucket p h own link =
    let l = length-take (places - 1) ring in
    let some = h.some in
    let sets = length-set heads bucket ((newest + 1) % 2 ^ 32) in
    let number : (newest + 1) % 2 ^ 32 < 2 ^ 32 = omega arith in
    record {
      some = h.some;
      limit = h.limit;
      few = omega (arith, l, some);
      room_for_all = h.room_for_all;
      fits = number;
      shifted = h.shifted;
      all_buckets = rw sets h.all_buckets;
      buckets = rw sets h.buckets;
      linked = linked-more f s (places - 1) p ring link h.linked;
      headed = λ b lt.
          let inside : b < length heads = omega (arith, lt, sets) in
          ⊎_elim
          (λ e. subst (IsHead f s b (p ∷ take (places - 1) ring) ((newest + 1) % 2 ^ 32)) (sym (ap (λ i. get_or (set heads i ((newest + 1) % 2 ^ 32)) b 0) (sym e.1) ∙ get_or-set_same heads b ((newest + 1) % 2 ^ 32) 0 inside)) (head-new f s b p (take (places - 1) ring) ((newest + 1) % 2 ^ 32) (eq-eqb _ _ (sym own ∙ sym e.1)) number))
          (λ e. subst (IsHead f s b (p ∷ take (places - 1) ring) ((newest + 1) % 2 ^ 32)) (sym (get_or-set_other heads bucket b ((newest + 1) % 2 ^ 32) 0 e.1)) (head-stays f s b (places - 1) p ring newest (get_or heads b 0) (ne_eqb (bucket_of f s (whole p.fingerprint)) b (λ q. e.1 (sym q ∙ sym own))) h.fits (let a = h.few in let c = h.limit in omega (arith, a, c)) (h.headed b inside)))
          (eqb_tells b bucket);
    }

pub bucket-within : (ring : List Place) (heads : List ℕ) (f s places newest room fingerprint : ℕ) → AreKept ring heads f s places newest room → bucket_of f s fingerprint < length heads
unfolding bucket_of
bucket-within ring heads f s places newest room fingerprint h =
    let all = h.all_buckets in
    let below : fingerprint * f % 2 ^ 64 < length heads * 2 ^ s = rw all (omega arith) in
    (div-lt_iff_lt-mul {k = 2 ^ s} {x = fingerprint * f % 2 ^ 64} {y = length heads} (pow_pos s)).1 below

pub notes-more : (p : Place) (ring : List Place) (places : ℕ) → 1 ≤ places → map note_in (p ∷ take (places - 1) ring) ≡ take places ((note_in p) ∷ map note_in ring)
notes-more p ring zero h = absurd (omega arith)
notes-more p ring (suc k) h = let e : suc k - 1 ≡ k = omega arith in rw (e, take-map note_in k ring) refl
