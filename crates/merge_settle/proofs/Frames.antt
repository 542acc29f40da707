-- The distinct frames that pages name are as many as the frames in use.
use Rattle.std.proofs.Common.{◌≡◌, ℕ, zero, suc, ◌+◌, ◌<◌, Bool, true, false, cond, ◌||◌, List, [], ◌∷◌, length, Option, Some, None, refl, ap, sym, ◌∙◌, ◌⊎◌, inl, inr, arith}
use Rattle.std.specs.Prelude.{nat_eq, slice_get, is_some}
use Rattle.std.specs.List.{list_any}
use Rattle.std.specs.Option.{option_map}
use Rattle.std.proofs.lemmas.Bool.{cases_Bool, or_cases, or_left, or_right, eqb-true, eq-eqb, false≢true}
use Rattle.std.proofs.Math.Dec.{eqb-zero-suc, eqb-suc-zero, eqb-suc-suc}
use Rattle.std.proofs.lemmas.List.Sums.{sum_by-cons}
use Rattle.std.proofs.lemmas.List.Folds.{list_any-append}
use Rattle.page_model.specs.Pages.{SlotOf, Unmapped, Private, Shared, GuestOf, page_at}
use Rattle.page_model.proofs.Places.{same_page}
use Rattle.machine_frames.specs.FrameMap.{FrameMap, frame, used}
use Rattle.merge_core.specs.Pmap.{Pmap, frame_of}
use Rattle.merge_core.specs.Ties.{Owner}
use Rattle.merge_core.specs.Shown.{Shown, FramesOfPages}
use Rattle.merge_core.proofs.FrameLemmas.{taken_within}
use Rattle.merge_settle.specs.Frames.{frames_in, frames_of, distinct_numbers}

-- the number stands in the list
abbrev among : List ℕ → ℕ → Bool
among ns m = list_any (λ n. nat_eq n m) ns

-- 1 where the test passes, and 0 where not
abbrev one : Bool → ℕ
one t = cond t 1 0

-- how many of the numbers below n pass
abbrev tally : (ℕ → Bool) → ℕ → ℕ
tally p zero = 0
tally p (suc n) = one (p 0) + tally (λ m. p (suc m)) n

-- Tests that agree below n have equal tallies.
tally_same : (p q : ℕ → Bool) (n : ℕ) → ((m : ℕ) → m < n → p m ≡ q m) → tally p n ≡ tally q n
tally_same p q zero h = refl
tally_same p q (suc n) h =
    let first : one (p 0) ≡ one (q 0) = ap one (h 0 (omega arith)) in
    omega (arith, first, tally_same (λ m. p (suc m)) (λ m. q (suc m)) n (λ m l. h (suc m) (omega arith)))

-- No number passes a test that fails everywhere.
tally_none : (n : ℕ) → tally (λ m. false) n ≡ 0
tally_none zero = refl
tally_none (suc n) = omega (arith, tally_none n)

-- One more number that passes counts once, and not where it passed before.
tally_more : (p : ℕ → Bool) (m n : ℕ) → m < n → tally (λ k. nat_eq m k || p k) n ≡ cond (p m) 0 1 + tally p n
tally_more p m zero l = absurd (omega arith)
tally_more p zero (suc n) l =
    let rest : tally (λ k. nat_eq 0 (suc k) || p (suc k)) n ≡ tally (λ k. p (suc k)) n = tally_same _ _ n (λ k j. ap (λ (t : Bool). t || p (suc k)) (eqb-zero-suc k)) in
    omega (arith, rest, both (p 0)) where
      both : (t : Bool) → 1 ≡ cond t 0 1 + one t
      both true = omega arith
      both false = omega arith
tally_more p (suc m) (suc n) l =
    let rest : tally (λ k. nat_eq (suc m) (suc k) || p (suc k)) n ≡ tally (λ k. nat_eq m k || p (suc k)) n = tally_same _ _ n (λ k j. ap (λ (t : Bool). t || p (suc k)) (eqb-suc-suc m k)) in
    let first : one (nat_eq (suc m) 0 || p 0) ≡ one (p 0) = ap (λ (t : Bool). one (t || p 0)) (eqb-suc-zero m) in
    omega (arith, rest, first, tally_more (λ k. p (suc k)) m n (omega arith))

-- The distinct numbers of a list, all below n, are as many as the numbers below n that stand in it.
distinct_tally : (ns : List ℕ) (n : ℕ) → ((m : ℕ) → among ns m ≡ true → m < n) → distinct_numbers ns ≡ tally (among ns) n
distinct_tally [] n h = sym (tally_none n)
distinct_tally (x ∷ ns) n h =
    let own : x < n = h x (or_left (nat_eq x x) (among ns x) (eq-eqb x x refl)) in
    let rest : distinct_numbers ns ≡ tally (among ns) n = distinct_tally ns n (λ m e. h m (or_right (nat_eq x m) (among ns m) e)) in
    omega (arith, rest, tally_more (among ns) x n own)

-- The frames in use are as many as the numbers of taken frames.
used_tally : (frames : FrameMap) → used frames ≡ tally (λ m. is_some (frame frames m)) (length frames)
used_tally [] = refl
used_tally (o ∷ frames) = omega (arith, used_tally frames, sum_by-cons (λ (x : Option (List ℕ)). cond (is_some x) 1 0) o frames)

-- a guest's page that has this frame
record SlotOwner (slots : List (SlotOf ℕ)) (m : ℕ) : Type 0 where
  index : ℕ
  slot : SlotOf ℕ
  at : slice_get slots index ≡ Some slot
  frame : frame_of slot ≡ Some m

-- A page that comes later has the frame too.
slot_later : (s : SlotOf ℕ) (slots : List (SlotOf ℕ)) (m : ℕ) → SlotOwner slots m → SlotOwner (s ∷ slots) m
slot_later s slots m o = record { index = suc o.index; slot = o.slot; at = o.at; frame = o.frame }

-- The first page has the frame, or a later one has.
slot_first : (s : SlotOf ℕ) (slots : List (SlotOf ℕ)) (n m : ℕ) → frame_of s ≡ Some n → ((nat_eq n m ≡ true) ⊎ (among (frames_in slots) m ≡ true)) → (among (frames_in slots) m ≡ true → SlotOwner slots m) → SlotOwner (s ∷ slots) m
slot_first s slots n m f (inl e) rest = record { index = 0; slot = s; at = refl; frame = f ∙ ap Some (eqb-true n m e) }
slot_first s slots n m f (inr e) rest = slot_later s slots m (rest e)

-- A frame that a guest's pages name is that of one of them.
slot_owner : (slots : List (SlotOf ℕ)) (m : ℕ) → among (frames_in slots) m ≡ true → SlotOwner slots m
slot_owner [] m h = absurd (false≢true h)
slot_owner (Unmapped ∷ slots) m h = slot_later Unmapped slots m (slot_owner slots m h)
slot_owner (Private n hint ∷ slots) m h = slot_first (Private n hint) slots n m refl (or_cases (nat_eq n m) (among (frames_in slots) m) h) (slot_owner slots m)
slot_owner (Shared n ∷ slots) m h = slot_first (Shared n) slots n m refl (or_cases (nat_eq n m) (among (frames_in slots) m) h) (slot_owner slots m)

-- The first guest has a page with the frame, or a later one has.
guest_first : (g : GuestOf ℕ) (pmap : Pmap) (m : ℕ) → ((among (frames_in g.slots) m ≡ true) ⊎ (among (frames_of pmap) m ≡ true)) → (among (frames_of pmap) m ≡ true → Owner pmap m) → Owner (g ∷ pmap) m
guest_first g pmap m (inl e) rest =
    let o = slot_owner g.slots m e in
    record { guest = 0; ppn = o.index; salt = g.salt; slot = o.slot; at = ap (λ (x : Option (SlotOf ℕ)). option_map {U = ℕ × SlotOf ℕ} (λ s. (g.salt, s)) x) o.at; frame = o.frame }
guest_first g pmap m (inr e) rest =
    let o = rest e in
    record { guest = suc o.guest; ppn = o.ppn; salt = o.salt; slot = o.slot; at = o.at; frame = o.frame }

-- A frame that pages name is that of one of them.
owner_of : (pmap : Pmap) (m : ℕ) → among (frames_of pmap) m ≡ true → Owner pmap m
owner_of [] m h = absurd (false≢true h)
owner_of (g ∷ pmap) m h =
    guest_first g pmap m (or_cases (among (frames_in g.slots) m) (among (frames_of pmap) m) (sym (list_any-append (λ n. nat_eq n m) (frames_in g.slots) (frames_of pmap)) ∙ h)) (owner_of pmap m)

-- The frame of the first of a guest's pages is named.
own_named : (s : SlotOf ℕ) (slots : List (SlotOf ℕ)) (m : ℕ) → frame_of s ≡ Some m → among (frames_in (s ∷ slots)) m ≡ true
own_named Unmapped slots m f = cc
own_named (Private n hint) slots m f = or_left (nat_eq n m) (among (frames_in slots) m) (eq-eqb n m (cc))
own_named (Shared n) slots m f = or_left (nat_eq n m) (among (frames_in slots) m) (eq-eqb n m (cc))

-- What later pages of a guest name is named.
later_named : (s : SlotOf ℕ) (slots : List (SlotOf ℕ)) (m : ℕ) → among (frames_in slots) m ≡ true → among (frames_in (s ∷ slots)) m ≡ true
later_named Unmapped slots m h = h
later_named (Private n hint) slots m h = or_right (nat_eq n m) (among (frames_in slots) m) h
later_named (Shared n) slots m h = or_right (nat_eq n m) (among (frames_in slots) m) h

-- The frame of each of a guest's pages is named.
slot_named : (slots : List (SlotOf ℕ)) (b : ℕ) (s : SlotOf ℕ) (m : ℕ) → slice_get slots b ≡ Some s → frame_of s ≡ Some m → among (frames_in slots) m ≡ true
slot_named [] b s m at f = cc
slot_named (x ∷ slots) zero s m at f = own_named x slots m (let e : x ≡ s = cc in ap frame_of e ∙ f)
slot_named (x ∷ slots) (suc b) s m at f = later_named x slots m (slot_named slots b s m at f)

-- A page that stands after its guest's salt is the guest's page.
own_slot : (own salt : ℕ) (o : Option (SlotOf ℕ)) (s : SlotOf ℕ) → option_map {U = ℕ × SlotOf ℕ} (λ x. (own, x)) o ≡ Some (salt, s) → o ≡ Some s
own_slot own salt None s h = absurd (cc)
own_slot own salt (Some x) s h =
    let same = same_page (Some (own, x)) own salt x s refl h in
    ap (λ (y : SlotOf ℕ). Some y) same.1

-- The frame of each page is named.
page_named : (pmap : Pmap) (a b salt : ℕ) (s : SlotOf ℕ) (m : ℕ) → page_at pmap a b ≡ Some (salt, s) → frame_of s ≡ Some m → among (frames_of pmap) m ≡ true
page_named [] a b salt s m at f = cc
page_named (g ∷ pmap) zero b salt s m at f =
    list_any-append (λ n. nat_eq n m) (frames_in g.slots) (frames_of pmap)
    ∙ or_left (among (frames_in g.slots) m) (among (frames_of pmap) m) (slot_named g.slots b s m (own_slot g.salt salt (slice_get g.slots b) s at) f)
page_named (g ∷ pmap) (suc a) b salt s m at f =
    list_any-append (λ n. nat_eq n m) (frames_in g.slots) (frames_of pmap)
    ∙ or_right (among (frames_in g.slots) m) (among (frames_of pmap) m) (page_named pmap a b salt s m at f)

-- A frame is named exactly where it is taken.
named_taken : (c : Shown) → FramesOfPages c → (m : ℕ) → among (frames_of c.pmap) m ≡ is_some (frame c.frames m)
named_taken c h m = pick (cases_Bool (among (frames_of c.pmap) m)) (cases_Bool (is_some (frame c.frames m))) where
  pick : ((among (frames_of c.pmap) m ≡ true) ⊎ (among (frames_of c.pmap) m ≡ false)) → ((is_some (frame c.frames m) ≡ true) ⊎ (is_some (frame c.frames m) ≡ false)) → among (frames_of c.pmap) m ≡ is_some (frame c.frames m)
  pick (inl e) k = let o = owner_of c.pmap m e in e ∙ sym (h.taken o.guest o.ppn o.salt o.slot m o.at o.frame)
  pick (inr e) (inl k) = let o = h.owned m k in page_named c.pmap o.guest o.ppn o.salt o.slot m o.at o.frame ∙ sym k
  pick (inr e) (inr k) = e ∙ sym k

-- The distinct frames that the pages name are as many as the frames in use.
pub distinct_named : (c : Shown) → FramesOfPages c → distinct_numbers (frames_of c.pmap) ≡ used c.frames
distinct_named c h =
    let within : (m : ℕ) → among (frames_of c.pmap) m ≡ true → m < length c.frames = λ m e. taken_within c.frames m (sym (named_taken c h m) ∙ e) in
    distinct_tally (frames_of c.pmap) (length c.frames) within ∙ tally_same _ _ (length c.frames) (λ m l. named_taken c h m) ∙ sym (used_tally c.frames)
