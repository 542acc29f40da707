-- What holds of a core's frames where one page's frame changes, and each frame that stays taken keeps its bytes.
use Rattle.std.proofs.Common.{◌≡◌, ℕ, ◌<◌, zero, suc, List, [], ◌∷◌, length, Option, Some, None, IsSome, is_some, refl, ap, sym, subst, ◌∙◌, arith}
use Rattle.std.specs.Option.{option_map, option_and_then}
use Rattle.std.proofs.lemmas.Bool.{false≢true}
use Rattle.std.proofs.lemmas.List.{length-map}
use Rattle.std.proofs.lemmas.Option.{none-some}
use Rattle.page_model.specs.Pages.{SlotOf, Slot, Unmapped, Private, Shared, Guest, page_at, bytes_of}
use Rattle.page_model.specs.Stored.{text_at}
use Rattle.machine_frames.specs.FrameMap.{FrameMap, frame, IsTaken}
use Rattle.merge_core.specs.Pmap.{Pmap, slot_in, guest_in, frame_of}
use Rattle.merge_core.specs.Shown.{Shown, state_of, FramesOfPages}
use Rattle.merge_core.specs.Stays.{frame_at}
use Rattle.merge_core.proofs.Staying.{frame_is}
use Rattle.merge_core.proofs.Views.{page_in}

-- a frame is free or holds bytes
pub data IsFrame (o : Option (List ℕ)) : Type 0 where
  is_free : o ≡ None → IsFrame o
  is_taken : IsSome o → IsFrame o

pub frame_case : (o : Option (List ℕ)) → IsFrame o
frame_case None = is_free refl
frame_case (Some x) = is_taken refl

pub not_taken : (o : Option (List ℕ)) → o ≡ None → IsSome o → ⊥
not_taken o e h = false≢true (let P : Option (List ℕ) → Type 0 = λ x. IsSome x in subst P e h)

-- a page by its frame
pub record PageOf (o : Option (ℕ × SlotOf ℕ)) (m : ℕ) : Type 0 where
  pub salt : ℕ
  pub slot : SlotOf ℕ
  pub at : o ≡ Some (salt, slot)
  pub frame : frame_of slot ≡ Some m

pub page_of : (o : Option (ℕ × SlotOf ℕ)) (m : ℕ) → option_and_then (λ x. frame_of x.1) o ≡ Some m → PageOf o m
page_of None m e = absurd (none-some m e)
page_of (Some (salt, slot)) m e = record { salt = salt; slot = slot; at = refl; frame = e }

-- the frame of a page is taken
pub taken_at : (c : Shown) (a b m : ℕ) → FramesOfPages c → frame_at c.pmap a b ≡ Some m → IsTaken c.frames m
taken_at c a b m whole is = let p = page_of (page_at c.pmap a b) m is in whole.taken a b p.salt p.slot m p.at p.frame

-- a page of a guest is a page of one of the guests
guest_within : (pmap : Pmap) (a b : ℕ) (x : ℕ × SlotOf ℕ) → page_at pmap a b ≡ Some x → a < length pmap
guest_within [] a b x e = absurd (none-some x e)
guest_within (g ∷ gs) zero b x e = omega arith
guest_within (g ∷ gs) (suc a) b x e = omega (arith, guest_within gs a b x e)

-- the only guest
pub only_guest : (c : Shown) (a b : ℕ) (x : ℕ × SlotOf ℕ) → length (state_of c).guests ≡ 1 → page_at c.pmap a b ≡ Some x → a ≡ 0
only_guest c a b x one e = omega (arith, guest_within c.pmap a b x e, length-map c.pmap (guest_in c.frames), one)

module _ (old new : Shown) (ppn : ℕ) (before : FramesOfPages old) (after : FramesOfPages new)
    (others : (x y : ℕ) → (x ≡ 0 → y ≡ ppn → ⊥) → frame_at new.pmap x y ≡ frame_at old.pmap x y)
    (bytes : (k : ℕ) → IsTaken old.frames k → IsTaken new.frames k → frame new.frames k ≡ frame old.frames k) where
  -- a page of a frame that isn't the named page's, before or after, has it before and after
  apart : (c : Shown) (k x y : ℕ) → (frame_at c.pmap 0 ppn ≡ Some k → ⊥) → frame_at c.pmap x y ≡ Some k → x ≡ 0 → y ≡ ppn → ⊥
  apart c k x y not is e f = not (sym (ap (λ (i : ℕ). frame_at c.pmap i y) e ∙ ap (λ (i : ℕ). frame_at c.pmap 0 i) f) ∙ is)

  stays_taken : (k : ℕ) → (frame_at old.pmap 0 ppn ≡ Some k → ⊥) → IsTaken old.frames k → IsTaken new.frames k
  stays_taken k not taken =
      let o = before.owned k taken in
      let is : frame_at old.pmap o.guest o.ppn ≡ Some k = frame_is old.pmap o.guest o.ppn o.salt o.slot o.at ∙ o.frame in
      taken_at new o.guest o.ppn k after (others o.guest o.ppn (apart old k o.guest o.ppn not is) ∙ is)

  was_taken : (k : ℕ) → (frame_at new.pmap 0 ppn ≡ Some k → ⊥) → IsTaken new.frames k → IsTaken old.frames k
  was_taken k not taken =
      let o = after.owned k taken in
      let is : frame_at new.pmap o.guest o.ppn ≡ Some k = frame_is new.pmap o.guest o.ppn o.salt o.slot o.at ∙ o.frame in
      taken_at old o.guest o.ppn k before (sym (others o.guest o.ppn (apart new k o.guest o.ppn not is)) ∙ is)

  -- each frame that isn't the named page's before or after stays as it was
  pub elsewhere : (k : ℕ) → (frame_at old.pmap 0 ppn ≡ Some k → ⊥) → (frame_at new.pmap 0 ppn ≡ Some k → ⊥) → frame new.frames k ≡ frame old.frames k
  elsewhere k was is = pick (frame_case (frame old.frames k)) (frame_case (frame new.frames k)) where
    pick : IsFrame (frame old.frames k) → IsFrame (frame new.frames k) → frame new.frames k ≡ frame old.frames k
    pick (is_taken t) u = bytes k t (stays_taken k was t)
    pick (is_free e) (is_free f) = f ∙ sym e
    pick (is_free e) (is_taken u) = absurd (not_taken _ e (was_taken k is u))

-- whether a page exists, by its text
some_text : (o : Option (ℕ × Slot)) → is_some (option_map (λ (x : ℕ × Slot). bytes_of x.1) o) ≡ is_some o
some_text None = refl
some_text (Some x) = refl

pub exists_by : (old new : List Guest) (p q : ℕ) → text_at new 0 p ≡ text_at old 0 q → IsSome (page_at old 0 q) → IsSome (page_at new 0 p)
exists_by old new p q e h = sym (some_text (page_at new 0 p)) ∙ ap is_some e ∙ some_text (page_at old 0 q) ∙ h

pub exists_as : (gs : List Guest) (p : ℕ) (bytes : List ℕ) → text_at gs 0 p ≡ Some bytes → IsSome (page_at gs 0 p)
exists_as gs p bytes e = sym (some_text (page_at gs 0 p)) ∙ ap is_some e

-- a page that exists and has no frame is unmapped
pub record IsUnmapped (o : Option (ℕ × SlotOf ℕ)) : Type 0 where
  pub salt : ℕ
  pub at : o ≡ Some (salt, Unmapped)

unmapped_by : (frames : FrameMap) (o : Option (ℕ × SlotOf ℕ)) → IsSome (option_map (λ (x : ℕ × SlotOf ℕ). let p : ℕ × Slot = (x.0, slot_in frames x.1) in p) o) → option_and_then (λ x. frame_of x.1) o ≡ None → IsUnmapped o
unmapped_by frames None some e = absurd (false≢true some)
unmapped_by frames (Some (salt, Unmapped)) some e = record { salt = salt; at = refl }
unmapped_by frames (Some (salt, Private m hint)) some e = absurd (none-some m (sym e))
unmapped_by frames (Some (salt, Shared m)) some e = absurd (none-some m (sym e))

pub unmapped_page : (c : Shown) (ppn : ℕ) → IsSome (page_at (state_of c).guests 0 ppn) → frame_at c.pmap 0 ppn ≡ None → IsUnmapped (page_at c.pmap 0 ppn)
unmapped_page c ppn some none = unmapped_by c.frames (page_at c.pmap 0 ppn) (sym (ap is_some (page_in c.frames c.pmap 0 ppn)) ∙ some) none
