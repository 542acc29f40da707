-- A slot's page that was released at a core.
use Rattle.std.proofs.Common.{◌≡◌, ℕ, ◌+◌, ◌<◌, Bool, true, false, cond, List, length, Option, Some, None, IsSome, refl, ap, sym, subst, ◌∙◌, ◌⊎◌, inl, inr, arith}
use Rattle.std.specs.Prelude.{slice_set, ◌==◌}
use Rattle.std.specs.Option.{option_map}
use Rattle.std.proofs.lemmas.Bool.{cases_eq, eqb-true, eqb-false}
use Rattle.std.proofs.lemmas.List.{length-set}
use Rattle.std.proofs.lemmas.Option.{same_Some, none-some}
use Rattle.page_model.specs.Pages.{SlotOf, Slot, Unmapped, Private, Shared, Guest, bytes_of, blank, page_at, with_slot}
use Rattle.page_model.specs.Steps.{Outcome, Step, released, on_page, answered, step}
use Rattle.page_model.specs.Stored.{text_at}
use Rattle.page_model.specs.declared.request.Request.TheVariants.{Release}
use Rattle.page_model.specs.declared.verdict.Verdict.{Verdict}
use Rattle.page_model.specs.declared.verdict.Verdict.TheVariants as v
use Rattle.page_model.proofs.Texts.{changed, other}
use Rattle.machine_frames.specs.FrameMap.{FrameMap, frame, IsTaken}
use Rattle.merge_core.specs.Pmap.{slot_in, frame_of}
use Rattle.merge_core.specs.Shown.{Shown, state_of, FramesOfPages}
use Rattle.merge_core.specs.Stays.{frame_at, OthersKeep}
use Rattle.merge_core.specs.Applying.{Applies}
use Rattle.merge_core.proofs.FrameLemmas.{frame_same, frame_other, taken_within}
use Rattle.merge_core.proofs.Staying.{frame_is}
use Rattle.merge_core.proofs.Views.{page_in_is}
use Rattle.frame_laws.specs.BytesStay.{BytesStay, RequestKeepsBytes}
use Rattle.lent_slots.specs.declared.holding.Holding.{Holding}
use Rattle.lent_slots.specs.Fits.{Fits}
use Rattle.lent_slots.specs.Slots.{holding, sharers, left_free, with_free}
use Rattle.lent_slots.proofs.SlotLists.{frames_same, held_within, set_same, set_other, unshared, Sharer, some_sharer}
use Rattle.lent_slots.proofs.Lent.{restarted}
use Rattle.lent_slots.proofs.Moves.{IsFrame, is_free, is_taken, frame_case, elsewhere, taken_at, only_guest, exists_by, exists_as, PageOf, page_of}

-- a release of a mapped page
record IsGiven (gs : List Guest) (ppn : ℕ) (o : Outcome) : Type 0 where
  is_free : Bool
  guests : o.guests ≡ with_slot gs 0 ppn Unmapped
  verdict : o.verdict ≡ v.Released is_free

released_is : (frames : FrameMap) (gs : List Guest) (ppn salt m : ℕ) (slot : SlotOf ℕ) → frame_of slot ≡ Some m → IsGiven gs ppn (released gs 0 ppn salt (slot_in frames slot))
unfolding released
released_is frames gs ppn salt m Unmapped e = absurd (none-some m e)
released_is frames gs ppn salt m (Private n hint) e = record { is_free = true; guests = refl; verdict = refl }
released_is frames gs ppn salt m (Shared n) e = record { is_free = _; guests = refl; verdict = refl }

-- the page's own text, before
text_of : (gs : List Guest) (ppn salt : ℕ) (slot : Slot) → page_at gs 0 ppn ≡ Some (salt, slot) → text_at gs 0 ppn ≡ Some (bytes_of slot)
text_of gs ppn salt slot e = ap (option_map (λ (x : ℕ × Slot). bytes_of x.1)) e

-- what a release of a held slot's page left
pub record IsTakenOut (ppn mpn : ℕ) (slots : List (Option Holding)) (old new : Shown) : Type 0 where
  pub fits : Fits (slice_set slots ppn None) new
  pub frames : new.frames ≡ with_free old.frames (left_free (slice_set slots ppn None) mpn)

module _ (law : RequestKeepsBytes) (hash : ℕ → List ℕ → ℕ) (ppn : ℕ) (h : Holding) (slots : List (Option Holding)) (verdict : Verdict) (old new : Shown)
    (fits : Fits slots old) (before : FramesOfPages old) (after : FramesOfPages new)
    (applies : Applies hash 0 (Release ppn) verdict old new) (held : holding slots ppn ≡ Some h) where
  abbrev slots' : List (Option Holding)
  slots' = slice_set slots ppn None

  there_is : ppn < length slots
  there_is = held_within slots ppn h held

  own : frame_at old.pmap 0 ppn ≡ Some h.frame
  own = fits.frames ppn ∙ ap (option_map (λ (x : Holding). x.frame)) held

  mine : PageOf (page_at old.pmap 0 ppn) h.frame
  mine = page_of (page_at old.pmap 0 ppn) h.frame own

  at : page_at (state_of old).guests 0 ppn ≡ Some (mine.salt, slot_in old.frames mine.slot)
  at = page_in_is old.frames old.pmap 0 ppn mine.salt mine.slot mine.at

  given : IsGiven (state_of old).guests ppn (released (state_of old).guests 0 ppn mine.salt (slot_in old.frames mine.slot))
  given = released_is old.frames (state_of old).guests ppn mine.salt h.frame mine.slot mine.frame

  abbrev ends : Option (ℕ × Slot) → Step
  ends o =
      let x : Outcome = on_page (state_of old).guests (λ salt slot. released (state_of old).guests 0 ppn salt slot) o in
      record { state = record { total = (state_of old).total; guests = x.guests; entries = old.entries + 1 }; verdict = x.verdict }

  stepped : record { state = state_of new; verdict = verdict } ≡ ends (Some (mine.salt, slot_in old.frames mine.slot))
  unfolding step answered
  stepped = applies.step ∙ ap ends at

  guests_are : (state_of new).guests ≡ with_slot (state_of old).guests 0 ppn Unmapped
  guests_are = ap (λ (x : Step). x.state.guests) stepped ∙ given.guests

  verdict_is : verdict ≡ v.Released given.is_free
  verdict_is = ap (λ (x : Step). x.verdict) stepped ∙ given.verdict

  same_total : length new.frames ≡ length old.frames
  same_total = ap (λ (x : Step). x.state.total) stepped

  gone : frame_at new.pmap 0 ppn ≡ None
  gone =
      let P : Verdict → Type 0 = λ x. OthersKeep old.frames 0 ppn x old.pmap new.pmap in
      (subst P verdict_is applies.stay).named

  stay : BytesStay None old new
  stay = law hash 0 (Release ppn) verdict old new after applies

  keeps : (k : ℕ) → IsTaken old.frames k → IsTaken new.frames k → frame new.frames k ≡ frame old.frames k
  keeps k taken still = stay.same k taken still (none-some k)

  others : (x y : ℕ) → (x ≡ 0 → y ≡ ppn → ⊥) → frame_at new.pmap x y ≡ frame_at old.pmap x y
  others = applies.stay.others

  exists_after : (p : ℕ) → p < length slots → ((p ≡ ppn) ⊎ (p ≡ ppn → ⊥)) → IsSome (page_at (state_of new).guests 0 p)
  exists_after p less (inl e) =
      exists_as (state_of new).guests p blank
      (ap (λ (i : ℕ). text_at (state_of new).guests 0 i) e ∙ ap (λ (gs : List Guest). text_at gs 0 ppn) guests_are
      ∙ changed (state_of old).guests 0 ppn Unmapped (bytes_of (slot_in old.frames mine.slot)) (text_of (state_of old).guests ppn mine.salt (slot_in old.frames mine.slot) at))
  exists_after p less (inr n) =
      exists_by (state_of old).guests (state_of new).guests p p
      (ap (λ (gs : List Guest). text_at gs 0 p) guests_are ∙ other (state_of old).guests 0 ppn Unmapped 0 p (λ _ e. n (sym e))) (fits.pages p less)

  frame_after : (p : ℕ) → ((p ≡ ppn) ⊎ (p ≡ ppn → ⊥)) → frame_at new.pmap 0 p ≡ option_map (λ (x : Holding). x.frame) (holding slots' p)
  frame_after p (inl e) =
      ap (λ (i : ℕ). frame_at new.pmap 0 i) e ∙ gone
      ∙ sym (ap (λ (i : ℕ). option_map (λ (x : Holding). x.frame) (holding slots' i)) e ∙ ap (option_map (λ (x : Holding). x.frame)) (set_same slots ppn None there_is))
  frame_after p (inr n) = others 0 p (λ _ e. n e) ∙ fits.frames p ∙ sym (ap (option_map (λ (x : Holding). x.frame)) (set_other slots ppn p None n))

  after_fits : Fits slots' new
  after_fits = record {
    one = applies.guests ∙ fits.one;
    pages = λ p less. exists_after p (omega (arith, less, length-set slots ppn None)) (cases_eq p ppn);
    frames = λ p. frame_after p (cases_eq p ppn);
  }

  -- each other frame stays as it was
  elsewhere_same : (k : ℕ) → (k ≡ h.frame → ⊥) → frame new.frames k ≡ frame old.frames k
  elsewhere_same k n = elsewhere old new ppn before after others keeps k (λ e. n (same_Some k h.frame (sym e ∙ own))) (λ e. none-some k (sym gone ∙ e))

  own_taken : IsTaken old.frames h.frame
  own_taken = taken_at old 0 ppn h.frame before own

  -- the frame stays if another slot has it
  kept : Sharer h.frame slots' → frame new.frames h.frame ≡ frame old.frames h.frame
  kept s =
      let has : frame_at new.pmap 0 s.ppn ≡ Some h.frame = frame_after s.ppn (cases_eq s.ppn ppn) ∙ ap (option_map (λ (x : Holding). x.frame)) s.at ∙ ap (λ (m : ℕ). Some m) s.frame in
      keeps h.frame own_taken (taken_at new 0 s.ppn h.frame after has)

  -- and is free if none does
  freed_now : sharers h.frame slots' ≡ 0 → frame new.frames h.frame ≡ None
  freed_now none = pick (frame_case (frame new.frames h.frame)) where
    pick : IsFrame (frame new.frames h.frame) → frame new.frames h.frame ≡ None
    pick (is_free e) = e
    pick (is_taken t) =
        let o = after.owned h.frame t in
        let first : o.guest ≡ 0 = only_guest new o.guest o.ppn (o.salt, o.slot) (applies.guests ∙ fits.one) o.at in
        let has : frame_at new.pmap 0 o.ppn ≡ Some h.frame = ap (λ (i : ℕ). frame_at new.pmap i o.ppn) (sym first) ∙ frame_is new.pmap o.guest o.ppn o.salt o.slot o.at ∙ o.frame in
        absurd (owned_by (holding slots' o.ppn) refl (sym (frame_after o.ppn (cases_eq o.ppn ppn)) ∙ has)) where
          owned_by : (x : Option Holding) → holding slots' (after.owned h.frame t).ppn ≡ x → option_map (λ (y : Holding). y.frame) x ≡ Some h.frame → ⊥
          owned_by None e f = none-some h.frame f
          owned_by (Some y) e f = unshared h.frame slots' (after.owned h.frame t).ppn y none e (same_Some y.frame h.frame f)

  frames_at : (b : Bool) → (sharers h.frame slots' == 0) ≡ b → (k : ℕ) → ((k ≡ h.frame) ⊎ (k ≡ h.frame → ⊥)) → frame new.frames k ≡ frame (with_free old.frames (cond b (Some h.frame) None)) k
  frames_at true is k (inl e) =
      ap (frame new.frames) e ∙ freed_now (eqb-true _ _ is) ∙ sym (ap (frame (slice_set old.frames h.frame None)) e ∙ frame_same old.frames h.frame None (taken_within old.frames h.frame own_taken))
  frames_at false is k (inl e) = ap (frame new.frames) e ∙ kept (some_sharer h.frame slots' (eqb-false _ _ is)) ∙ sym (ap (frame old.frames) e)
  frames_at true is k (inr n) = elsewhere_same k n ∙ sym (frame_other old.frames h.frame k None n)
  frames_at false is k (inr n) = elsewhere_same k n

  with_total : (b : Bool) → length (with_free old.frames (cond b (Some h.frame) None)) ≡ length old.frames
  with_total true = length-set old.frames h.frame None
  with_total false = refl

  pub take_is : IsTakenOut ppn h.frame slots old new
  take_is = record {
    fits = after_fits;
    frames = frames_same new.frames (with_free old.frames (left_free slots' h.frame)) (same_total ∙ sym (with_total (sharers h.frame slots' == 0))) (λ k. frames_at (sharers h.frame slots' == 0) refl k (cases_eq k h.frame));
  }

pub take_from : (ppn mpn : ℕ) (slots : List (Option Holding)) (start old new : Shown) → old ≡ restarted start → IsTakenOut ppn mpn slots old new → IsTakenOut ppn mpn slots start new
take_from ppn mpn slots start old new e p =
    let P : Shown → Type 0 = λ c. IsTakenOut ppn mpn slots c new in
    let q = subst P e p in
    record { fits = q.fits; frames = q.frames }
