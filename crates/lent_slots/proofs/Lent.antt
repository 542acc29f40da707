-- A page that was lent to a core as the page of a free slot.
use Rattle.std.proofs.Common.{◌≡◌, ◌≢◌, ℕ, ◌+◌, ◌<◌, Bool, true, false, cond, List, length, Option, Some, None, IsSome, is_some, refl, ap, sym, subst, ◌∙◌, ◌⊎◌, inl, inr, arith}
use Rattle.std.specs.Prelude.{slice_get, slice_set}
use Rattle.std.specs.Option.{option_map}
use Rattle.std.proofs.lemmas.Bool.{cases_eq, ne_eqb}
use Rattle.std.proofs.lemmas.List.{length-set}
use Rattle.std.proofs.lemmas.Option.{same_Some, none-some}
use Rattle.page_model.specs.Pages.{Slot, Unmapped, Private, Guest, State, bytes_of, used as pages_used, page_at, with_slot}
use Rattle.page_model.specs.Steps.{Outcome, Step, stays, stored, proposed, on_page, answered, step}
use Rattle.page_model.specs.Stored.{is_done, text_at}
use Rattle.page_model.specs.declared.request.Request.TheVariants.{Propose}
use Rattle.page_model.specs.declared.verdict.Verdict.{Verdict}
use Rattle.page_model.specs.declared.verdict.Verdict.TheVariants as v
use Rattle.page_model.proofs.Places.{at_same}
use Rattle.page_model.proofs.Texts.{Keeps as TextsKeep, other, proposed_keeps}
use Rattle.page_lending.specs.Lending.{page_stored, page_lent}
use Rattle.page_lending.specs.Laws.{at_once}
use Rattle.page_lending.proofs.Stores.{stored_at_once}
use Rattle.machine_frames.specs.FrameMap.{FrameMap, frame, IsTaken, used}
use Rattle.merge_core.specs.Pmap.{Pmap}
use Rattle.merge_core.specs.Shown.{Shown, state_of, FramesOfPages}
use Rattle.merge_core.specs.Stays.{frame_at, Change, Keeps, TakesFree, JoinsAnother, GivesUp, change_at, NamedFrame}
use Rattle.merge_core.specs.Lending.{Lends, both_changes, has_joined}
use Rattle.merge_core.specs.declared.lent.Lent.{Lent}
use Rattle.merge_core.proofs.FrameLemmas.{frame_same, frame_other, taken_within}
use Rattle.merge_core.proofs.Lends.{IsOffer, stays_put, joins, is_offer, stored_anew, over_zeros}
use Rattle.merge_core.proofs.Views.{page_in_is}
use Rattle.frame_laws.specs.BytesStay.{BytesStay, written_by_lend, written_by_store, LendKeepsBytes}
use Rattle.lent_slots.specs.declared.holding.Holding.{Holding}
use Rattle.lent_slots.specs.Fits.{Fits}
use Rattle.lent_slots.specs.Slots.{holding, lent_slots, sharers}
use Rattle.lent_slots.proofs.Owned.{shared_taken}
use Rattle.lent_slots.proofs.SlotLists.{frames_same, got_within, got_holding, set_same, set_other}
use Rattle.lent_slots.proofs.Moves.{IsFrame, is_free, is_taken, frame_case, not_taken, elsewhere, exists_by, exists_as, IsUnmapped, unmapped_page}

-- the steps of a page that has no frame, where one is free
module _ (hash : ℕ → List ℕ → ℕ) (s : State) (ppn salt : ℕ) (page : List ℕ) (size : length page ≡ 4096)
    (here : page_at s.guests 0 ppn ≡ Some (salt, Unmapped)) (room : pages_used s.guests ≢ s.total) where
  abbrev mid : List Guest
  mid = with_slot s.guests 0 ppn (Private page None)

  abbrev offer : Outcome
  offer = proposed hash mid 0 ppn salt (Private page None)

  abbrev mapped : Step
  mapped = at_once s (stays mid v.Mapped)

  stored_is : page_stored hash s 0 ppn page ≡ mapped
  stored_is =
      stored_at_once hash s 0 ppn page size
      ∙ ap (λ (o : Option (ℕ × Slot)). at_once s (on_page s.guests (λ salt slot. stored s.total s.guests 0 ppn 0 page salt slot) o)) here
      ∙ ap (at_once s) (stored_anew s.total s.guests 0 ppn 0 page salt (ne_eqb (pages_used s.guests) s.total room))
      ∙ ap (λ (bytes : List ℕ). at_once s (stays (with_slot s.guests 0 ppn (Private bytes None)) v.Mapped)) (over_zeros page size)

  there : page_at mid 0 ppn ≡ Some (salt, Private page None)
  there = at_same s.guests 0 ppn salt Unmapped (Private page None) here

  abbrev ends : Step
  ends = record { state = record { total = s.total; guests = offer.guests; entries = mapped.state.entries + 1 }; verdict = offer.verdict }

  offered : step hash mapped.state 0 (Propose ppn) ≡ ends
  unfolding step answered
  offered = ap (λ (o : Option (ℕ × Slot)). let x : Outcome = on_page mid (λ salt slot. proposed hash mid 0 ppn salt slot) o in let y : Step = record { state = record { total = s.total; guests = x.guests; entries = mapped.state.entries + 1 }; verdict = x.verdict } in y) there

  abbrev then_proposed : Step → Step
  then_proposed x = cond (is_done x.verdict) (step hash x.state 0 (Propose ppn)) x

  pub lent_is : page_lent hash s 0 ppn page ≡ ends
  unfolding page_lent
  lent_is = ap then_proposed stored_is ∙ offered

  pub stored_verdict : (page_stored hash s 0 ppn page).verdict ≡ v.Mapped
  stored_verdict = ap (λ (x : Step). x.verdict) stored_is

  -- the page reads as what was lent, and each other page as before
  texts : TextsKeep mid offer
  texts = proposed_keeps hash mid 0 ppn salt (Private page None) (ap (option_map (λ (x : ℕ × Slot). bytes_of x.1)) there)

  pub own_text : text_at offer.guests 0 ppn ≡ Some page
  own_text = texts.same 0 ppn ∙ ap (option_map (λ (x : ℕ × Slot). bytes_of x.1)) there

  pub other_text : (p : ℕ) → p ≢ ppn → text_at offer.guests 0 p ≡ text_at s.guests 0 p
  other_text p apart = texts.same 0 p ∙ other s.guests 0 ppn (Private page None) 0 p (λ _ e. apart (sym e))

  pub is_offered : IsOffer offer.verdict
  is_offered = is_offer hash mid offer.guests 0 ppn salt (Private page None) offer.verdict refl

-- the frame that the page has, whatever its proposal said
pub record HasFrame (o : Option ℕ) : Type 0 where
  pub mpn : ℕ
  pub has : o ≡ Some mpn

has_frame_by : (change : Change) (free : FrameMap) (ppn : ℕ) (old new : Pmap) → change ≡ Keeps → NamedFrame (both_changes TakesFree change) free 0 ppn old new → HasFrame (frame_at new 0 ppn)
has_frame_by Keeps free ppn old new e n = record { mpn = n.mpn; has = n.has }
has_frame_by TakesFree free ppn old new e n = record { mpn = n.mpn; has = n.has }
has_frame_by JoinsAnother free ppn old new e n = record { mpn = n.mpn; has = n.has }
has_frame_by GivesUp free ppn old new e n = absurd (gone e) where
  gone : GivesUp ≡ Keeps → ⊥
  gone h = cc

has_frame_joined : (change : Change) (free : FrameMap) (ppn : ℕ) (old new : Pmap) → change ≡ JoinsAnother → NamedFrame (both_changes TakesFree change) free 0 ppn old new → HasFrame (frame_at new 0 ppn)
has_frame_joined Keeps free ppn old new e n = record { mpn = n.mpn; has = n.has }
has_frame_joined TakesFree free ppn old new e n = record { mpn = n.mpn; has = n.has }
has_frame_joined JoinsAnother free ppn old new e n = record { mpn = n.mpn; has = n.has }
has_frame_joined GivesUp free ppn old new e n = absurd (gone e) where
  gone : GivesUp ≡ JoinsAnother → ⊥
  gone h = cc

has_frame_after : (verdict : Verdict) (free : FrameMap) (ppn : ℕ) (old new : Pmap) → IsOffer verdict → NamedFrame (both_changes TakesFree (change_at verdict)) free 0 ppn old new → HasFrame (frame_at new 0 ppn)
has_frame_after verdict free ppn old new (stays_put e) n = has_frame_by (change_at verdict) free ppn old new e n
has_frame_after verdict free ppn old new (joins e) n = has_frame_joined (change_at verdict) free ppn old new e n

-- a lend to a page without a frame writes no frame in place
written_none : (verdict : Verdict) (own : Option ℕ) → written_by_lend v.Mapped verdict own ≡ None
written_none verdict own = pick (has_joined verdict) where
  pick : (b : Bool) → cond b None (written_by_store v.Mapped own) ≡ None
  pick true = refl
  pick false = refl

-- what a lend to a free slot's page left
pub record IsPut (client ppn mpn : ℕ) (page : List ℕ) (slots : List (Option Holding)) (old new : Shown) : Type 0 where
  pub fits : Fits (lent_slots client ppn mpn slots) new
  pub within : mpn < length old.frames
  pub held : (frame old.frames mpn ≡ None) ⊎ (frame old.frames mpn ≡ Some page)
  pub frames : new.frames ≡ slice_set old.frames mpn (Some page)
  pub alone : frame old.frames mpn ≡ None → sharers mpn slots ≡ 0

module _ (law : LendKeepsBytes) (hash : ℕ → List ℕ → ℕ) (client ppn : ℕ) (page : List ℕ) (slots : List (Option Holding)) (lent : Lent) (old new : Shown)
    (size : length page ≡ 4096) (fits : Fits slots old) (before : FramesOfPages old) (after : FramesOfPages new)
    (lends : Lends hash 0 ppn page lent old new) (free : slice_get slots ppn ≡ Some None) (room : used old.frames < length old.frames) where
  there_is : ppn < length slots
  there_is = got_within slots ppn None free

  no_frame : frame_at old.pmap 0 ppn ≡ None
  no_frame = fits.frames ppn ∙ ap (option_map (λ (h : Holding). h.frame)) (got_holding slots ppn None free)

  unmapped : IsUnmapped (page_at old.pmap 0 ppn)
  unmapped = unmapped_page old ppn (fits.pages ppn there_is) no_frame

  at : page_at (state_of old).guests 0 ppn ≡ Some (unmapped.salt, Unmapped)
  at = page_in_is old.frames old.pmap 0 ppn unmapped.salt Unmapped unmapped.at

  not_full : pages_used (state_of old).guests ≢ (state_of old).total
  not_full e = omega (arith, before.count, e, room)

  abbrev result : Outcome
  result = offer hash (state_of old) ppn unmapped.salt page size at not_full

  stepped : record { state = state_of new; verdict = lent.verdict } ≡ ends hash (state_of old) ppn unmapped.salt page size at not_full
  stepped = lends.step ∙ lent_is hash (state_of old) ppn unmapped.salt page size at not_full

  guests_are : (state_of new).guests ≡ result.guests
  guests_are = ap (λ (x : Step). x.state.guests) stepped

  verdict_is : lent.verdict ≡ result.verdict
  verdict_is = ap (λ (x : Step). x.verdict) stepped

  pub same_total : length new.frames ≡ length old.frames
  same_total = ap (λ (x : Step). x.state.total) stepped

  text_new : text_at (state_of new).guests 0 ppn ≡ Some page
  text_new = ap (λ (gs : List Guest). text_at gs 0 ppn) guests_are ∙ own_text hash (state_of old) ppn unmapped.salt page size at not_full

  text_other : (p : ℕ) → p ≢ ppn → text_at (state_of new).guests 0 p ≡ text_at (state_of old).guests 0 p
  text_other p apart = ap (λ (gs : List Guest). text_at gs 0 p) guests_are ∙ other_text hash (state_of old) ppn unmapped.salt page size at not_full p apart

  first_is : (page_stored hash (state_of old) 0 ppn page).verdict ≡ v.Mapped
  first_is = stored_verdict hash (state_of old) ppn unmapped.salt page size at not_full

  pub framed : HasFrame (frame_at new.pmap 0 ppn)
  framed =
      let P : Verdict → Verdict → Type 0 = λ x y. NamedFrame (both_changes (change_at x) (change_at y)) old.frames 0 ppn old.pmap new.pmap in
      has_frame_after result.verdict old.frames ppn old.pmap new.pmap (is_offered hash (state_of old) ppn unmapped.salt page size at not_full)
      (subst (P v.Mapped) verdict_is (subst (λ (x : Verdict). P x lent.verdict) first_is lends.stay.named))

  stay : BytesStay None old new
  stay =
      let P : Option ℕ → Type 0 = λ w. BytesStay w old new in
      subst P (ap (λ (x : Verdict). written_by_lend x lent.verdict (frame_at new.pmap 0 ppn)) first_is ∙ written_none lent.verdict (frame_at new.pmap 0 ppn)) (law hash 0 ppn page lent old new after lends)

  keeps : (k : ℕ) → IsTaken old.frames k → IsTaken new.frames k → frame new.frames k ≡ frame old.frames k
  keeps k taken still = stay.same k taken still (none-some k)

  others : (x y : ℕ) → (x ≡ 0 → y ≡ ppn → ⊥) → frame_at new.pmap x y ≡ frame_at old.pmap x y
  others = lends.stay.others

  exists_after : (p : ℕ) → p < length slots → ((p ≡ ppn) ⊎ (p ≡ ppn → ⊥)) → IsSome (page_at (state_of new).guests 0 p)
  exists_after p less (inl e) = exists_as (state_of new).guests p page (ap (λ (i : ℕ). text_at (state_of new).guests 0 i) e ∙ text_new)
  exists_after p less (inr n) = exists_by (state_of old).guests (state_of new).guests p p (text_other p n) (fits.pages p less)

  pub exists_put : IsSome (page_at (state_of new).guests 0 ppn)
  exists_put = exists_after ppn there_is (inl refl)

  module _ (mpn : ℕ) (is : frame_at new.pmap 0 ppn ≡ Some mpn) (holds : frame new.frames mpn ≡ text_at (state_of new).guests 0 ppn) where
    abbrev slots' : List (Option Holding)
    slots' = lent_slots client ppn mpn slots

    new_bytes : frame new.frames mpn ≡ Some page
    new_bytes = holds ∙ text_new

    is_within : mpn < length old.frames
    is_within = let taken : IsTaken new.frames mpn = ap is_some new_bytes in omega (arith, taken_within new.frames mpn taken, same_total)

    frame_after : (p : ℕ) → ((p ≡ ppn) ⊎ (p ≡ ppn → ⊥)) → frame_at new.pmap 0 p ≡ option_map (λ (h : Holding). h.frame) (holding slots' p)
    frame_after p (inl e) =
        ap (λ (i : ℕ). frame_at new.pmap 0 i) e ∙ is
        ∙ sym (ap (λ (i : ℕ). option_map (λ (h : Holding). h.frame) (holding slots' i)) e ∙ ap (option_map (λ (h : Holding). h.frame)) (set_same slots ppn (Some (record { client = client; frame = mpn })) there_is))
    frame_after p (inr n) =
        others 0 p (λ _ e. n e) ∙ fits.frames p ∙ sym (ap (option_map (λ (h : Holding). h.frame)) (set_other slots ppn p (Some (record { client = client; frame = mpn })) n))

    frames_at : (k : ℕ) → ((k ≡ mpn) ⊎ (k ≡ mpn → ⊥)) → frame new.frames k ≡ frame (slice_set old.frames mpn (Some page)) k
    frames_at k (inl e) = ap (frame new.frames) e ∙ new_bytes ∙ sym (ap (frame (slice_set old.frames mpn (Some page))) e ∙ frame_same old.frames mpn (Some page) is_within)
    frames_at k (inr n) =
        elsewhere old new ppn before after others keeps k (λ e. none-some k (sym no_frame ∙ e)) (λ e. n (same_Some k mpn (sym e ∙ is)))
        ∙ sym (frame_other old.frames mpn k (Some page) n)

    unshared_then : ((sharers mpn slots ≡ 0) ⊎ (sharers mpn slots ≡ 0 → ⊥)) → frame old.frames mpn ≡ None → sharers mpn slots ≡ 0
    unshared_then (inl e) none = e
    unshared_then (inr n) none = absurd (not_taken (frame old.frames mpn) none (shared_taken old slots mpn fits before (omega (arith, n))))

    was : IsFrame (frame old.frames mpn) → (frame old.frames mpn ≡ None) ⊎ (frame old.frames mpn ≡ Some page)
    was (is_free e) = inl e
    was (is_taken t) = inr (sym (keeps mpn t (ap is_some new_bytes)) ∙ new_bytes)

    pub put_is : IsPut client ppn mpn page slots old new
    put_is = record {
      fits = record {
        one = lends.guests ∙ fits.one;
        pages = λ p less. exists_after p (omega (arith, less, length-set slots ppn (Some (record { client = client; frame = mpn })))) (cases_eq p ppn);
        frames = λ p. frame_after p (cases_eq p ppn);
      };
      within = is_within;
      held = was (frame_case (frame old.frames mpn));
      frames = frames_same new.frames (slice_set old.frames mpn (Some page)) (omega (arith, same_total, length-set old.frames mpn (Some page))) (λ k. frames_at k (cases_eq k mpn));
      alone = unshared_then (cases_eq (sharers mpn slots) 0);
    }

-- a core whose count of requests was restarted
abbrev pub restarted : Shown → Shown
restarted c = record { entries = 0; pmap = c.pmap; frames = c.frames; table = c.table }

pub fits_restarted : (slots : List (Option Holding)) (start old : Shown) → old ≡ restarted start → Fits slots start → Fits slots old
fits_restarted slots start old e fits =
    let P : Shown → Type 0 = λ c. Fits slots c in
    subst P (sym e) (record { one = fits.one; pages = fits.pages; frames = fits.frames })

pub room_restarted : (start old : Shown) → old ≡ restarted start → used start.frames < length start.frames → used old.frames < length old.frames
room_restarted start old e room = subst (λ (f : FrameMap). used f < length f) (sym (ap (λ (c : Shown). c.frames) e)) room

pub put_from : (client ppn mpn : ℕ) (page : List ℕ) (slots : List (Option Holding)) (start old new : Shown) → old ≡ restarted start → IsPut client ppn mpn page slots old new → IsPut client ppn mpn page slots start new
put_from client ppn mpn page slots start old new e p =
    let P : Shown → Type 0 = λ c. IsPut client ppn mpn page slots c new in
    let q = subst P e p in
    record { fits = q.fits; within = q.within; held = q.held; frames = q.frames; alone = q.alone }
