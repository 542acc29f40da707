-- A page that took the last free frame, and was released again: all is as it was.
use Rattle.std.proofs.Common.{◌≡◌, ℕ, zero, suc, ◌+◌, ◌<◌, Bool, cond, List, [], ◌∷◌, length, Option, Some, None, ap, sym, subst, ◌∙◌, ◌⊎◌, inl, inr, arith}
use Rattle.std.specs.Prelude.{slice_get, slice_set, slice_index_or}
use Rattle.std.proofs.lemmas.Bool.{eq-eqb}
use Rattle.std.proofs.lemmas.List.{length-set}
use Rattle.machine_frames.specs.FrameMap.{FrameMap, frame, used}
use Rattle.merge_core.specs.Shown.{Shown}
use Rattle.merge_core.proofs.FrameLemmas.{used_set}
use Rattle.lent_slots.specs.declared.holding.Holding.{Holding}
use Rattle.lent_slots.specs.Fits.{Fits}
use Rattle.lent_slots.specs.Slots.{holding, sharers, lent_slots, with_free, IsSpent}
use Rattle.lent_slots.proofs.SlotLists.{got_within, got_holding, set_same}
use Rattle.lent_slots.proofs.Lent.{IsPut}
use Rattle.lent_slots.proofs.Given.{IsTakenOut}

set_back : {X : Type 0} (xs : List X) (n : ℕ) (x y d : X) → n < length xs → slice_index_or xs n d ≡ y → slice_set (slice_set xs n x) n y ≡ xs
set_back [] n x y d h e = absurd (omega arith)
set_back (z ∷ xs) zero x y d h e = ap (λ w. w ∷ xs) (sym e)
set_back (z ∷ xs) (suc n) x y d h e = ap (λ ws. z ∷ ws) (set_back xs n x y d (omega arith) e)

-- what is left after that
pub record IsUndone (slots after : List (Option Holding)) (start new : Shown) : Type 0 where
  pub slots_are : after ≡ slots
  pub fits : Fits slots new
  pub frames : new.frames ≡ start.frames
  pub spent : IsSpent start.frames
  pub spare : used new.frames < length new.frames

module _ (client ppn mpn : ℕ) (page : List ℕ) (slots : List (Option Holding)) (start mid new : Shown)
    (free : slice_get slots ppn ≡ Some None) (room : used start.frames < length start.frames)
    (put : IsPut client ppn mpn page slots start mid) (full : used mid.frames ≡ length mid.frames)
    (out : IsTakenOut ppn mpn (lent_slots client ppn mpn slots) mid new) where
  there : ppn < length slots
  there = got_within slots ppn None free

  slots_back : slice_set (lent_slots client ppn mpn slots) ppn None ≡ slots
  slots_back = set_back slots ppn (Some (record { client = client; frame = mpn })) None None there (got_holding slots ppn None free)

  mid_total : length mid.frames ≡ length start.frames
  mid_total = ap length put.frames ∙ length-set start.frames mpn (Some page)

  was_free : frame start.frames mpn ≡ None
  was_free = pick put.held where
    pick : ((frame start.frames mpn ≡ None) ⊎ (frame start.frames mpn ≡ Some page)) → frame start.frames mpn ≡ None
    pick (inl e) = e
    pick (inr e) = absurd (let more = rw e at (used_set start.frames mpn (Some page) put.within) in omega (arith, more, ap used put.frames, full, room, mid_total))

  one_more : used mid.frames ≡ used start.frames + 1
  one_more = let more = rw was_free at (used_set start.frames mpn (Some page) put.within) in omega (arith, more, ap used put.frames)

  frames_back : new.frames ≡ start.frames
  frames_back =
      let none : sharers mpn (slice_set (lent_slots client ppn mpn slots) ppn None) ≡ 0 = ap (sharers mpn) slots_back ∙ put.alone was_free in
      out.frames
      ∙ ap (λ (b : Bool). with_free mid.frames (cond b (Some mpn) None)) (eq-eqb _ _ none)
      ∙ ap (λ (f : FrameMap). slice_set f mpn None) put.frames
      ∙ set_back start.frames mpn (Some page) None None put.within was_free

  pub undone : IsUndone slots (slice_set (lent_slots client ppn mpn slots) ppn None) start new
  undone = record {
    slots_are = slots_back;
    fits = subst (λ (s : List (Option Holding)). Fits s new) slots_back out.fits;
    frames = frames_back;
    spent = omega (arith, one_more, full, mid_total);
    spare = subst (λ (f : FrameMap). used f < length f) (sym frames_back) room;
  }

  pub held_there : holding (lent_slots client ppn mpn slots) ppn ≡ Some (record { client = client; frame = mpn })
  held_there = set_same slots ppn (Some (record { client = client; frame = mpn })) there
