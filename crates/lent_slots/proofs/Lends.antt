-- What a lend says of a machine, from what its parts did.
use Rattle.std.proofs.Common.{◌≡◌, ℕ, ◌+◌, ◌<◌, List, ◌∷◌, length, Option, Some, None, ap, sym, ◌∙◌, ◌⊎◌}
use Rattle.std.specs.Prelude.{slice_get, slice_set, slice_index}
use Rattle.machine_frames.specs.FrameMap.{FrameMap, frame, used}
use Rattle.merge_core.specs.Shown.{Shown}
use Rattle.lent_slots.specs.declared.holding.Holding.{Holding}
use Rattle.lent_slots.specs.Fits.{Sound}
use Rattle.lent_slots.specs.Slots.{MachineView, LendsPage, lent_slots, sharers}
use Rattle.lent_slots.proofs.SlotLists.{got_within, got_holding}
use Rattle.lent_slots.proofs.Sounds.{first_free, now_sharers}

pub same_view : (s t : List (Option Holding)) (f h : FrameMap) → s ≡ t → f ≡ h → (let v : MachineView = record { slots = s; frames = f } in v) ≡ record { slots = t; frames = h }
same_view s t f h e k = cc

pub lends_page : (core after : Shown) (slots new_slots : List (Option Holding)) (free rest counts : List ℕ) (client ppn mpn count : ℕ) (page : List ℕ) → Sound core slots free counts
    → free ≡ ppn ∷ rest → new_slots ≡ lent_slots client ppn mpn slots → after.frames ≡ slice_set core.frames mpn (Some page) → mpn < length core.frames
    → ((frame core.frames mpn ≡ None) ⊎ (frame core.frames mpn ≡ Some page)) → used after.frames < length after.frames → count ≡ slice_index counts mpn + 1
    → LendsPage client page (record { ppn = ppn; frame = mpn; sharers = count }) (record { slots = slots; frames = core.frames }) (record { slots = new_slots; frames = after.frames })
lends_page core after slots new_slots free rest counts client ppn mpn count page sound is lent frames within held spare counted =
    let was_free : slice_get slots ppn ≡ Some None = first_free slots free rest ppn sound.listed is in
    record {
      was_free = was_free;
      within = within;
      held = held;
      now = same_view new_slots (lent_slots client ppn mpn slots) after.frames (slice_set core.frames mpn (Some page)) lent frames;
      spare = spare;
      sharers =
          counted ∙ now_sharers slots (length core.frames) counts client ppn mpn sound.counted within (got_within slots ppn None was_free) (got_holding slots ppn None was_free)
          ∙ ap (sharers mpn) (sym lent);
    }
