-- How the fingerprints that are kept fit the domain.
use Rattle.std.specs.Prelude.{◌≡◌, ℕ, ◌<◌, ◌≤◌, List, [], ◌∷◌, length, Option, Some, None, slice_set}
use Rattle.lent_slots.specs.declared.holding.Holding.{Holding}
use Rattle.lent_slots.specs.Slots.{MachineView, holding}
use Rattle.share_domain.specs.declared.number.TheConstants.{NO_FRAME}
use Rattle.share_domain.specs.Domains.{DomainView}
use Rattle.frame_fingerprints.specs.Held.{Fingerprints}
use Rattle.fingerprint_domain.specs.Known.{fingerprints_in}

-- a machine has so many frames, and its slots have some of these
pub record HasFrames (frames : ℕ) (m : MachineView) : Type 0 where
  pub count : length m.frames ≡ frames
  pub within : (ppn : ℕ) (h : Holding) → holding m.slots ppn ≡ Some h → h.frame < frames

abbrev pub EachHas : ℕ → List MachineView → Type 0
EachHas frames [] = Unit {0}
EachHas frames (m ∷ ms) = HasFrames frames m × EachHas frames ms

-- the fingerprints are those of the frames in use
pub record Reflects (salt : ℕ) (d : DomainView) (f : Fingerprints) : Type 0 where
  pub held : f.held ≡ fingerprints_in salt d.machines
  pub each : EachHas d.frames d.machines
  pub few : length f.held ≤ NO_FRAME

-- the fingerprints after these frames were freed, one after the other; NO_FRAME names none
unfoldable pub after_freed : List ℕ → List (Option ℕ) → List (Option ℕ)
after_freed [] held = held
after_freed (t ∷ ts) held = after_freed ts (slice_set held t None)
