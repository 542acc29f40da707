-- The bytes of slots that stay.
use Rattle.std.specs.Prelude.{◌≡◌, ℕ, Some}
use Rattle.machine_frames.specs.FrameMap.{frame}
use Rattle.lent_slots.specs.declared.holding.Holding.{Holding}
use Rattle.lent_slots.specs.Slots.{MachineView, holding}

-- Each slot that stays a client's reads the same bytes after as before.
pub record BytesStayIn (old new : MachineView) : Type 0 where
  pub stay : (ppn : ℕ) (h : Holding) → holding old.slots ppn ≡ Some h → holding new.slots ppn ≡ Some h → frame new.frames h.frame ≡ frame old.frames h.frame
