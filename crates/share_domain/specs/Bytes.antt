-- The bytes of slots that stay.
use Rattle.std.specs.Prelude.{◌≡◌, ℕ, List, Some}
use Rattle.machine_frames.specs.FrameMap.{frame}
use Rattle.lent_slots.specs.declared.holding.Holding.{Holding}
use Rattle.share_domain.specs.declared.holding.Slot.{Slot}
use Rattle.share_domain.specs.Domains.{DomainView, machine_at, held_in, after_release}
use Rattle.share_domain.specs.Leaving.{Leaves}

-- Each slot that stays a client's reads the same bytes after as before.
pub record BytesStay (old new : DomainView) : Type 0 where
  pub stay : (slot : Slot) (h : Holding) → held_in old.machines slot ≡ Some h → held_in new.machines slot ≡ Some h
      → frame (machine_at new.machines slot.machine).frames h.frame ≡ frame (machine_at old.machines slot.machine).frames h.frame

-- after every release, of the client's slot or of another one
abbrev pub ReleaseKeepsBytes : Type 0
ReleaseKeepsBytes = (client : ℕ) (slot : Slot) (d : DomainView) → BytesStay d (after_release client slot d)

-- after every call of a leave
abbrev pub LeaveKeepsBytes : Type 0
LeaveKeepsBytes = (client count : ℕ) (room after : List ℕ) (old new : DomainView) → Leaves client count room after old new → BytesStay old new
