-- What a packet leaves as it is.
use Rattle.std.specs.Prelude.{◌≡◌, ℕ, ◌==◌, false, Option, Some, None}
use Rattle.lent_slots.specs.declared.holding.Holding.{Holding}
use Rattle.share_domain.specs.declared.holding.Slot.{Slot}
use Rattle.share_domain.specs.Domains.{DomainView, held_in}
use Rattle.host_sessions.specs.declared.session.Session.{Session}
use Rattle.host_sessions.specs.declared.session.Session.TheVariants as session

-- a slot is held by another client
abbrev pub IsAnothers : ℕ → Option Holding → Type 0
IsAnothers client None = ⊥
IsAnothers client (Some h) = (h.client == client) ≡ false

-- a slot is held, and not by the client of this session
abbrev pub IsNotOf : Session → Option Holding → Type 0
IsNotOf session.Free None = ⊥
IsNotOf session.Free (Some h) = Unit {0}
IsNotOf (session.Silent name) None = ⊥
IsNotOf (session.Silent name) (Some h) = Unit {0}
IsNotOf (session.Refused fault) None = ⊥
IsNotOf (session.Refused fault) (Some h) = Unit {0}
IsNotOf (session.Begun b) held = IsAnothers b.client held

-- all slots that other clients hold are theirs still, with the same frames
abbrev pub Spares : ℕ → DomainView → DomainView → Type 0
Spares client old new = (slot : Slot) → IsAnothers client (held_in old.machines slot) → held_in new.machines slot ≡ held_in old.machines slot

abbrev pub Stays : Session → DomainView → DomainView → Type 0
Stays s old new = (slot : Slot) → IsNotOf s (held_in old.machines slot) → held_in new.machines slot ≡ held_in old.machines slot

-- Every client but the session's has the same slots before and after, with the same frames: it loses none, and it gets none.
pub record SparesOthers (s : Session) (old new : DomainView) : Type 0 where
  pub frames : new.frames ≡ old.frames
  pub stay : Stays s old new
  pub no_more : Stays s new old
