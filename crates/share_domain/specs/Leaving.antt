-- A client's end: its slots are released, a number of them in each call.
use Rattle.std.specs.Prelude.{◌≡◌, ◌↔◌, ℕ, zero, suc, ◌+◌, Bool, true, false, List, [], ◌∷◌, ◌++◌, length, drop, Option, Some, None, slice_get, slice_set, position}
use Rattle.share_domain.specs.declared.client.Presence.{Presence}
use Rattle.share_domain.specs.declared.client.Presence.TheVariants.{Out, In, Leaving}
use Rattle.share_domain.specs.declared.holding.Slot.{Slot}
use Rattle.lent_slots.specs.Slots.{MachineView, is_of}
use Rattle.share_domain.specs.Domains.{DomainView, with_released, freed_in}
use Rattle.share_domain.specs.Numbers.{frame_number}

-- a slot of this machine if there is one, and otherwise a later one
abbrev pub or_later : ℕ → Option ℕ → Option Slot → Option Slot
or_later m (Some ppn) later = Some (record { machine = m; ppn = ppn })
or_later m None later = later

-- the first slot of a client, if the first machine's number is m
abbrev pub slot_from : ℕ → ℕ → List MachineView → Option Slot
slot_from client m [] = None
slot_from client m (machine ∷ machines) = or_later m (position (is_of client) machine.slots) (slot_from client (m + 1) machines)

-- the first slot of a client
abbrev pub first_slot : ℕ → List MachineView → Option Slot
first_slot client machines = slot_from client 0 machines

-- the numbers of the frames that slots freed, one after the other, with NO_FRAME for a slot that freed none; and the machines after that
pub record Left : Type 0 where
  pub numbers : List ℕ
  pub machines : List MachineView

abbrev pub at_first : Option Slot → List MachineView → (Slot → Left) → Left
at_first None machines f = record { numbers = []; machines = machines }
at_first (Some slot) machines f = f slot

-- the client's first slot is released, so many times; nothing happens where it has none
unfoldable pub left_by : ℕ → ℕ → ℕ → List MachineView → Left
left_by frames client zero machines = record { numbers = []; machines = machines }
left_by frames client (suc n) machines =
    at_first (first_slot client machines) machines
    (λ slot. let rest = left_by frames client n (with_released slot machines) in
    record { numbers = frame_number (freed_in frames slot machines) ∷ rest.numbers; machines = rest.machines })

-- whether the client is out: it is if it had no slot
abbrev pub presence_of : Option Slot → Presence
presence_of None = Out
presence_of (Some slot) = Leaving

-- whether a client with this presence has entered, and isn't out yet
abbrev pub is_here : Option Presence → Bool
is_here None = false
is_here (Some Out) = false
is_here (Some In) = true
is_here (Some Leaving) = true

-- A client left, by so many slots at most as the room has places. From the first of them on, the room holds for each slot
-- released the frame that is free since, or NO_FRAME. The client is out if it had no slot, and exactly then none was released.
pub record Leaves (client count : ℕ) (room after : List ℕ) (old new : DomainView) : Type 0 where
  pub here : is_here (slice_get old.clients client) ≡ true
  pub counted : count ≡ length (left_by old.frames client (length room) old.machines).numbers
  pub none : (count ≡ 0) ↔ (first_slot client old.machines ≡ None)
  pub written : after ≡ (left_by old.frames client (length room) old.machines).numbers ++ drop count room
  pub now : new ≡ record {
    salt = old.salt;
    frames = old.frames;
    machines = (left_by old.frames client (length room) old.machines).machines;
    clients = slice_set old.clients client (presence_of (first_slot client old.machines));
  }

-- there is no such client: nothing changed
pub record StaysOut (client : ℕ) (room after : List ℕ) (old new : DomainView) : Type 0 where
  pub out : is_here (slice_get old.clients client) ≡ false
  pub written : after ≡ room
  pub now : new ≡ old
