-- Which machines are open: they refuse no page.
use Rattle.std.specs.Prelude.{◌≡◌, ℕ, ◌+◌, ◌<◌, Bool, true, nat_lt, ◌&&◌, if◌then◌else◌, List, length}
use Rattle.std.specs.List.{position_or_len}
use Rattle.lent_slots.specs.declared.fault.SlotFault.{SlotFault}
use Rattle.lent_slots.specs.Slots.{MachineView, RefusesPage}
use Rattle.lent_slots.specs.Totals.{held_slots, frames_in_use}
use Rattle.share_domain.specs.declared.fault.LendFault.{LendFault}
use Rattle.share_domain.specs.Domains.{DomainView, IsIn, RefusesIn, machine_at}

-- the machine has a free slot, and a free frame besides the spare one
abbrev pub is_open : MachineView → Bool
is_open m = nat_lt (held_slots m) (length m.slots) && nat_lt (frames_in_use m + 1) (length m.frames)

-- the first machine that is open, and machine 0 where none is
abbrev pub first_open : List MachineView → ℕ
first_open machines = if nat_lt (position_or_len is_open machines) (length machines) then position_or_len is_open machines else 0

-- A machine that is open refuses no page.
abbrev pub OpenRefusesNone : Type 0
OpenRefusesNone = (m : MachineView) (fault : SlotFault) → is_open m ≡ true → RefusesPage fault m → ⊥

-- While a machine is open, no page of a client that is in is refused by the first one that is open. So `lend_at_open` refuses nothing then.
abbrev pub OpenRefusesNothing : Type 0
OpenRefusesNothing =
    (d : DomainView) (m client : ℕ) (fault : LendFault) → m < length d.machines → is_open (machine_at d.machines m) ≡ true → IsIn d client
    → RefusesIn (first_open d.machines) client fault d → ⊥
