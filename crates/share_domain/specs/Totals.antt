-- What a domain counts.
use Rattle.std.specs.Prelude.{ℕ, ◌-◌, Bool, true, false, List, length, count_by, sum_by}
use Rattle.lent_slots.specs.Slots.{MachineView, held_by}
use Rattle.lent_slots.specs.Totals.{held_slots, shared_slots, frames_in_use}
use Rattle.share_domain.specs.declared.client.Presence.{Presence}
use Rattle.share_domain.specs.declared.client.Presence.TheVariants.{Out, In, Leaving}
use Rattle.share_domain.specs.declared.report.DomainReport.{DomainReport}
use Rattle.share_domain.specs.Domains.{DomainView}

-- the client has entered, and isn't out yet
abbrev pub is_present : Presence → Bool
is_present Out = false
is_present In = true
is_present Leaving = true

-- how many slots are a client's
abbrev pub slots_of : ℕ → List MachineView → ℕ
slots_of client machines = sum_by (λ m. held_by client m.slots) machines

-- the numbers of a report. Reclaimed is the slots held minus the frames in use
abbrev pub totals_of : List MachineView → List Presence → DomainReport
totals_of machines clients = record {
  machines = length machines;
  clients = count_by is_present clients;
  slots = sum_by held_slots machines;
  frames = sum_by frames_in_use machines;
  shared = sum_by shared_slots machines;
  reclaimed = sum_by held_slots machines - sum_by frames_in_use machines;
}

abbrev pub domain_totals : DomainView → DomainReport
domain_totals d = totals_of d.machines d.clients
