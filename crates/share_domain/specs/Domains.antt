-- A domain: its machines and its clients, and what each call does to them.
use Rattle.std.specs.Prelude.{◌≡◌, ℕ, ◌+◌, ◌*◌, ◌/◌, ◌%◌, ◌^◌, Bool, true, false, if◌then◌else◌, List, [], length, Option, Some, None, Result, Ok, Err}
use Rattle.std.specs.Prelude.{slice_get, slice_set, slice_index_or, position}
use Rattle.std.specs.Option.{option_map}
use Rattle.share_domain.specs.declared.client.Presence.{Presence}
use Rattle.share_domain.specs.declared.client.Presence.TheVariants.{Out, In, Leaving}
use Rattle.lent_slots.specs.declared.holding.Holding.{Holding}
use Rattle.share_domain.specs.declared.holding.Slot.{Slot}
use Rattle.share_domain.specs.declared.holding.Loan.{Loan}
use Rattle.share_domain.specs.declared.fault.LendFault.{LendFault}
use Rattle.share_domain.specs.declared.fault.LendFault.TheVariants as fault
use Rattle.share_domain.specs.declared.fault.NoSuchSlot.{NoSuchSlot}
use Rattle.lent_slots.specs.Slots.{MachineView, holding, is_of, HasFree, IsFull, IsSpent, LendsPage, released, freed}

-- the machines, each with as many frames; the salt of all pages; and the clients by their numbers
pub record DomainView : Type 0 where
  pub salt : ℕ
  pub frames : ℕ
  pub machines : List MachineView
  pub clients : List Presence

-- the domain with other machines
abbrev pub with_machines : DomainView → List MachineView → DomainView
with_machines d machines = record { salt = d.salt; frames = d.frames; machines = machines; clients = d.clients }

-- the domain after a client's presence changed
abbrev pub with_client : DomainView → ℕ → Presence → DomainView
with_client d client presence = record { salt = d.salt; frames = d.frames; machines = d.machines; clients = slice_set d.clients client presence }

abbrev pub no_machine : MachineView
no_machine = record { slots = []; frames = [] }

-- a machine by its number
abbrev pub machine_at : List MachineView → ℕ → MachineView
machine_at machines m = slice_index_or machines m no_machine

-- who holds a slot of a domain, and the frame that it has there
abbrev pub held_in : List MachineView → Slot → Option Holding
held_in machines slot = holding (machine_at machines slot.machine).slots slot.ppn

-- the number of a frame among those of all machines
abbrev pub region_frame : ℕ → ℕ → ℕ → ℕ
region_frame frames m mpn = m * frames + mpn

-- the machine of a page with this hash
abbrev pub machine_of : ℕ → ℕ → ℕ
machine_of machines hash = (hash / 2 ^ 32) % machines

-- the machine of a page: a function of its bytes, so that equal pages meet
abbrev pub page_machine : (ℕ → List ℕ → ℕ) → DomainView → List ℕ → ℕ
page_machine hash d page = machine_of (length d.machines) (hash d.salt page)

abbrev pub is_out : Presence → Bool
is_out Out = true
is_out In = false
is_out Leaving = false

-- the client is in, and hasn't begun to leave
abbrev pub IsIn : DomainView → ℕ → Type 0
IsIn d client = slice_get d.clients client ≡ Some In

-- the client that enters next: the first number that no client has
abbrev pub next_client : DomainView → Option ℕ
next_client d = position is_out d.clients

-- the domain after a client with this number entered, if there is one
abbrev pub entered : DomainView → Option ℕ → DomainView
entered d None = d
entered d (Some client) = with_client d client In

-- A client's page was lent by its machine, and nothing else changed.
pub record LendsIn (m client : ℕ) (page : List ℕ) (loan : Loan) (old new : DomainView) : Type 0 where
  pub here : IsIn old client
  pub machine : loan.slot.machine ≡ m
  pub mpn : ℕ
  pub number : loan.frame ≡ region_frame old.frames m mpn
  pub lends : LendsPage client page (record { ppn = loan.slot.ppn; frame = mpn; sharers = loan.sharers }) (machine_at old.machines m) (machine_at new.machines m)
  pub rest : new ≡ with_machines old (slice_set old.machines m (machine_at new.machines m))

-- why a client's page isn't lent
abbrev pub RefusesIn : ℕ → ℕ → LendFault → DomainView → Type 0
RefusesIn m client fault.NoClient d = ¬ IsIn d client
RefusesIn m client fault.NoSlot d = IsIn d client × IsFull (machine_at d.machines m).slots
RefusesIn m client fault.NoFrame d = IsIn d client × HasFree (machine_at d.machines m).slots × IsSpent (machine_at d.machines m).frames

-- the machines after a slot was released
abbrev pub with_released : Slot → List MachineView → List MachineView
with_released slot machines = slice_set machines slot.machine (released slot.ppn (machine_at machines slot.machine))

-- the frame that a slot's release frees, by its number among those of all machines
abbrev pub freed_in : ℕ → Slot → List MachineView → Option ℕ
freed_in frames slot machines = option_map (λ mpn. region_frame frames slot.machine mpn) (freed slot.ppn (machine_at machines slot.machine))

-- the answer to a client's release of a slot, and the domain after it: a slot that isn't the client's stays as it is
abbrev pub release_answer : ℕ → Slot → DomainView → Result (Option ℕ) NoSuchSlot
release_answer client slot d = if is_of client (held_in d.machines slot) then Ok (freed_in d.frames slot d.machines) else Err (record {})

abbrev pub after_release : ℕ → Slot → DomainView → DomainView
after_release client slot d =
    if is_of client (held_in d.machines slot) then with_machines d (with_released slot d.machines) else d
