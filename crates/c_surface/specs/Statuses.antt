-- Statuses, by what a call found.
use Rattle.std.specs.Prelude.{ℕ, Option, Some, None}
use Rattle.share_domain.specs.declared.fault.LendFault.{LendFault}
use Rattle.share_domain.specs.declared.fault.LendFault.TheVariants as fault
use Rattle.share_domain.specs.declared.fault.DomainFault.{DomainFault}
use Rattle.share_domain.specs.declared.fault.DomainFault.TheVariants as of_domain
use Rattle.c_surface.specs.declared.status.TheConstants as status

-- a call that needs what a handle holds, and nothing else
abbrev pub held_status : {X : Type 0} → Option X → ℕ
held_status None = status.NO_MACHINE
held_status (Some x) = status.OK

-- a call that gives a client or a session the first number that none has
abbrev pub room_status : Option ℕ → ℕ
room_status None = status.NO_ROOM
room_status (Some n) = status.OK

-- what the caller's memory for a number holds afterwards
abbrev pub number_or : ℕ → Option ℕ → ℕ
number_or old None = old
number_or old (Some n) = n

-- a page that wasn't lent
abbrev pub lend_status : LendFault → ℕ
lend_status fault.NoClient = status.NO_CLIENT
lend_status fault.NoSlot = status.NO_SLOT
lend_status fault.NoFrame = status.NO_FRAME

-- a domain that wasn't made
abbrev pub domain_status : DomainFault → ℕ
domain_status of_domain.Machines = status.MACHINES
domain_status of_domain.Slots = status.SLOTS
domain_status of_domain.Frames = status.FRAMES
domain_status of_domain.Clients = status.CLIENTS
domain_status of_domain.OutOfMemory = status.MEMORY
