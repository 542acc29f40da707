-- Which domains can be made, and a domain before its first call.
use Rattle.std.specs.Prelude.{◌≡◌, ℕ, ◌≤◌, Bool, ◌||◌, nat_lt, if◌then◌else◌, List, replicate, Option, Some, None}
use Rattle.page_model.specs.declared.limits.TheConstants.{MAX_FRAMES, MAX_PAGES}
use Rattle.machine_frames.specs.FrameMap.{FrameMap, no_frames}
use Rattle.share_domain.specs.declared.client.Presence.TheVariants.{Out}
use Rattle.share_domain.specs.declared.config.DomainConfig.{DomainConfig}
use Rattle.share_domain.specs.declared.config.TheConstants.{MAX_MACHINES, MAX_CLIENTS}
use Rattle.share_domain.specs.declared.fault.DomainFault.{DomainFault}
use Rattle.share_domain.specs.declared.fault.DomainFault.TheVariants.{Machines, Slots, Frames, Clients, OutOfMemory}
use Rattle.lent_slots.specs.Totals.{empty_machine}
use Rattle.share_domain.specs.Domains.{DomainView}

abbrev pub AreMachines : ℕ → Type 0
AreMachines n = (1 ≤ n) × (n ≤ MAX_MACHINES)

abbrev pub AreSlots : ℕ → Type 0
AreSlots n = (1 ≤ n) × (n ≤ MAX_PAGES)

-- one frame is spare
abbrev pub AreFrames : ℕ → Type 0
AreFrames n = (2 ≤ n) × (n ≤ MAX_FRAMES)

abbrev pub AreClients : ℕ → Type 0
AreClients n = (1 ≤ n) × (n ≤ MAX_CLIENTS)

-- there may be a domain with these numbers
pub record AreLimits (config : DomainConfig) : Type 0 where
  pub machines : AreMachines config.machines
  pub slots : AreSlots config.slots
  pub frames : AreFrames config.frames
  pub clients : AreClients config.clients

-- the first cause for which there is no domain; lack of memory is the cause only if there is no other
abbrev pub NoDomainFor : DomainConfig → DomainFault → Type 0
NoDomainFor config Machines = ¬ AreMachines config.machines
NoDomainFor config Slots = AreMachines config.machines × ¬ AreSlots config.slots
NoDomainFor config Frames = AreMachines config.machines × AreSlots config.slots × ¬ AreFrames config.frames
NoDomainFor config Clients = AreMachines config.machines × AreSlots config.slots × AreFrames config.frames × ¬ AreClients config.clients
NoDomainFor config OutOfMemory = AreLimits config

-- whether a number is below the first or above the second
abbrev pub is_outside : ℕ → ℕ → ℕ → Bool
is_outside low high n = nat_lt n low || nat_lt high n

-- the fault of the first number that no domain has
abbrev pub limit_fault : DomainConfig → Option DomainFault
limit_fault config =
    if is_outside 1 MAX_MACHINES config.machines then Some Machines
    else if is_outside 1 MAX_PAGES config.slots then Some Slots
    else if is_outside 2 MAX_FRAMES config.frames then Some Frames
    else if is_outside 1 MAX_CLIENTS config.clients then Some Clients else None

-- a domain with no client in
abbrev pub empty_domain : DomainConfig → DomainView
empty_domain config = record {
  salt = config.salt;
  frames = config.frames;
  machines = replicate config.machines (empty_machine config.slots config.frames);
  clients = replicate config.clients Out;
}

-- the frames of each machine, all of them free
pub record AreFree (config : DomainConfig) (frames : List FrameMap) : Type 0 where
  pub each : frames ≡ replicate config.machines (no_frames config.frames)
