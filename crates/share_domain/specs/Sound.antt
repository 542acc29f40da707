-- How the parts of a domain fit together.
use Rattle.std.specs.Prelude.{◌≡◌, ℕ, ◌<◌, ◌≤◌, List, length}
use Rattle.page_model.specs.declared.limits.TheConstants.{MAX_FRAMES, MAX_PAGES}
use Rattle.share_domain.specs.declared.client.Presence.{Presence}
use Rattle.share_domain.specs.declared.config.TheConstants.{MAX_MACHINES, MAX_CLIENTS}
use Rattle.lent_slots.specs.Slots.{MachineView}
use Rattle.share_domain.specs.Domains.{machine_at}

-- no machine has more slots than a machine may have
pub record HaveFewSlots (machines : List MachineView) : Type 0 where
  pub few : (m : ℕ) → m < length machines → length (machine_at machines m).slots ≤ MAX_PAGES

-- the sizes of a domain's parts
pub record SoundDomain (frames : ℕ) (machines : List MachineView) (clients : List Presence) : Type 0 where
  pub few : (1 ≤ length machines) × (length machines ≤ MAX_MACHINES) × (frames ≤ MAX_FRAMES) × (length clients ≤ MAX_CLIENTS) × (1 ≤ frames)
  pub sizes : (m : ℕ) → m < length machines → length (machine_at machines m).frames ≡ frames
  pub slots : HaveFewSlots machines
