-- A machine before its first request, with its ports.
use Rattle.std.specs.Prelude.{◌≡◌, List, [], All, length}
use Rattle.page_model.specs.Limits.{shapes}
use Rattle.page_model.specs.Replay.{empty_state}
use Rattle.page_model.specs.declared.hashing.HashFunction.{Ghosts}
use Rattle.share_rings.specs.declared.port.Port.{Port}
use Rattle.merge_machine.specs.Fresh.{IsFreshEnd, IsFreshPort}
use Rattle.merge_machine.specs.Kept.{end_names, port_names}
use Rattle.merge_machine.specs.View.{ends_of, journal_of, limit_of, memory_of, machine_of, guest_count}
use Rattle.merge_machine.specs.Limits.{Numbers}
use Rattle.merge_machine.specs.declared.merger.Merger.{Merger}

-- The machine of these numbers. Nothing has passed through its rings, nothing was journaled, and no page is mapped.
pub record IsFreshMachine {H A : Type 0} {ghosts : Ghosts H} (numbers : Numbers) (merger : Merger H A ghosts)
    (ports : List (Port A)) : Type 0 where
  -- port i and end i belong to one pair
  pub pairs : port_names ports ≡ end_names (ends_of merger)
  pub guests : guest_count merger ≡ length numbers.pages
  pub each : length ports ≡ length numbers.pages
  pub unused_ports : All (IsFreshPort numbers.ring) ports
  pub unused_ends : All (IsFreshEnd numbers.ring) (ends_of merger)
  pub journal : journal_of merger ≡ []
  pub limit : limit_of merger ≡ numbers.journal
  pub machine : machine_of merger ≡ empty_state numbers.frames (shapes numbers.salts numbers.pages)
  pub memory : memory_of merger ≡ machine_of merger
