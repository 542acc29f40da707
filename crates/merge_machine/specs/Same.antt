-- What every call on a merger keeps.
use Rattle.std.specs.Prelude.{◌≡◌}
use Rattle.page_model.specs.declared.hashing.HashFunction.{Ghosts}
use Rattle.merge_machine.specs.Kept.{end_names}
use Rattle.merge_machine.specs.View.{ends_of, limit_of, machine_of, guest_count}
use Rattle.merge_machine.specs.declared.merger.Merger.{Merger}

-- a merger of the same machine: the same rings, the same guests and pages, and a journal with the same limit
pub record SameMachine {H A : Type 0} {ghosts : Ghosts H} (old new : Merger H A ghosts) : Type 0 where
  pub names : end_names (ends_of new) ≡ end_names (ends_of old)
  pub guests : guest_count new ≡ guest_count old
  pub machine : machine_of new ≡ machine_of old
  pub limit : limit_of new ≡ limit_of old
