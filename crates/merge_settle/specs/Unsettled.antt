-- What comes back if a machine is not settled.
use Rattle.std.specs.Prelude.{◌≡◌, List}
use Rattle.page_model.specs.declared.hashing.HashFunction.{Ghosts}
use Rattle.share_rings.specs.declared.closed_port.ClosedPort.{ClosedPort}
use Rattle.merge_machine.specs.Kept.{end_names, closed_names, end_views, closed_views}
use Rattle.merge_machine.specs.Meets.{AllKnown, NoFewerFree}
use Rattle.merge_machine.specs.View.{ends_of, journal_of, limit_of, core_of, guest_count}
use Rattle.merge_machine.specs.declared.merger.Merger.{Merger}

-- The merger and the ports as they were, except that each end may have learned what is left in its rings.
pub record IsUnsettled {H A : Type 0} {ghosts : Ghosts H} (merger : Merger H A ghosts) (ports : List (ClosedPort A))
    (merger' : Merger H A ghosts) (ports' : List (ClosedPort A)) : Type 0 where
  pub same_ports : closed_views ports' ≡ closed_views ports
  pub same_ends : end_views (ends_of merger') ≡ end_views (ends_of merger)
  pub journal : journal_of merger' ≡ journal_of merger
  pub limit : limit_of merger' ≡ limit_of merger
  pub core : core_of merger' ≡ core_of merger
  -- so they belong to the same pairs
  pub pairs : closed_names ports' ≡ end_names (ends_of merger')
  pub guests : guest_count merger' ≡ guest_count merger
  -- all items left are known to the ends that take them, and no end knows of fewer free slots
  pub known : AllKnown ports' (ends_of merger')
  pub free : NoFewerFree (ends_of merger) (ends_of merger')
