use Rattle.std.proofs.Common.{◌≡◌, ◌≤◌, take}
use Rattle.std.specs.Prelude.{count_by}
use Rattle.share_domain.specs.Totals.{is_present}
use Rattle.share_domain.proofs.report.count_present.Given as goal

abbrev pub invariant-loop-presence : goal.invariant-loop-presence
invariant-loop-presence l = record { so_far : l.count ≡ count_by is_present (take l.presence-index l.clients); few : l.count ≤ l.presence-index }
