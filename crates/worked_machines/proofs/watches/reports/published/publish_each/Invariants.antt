use Rattle.std.proofs.Common.{◌≤◌, ◌≡◌}
use Rattle.watched_machine.specs.Reports.{last_of}
use Rattle.watched_machine.specs.Lists.{published, publisher_id, watch_id}
use Rattle.worked_machines.proofs.watches.reports.published.publish_each.Given as goal

abbrev pub invariant-loop-before : goal.invariant-loop-before
invariant-loop-before g l = ((last_of (published l.publisher)).entries ≤ l.before) × (watch_id l.watch ≡ publisher_id l.publisher)
