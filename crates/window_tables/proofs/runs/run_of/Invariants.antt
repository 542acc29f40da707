use Rattle.std.proofs.Common.{◌≡◌, ◌+◌}
use Rattle.std.specs.List.{prefix_len}
use Rattle.std.proofs.Math.ListN.{drop}
use Rattle.window_tables.specs.Runs.{is_kind}
use Rattle.window_tables.proofs.runs.run_of.Given as goal

abbrev pub invariant-loop-place : goal.invariant-loop-place
invariant-loop-place l = l.place + prefix_len (is_kind l.kinds l.kind) (drop l.place l.pages) ≡ prefix_len (is_kind l.kinds l.kind) l.pages
