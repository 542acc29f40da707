use Rattle.std.proofs.Common.{◌≡◌, ◌≤◌, false, vec_len, vec_capacity}
use Rattle.share_rings.specs.Closing.{has_close}
use Rattle.worked_machines.proofs.runs.makes.script_of.Given as goal

abbrev pub invariant-loop-ask : goal.invariant-loop-ask
invariant-loop-ask g l = (has_close l.script.items ≡ false) × (vec_len l.script ≡ l.ask-index) × (l.ask-index-end ≤ vec_capacity l.script)
