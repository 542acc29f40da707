use Rattle.std.proofs.Common.{◌≡◌, ◌≤◌, false, All, vec_len, vec_capacity}
use Rattle.share_rings.specs.Closing.{has_close}
use Rattle.worked_machines.proofs.runs.makes.scripts_of.Given as goal

abbrev pub invariant-loop-list : goal.invariant-loop-list
invariant-loop-list g l = All (λ script. has_close script.items ≡ false) l.scripts.items × (vec_len l.scripts ≡ l.list-index) × (l.list-index-end ≤ vec_capacity l.scripts)
