use Rattle.std.proofs.Common.{◌≡◌, ◌≤◌, false, All, vec_len, vec_capacity}
use Rattle.share_rings.specs.Closing.{has_close}
use Rattle.page_bench.proofs.requests.scripts.Given as goal

abbrev pub invariant-loop-guest : goal.invariant-loop-guest
invariant-loop-guest l = All (λ script. has_close script.items ≡ false) l.scripts.items × (vec_len l.scripts ≡ l.guest) × (l.guests ≤ vec_capacity l.scripts)
