use Rattle.std.proofs.Common.{◌≡◌, ◌≤◌, false, vec_len, vec_capacity}
use Rattle.share_rings.specs.Closing.{has_close}
use Rattle.page_bench.proofs.requests.script.Given as goal

abbrev pub invariant-loop-n : goal.invariant-loop-n
invariant-loop-n l = (has_close l.script.items ≡ false) × (vec_len l.script ≡ l.n) × (l.requests ≤ vec_capacity l.script)
