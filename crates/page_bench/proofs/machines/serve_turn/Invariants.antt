use Rattle.std.proofs.Common.{◌≡◌, ◌+◌, length}
use Rattle.merge_core.specs.Shown.{state_of}
use Rattle.page_bench.proofs.machines.serve_turn.Given as goal

abbrev pub invariant-loop-guest : goal.invariant-loop-guest
invariant-loop-guest l = (l.core.entries ≡ l.initial.core.entries + l.guest) × (length (state_of l.core).guests ≡ length (state_of l.initial.core).guests)
