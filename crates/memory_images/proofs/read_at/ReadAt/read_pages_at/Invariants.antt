use Rattle.std.proofs.Common.{◌≡◌, ◌+◌, ◌*◌, ◌<◌, ℕ, [], get_or}
use Rattle.memory_images.specs.Words.{part}
use Rattle.memory_images.proofs.read_at.ReadAt.read_pages_at.Given as goal

abbrev pub invariant-loop-i : goal.invariant-loop-i
invariant-loop-i g l =
    g.Self.ReadAt.is_steady l.self → (k : ℕ) → k < l.i → get_or l.into k [] ≡ part (g.Self.ReadAt.bytes l.self) (l.at + 4096 * k) 4096
