use Rattle.std.proofs.Common.{◌≡◌}
use Rattle.pageshare_c.proofs.ahead.note_hashes.Given as goal

abbrev pub invariant-loop-page : goal.invariant-loop-page
invariant-loop-page g l = l.core ≡ l.fn.core
