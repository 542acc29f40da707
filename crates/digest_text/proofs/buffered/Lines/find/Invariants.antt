use Rattle.std.proofs.Common.{◌-◌, length}
use Rattle.std.specs.Io.KnownBytes.{Keeps}
use Rattle.digest_text.specs.Left.{left, unread}
use Rattle.digest_text.proofs.buffered.Lines.find.Given as goal

abbrev pub invariant-loop-line : goal.invariant-loop-line
invariant-loop-line g l = Keeps (left g.R.Read.remaining l.fn.self) (left g.R.Read.remaining l.self)

abbrev pub decreases-loop-line : goal.decreases-loop-line
decreases-loop-line g l = 257 - length (unread l.self)
