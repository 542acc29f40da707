use Rattle.std.proofs.Common.{◌-◌, ◌≤◌, length, take}
use Rattle.std.specs.Prelude.{vec_capacity}
use Rattle.std.specs.Io.KnownBytes.{Appends}
use Rattle.digest_text.specs.Written.{lines_text}
use Rattle.digest_text.proofs.writer.write_lines.Given as goal

abbrev pub invariant-loop-done : goal.invariant-loop-done
invariant-loop-done g l = record {
  sent : Appends (g.W.Write.contents l.fn.writer) (g.W.Write.contents l.writer) (lines_text l.head (take l.done l.lines));
  within : l.done ≤ length l.lines;
  room : 65536 ≤ vec_capacity l.buffer;
}

abbrev pub decreases-loop-done : goal.decreases-loop-done
decreases-loop-done g l = length l.lines - l.done
