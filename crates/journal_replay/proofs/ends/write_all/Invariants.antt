use Rattle.std.proofs.Common.{◌≡◌, ◌-◌, ◌≤◌, length, take, false}
use Rattle.std.specs.Io.KnownBytes.{Appends}
use Rattle.journal_replay.proofs.ends.write_all.Given as goal

abbrev pub invariant-loop-done : goal.invariant-loop-done
invariant-loop-done g l = record {
  sent : Appends (g.W.Sink.contents l.fn.writer) (g.W.Sink.contents l.writer) (take l.done l.bytes);
  fine : g.W.Sink.has_failed l.writer ≡ false;
  within : l.done ≤ length l.bytes;
}

abbrev pub decreases-loop-done : goal.decreases-loop-done
decreases-loop-done g l = length l.bytes - l.done
