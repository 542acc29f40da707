use Rattle.std.proofs.Common.{◌≡◌, ◌++◌, ◌≤◌, drop, false, string_bytes, string_capacity}
use Rattle.journal_replay.specs.declared.output.TheConstants.{LINE_BYTES}
use Rattle.journal_replay.specs.Ends.{Sends}
use Rattle.share_text.specs.Runs.{guest_lines}
use Rattle.share_text.proofs.printing.print_guest.Given as goal

abbrev pub invariant-loop-verdict : goal.invariant-loop-verdict
invariant-loop-verdict g l = record {
  sends : Sends (g.W.Sink.contents l.fn.writer) (g.W.Sink.contents l.writer) (string_bytes l.out ++ guest_lines l.guest (drop l.verdict-index l.verdicts)) (string_bytes l.fn.out ++ guest_lines l.guest l.verdicts);
  fine : g.W.Sink.has_failed l.writer ≡ false;
  room : LINE_BYTES ≤ string_capacity l.out;
}
