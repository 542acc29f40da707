use Rattle.std.proofs.Common.{◌≡◌, ◌++◌, ◌≤◌, drop, false, string_bytes, string_capacity}
use Rattle.journal_replay.specs.declared.output.TheConstants.{LINE_BYTES}
use Rattle.journal_replay.specs.Ends.{Sends}
use Rattle.share_text.specs.Runs.{lists_lines}
use Rattle.share_text.proofs.Listed.{items_of}
use Rattle.share_text.proofs.printing.print_guests.Given as goal

abbrev pub invariant-loop-list : goal.invariant-loop-list
invariant-loop-list g l = record {
  sends : Sends (g.W.Sink.contents l.fn.writer) (g.W.Sink.contents l.writer) (string_bytes l.out ++ lists_lines l.guest (items_of (drop l.list-index l.lists))) (string_bytes l.fn.out ++ lists_lines 0 (items_of l.lists));
  guest : l.guest ≡ l.list-index;
  fine : g.W.Sink.has_failed l.writer ≡ false;
  room : LINE_BYTES ≤ string_capacity l.out;
}
