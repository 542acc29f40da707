use Rattle.std.proofs.Common.{◌≡◌, ◌+◌, ◌++◌, ◌≤◌, length, drop, false, string_bytes, string_capacity}
use Rattle.merge_core.specs.Shown.{state_of}
use Rattle.page_model.specs.Replay.{state_after}
use Rattle.journal_replay.specs.declared.output.TheConstants.{LINE_BYTES}
use Rattle.journal_replay.specs.Ends.{Sends}
use Rattle.journal_replay.specs.Replayed.{lines_from}
use Rattle.journal_replay.proofs.engine.serve_entries.Given as goal

abbrev pub invariant-loop-at : goal.invariant-loop-at
invariant-loop-at g l = record {
  sends : Sends (g.W.Sink.contents l.fn.writer) (g.W.Sink.contents l.writer) (string_bytes l.out ++ lines_from g.H.HashFunction.hash_of (state_of l.core) (drop l.at l.entries)) (string_bytes l.fn.out ++ lines_from g.H.HashFunction.hash_of (state_of l.fn.core) l.entries);
  state : state_after g.H.HashFunction.hash_of (state_of l.core) (drop l.at l.entries) ≡ state_after g.H.HashFunction.hash_of (state_of l.fn.core) l.entries;
  count : l.core.entries ≡ l.fn.core.entries + l.at;
  guests : length (state_of l.core).guests ≡ length (state_of l.fn.core).guests;
  fine : g.W.Sink.has_failed l.writer ≡ false;
  room : LINE_BYTES ≤ string_capacity l.out;
}
