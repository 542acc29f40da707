use Rattle.std.proofs.Common.{◌≡◌, ◌+◌, ◌-◌, ◌++◌, ◌<◌, ◌≤◌, false, length, map, string_bytes, string_capacity, vec_capacity}
use Rattle.page_model.specs.declared.limits.TheConstants.{MAX_ENTRIES}
use Rattle.journal_replay.specs.declared.output.TheConstants.{LINE_BYTES}
use Rattle.merge_core.specs.Shown.{state_of}
use Rattle.merge_machine.specs.Scripts.{with_close}
use Rattle.journal_replay.specs.Ends.{Sends}
use Rattle.journal_replay.specs.Replayed.{printed_from}
use Rattle.journal_text.specs.Texts.{AreBelow}
use Rattle.script_text.specs.Order.{longest, turns, left_of, serial_order}
use Rattle.script_text.specs.Views.{lists_of}
use Rattle.script_text.proofs.engine.print_turns.Given as goal

-- the entries that wait, and those of the turns that are left, are what is still to be served
abbrev pub invariant-loop-turn : goal.invariant-loop-turn
invariant-loop-turn g l = record {
  sends : Sends (g.W.Sink.contents l.fn.writer) (g.W.Sink.contents l.writer) (string_bytes l.out ++ printed_from g.H.HashFunction.hash_of (state_of l.core) (l.entries.items ++ turns (longest (map with_close (lists_of l.scripts)) - l.turn) (left_of l.turn (lists_of l.scripts))))
      (printed_from g.H.HashFunction.hash_of (state_of l.fn.core) (serial_order (lists_of l.scripts)));
  few : l.core.entries + length (l.entries.items ++ turns (longest (map with_close (lists_of l.scripts)) - l.turn) (left_of l.turn (lists_of l.scripts))) ≤ MAX_ENTRIES;
  guests : length (state_of l.core).guests ≡ length l.scripts;
  below : AreBelow (length l.scripts) l.entries.items;
  waiting : length l.entries.items < 256;
  space : 320 ≤ vec_capacity l.entries;
  fine : g.W.Sink.has_failed l.writer ≡ false;
  room : LINE_BYTES ≤ string_capacity l.out;
}
