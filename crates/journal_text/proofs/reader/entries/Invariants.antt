use Rattle.std.proofs.Common.{◌≡◌, ◌+◌, ◌*◌, ◌≤◌, length}
use Rattle.text_words.specs.Words.{with_front}
use Rattle.journal_text.specs.Texts.{entries_in, AreBelow}
use Rattle.journal_text.proofs.reader.entries.Given as goal

abbrev pub invariant-loop-line : goal.invariant-loop-line
invariant-loop-line g l = record {
  read : with_front l.found.items (entries_in l.closed l.n (length l.found.items) l.rest) ≡ entries_in l.fn.closed l.first 0 l.text;
  lines : l.n + length l.rest ≤ l.first + length l.text;
  guests : length l.closed ≡ length l.fn.closed;
  below : AreBelow (length l.fn.closed) l.found.items;
  few : 6 * length l.found.items + length l.rest ≤ length l.text;
}

abbrev pub decreases-loop-line : goal.decreases-loop-line
decreases-loop-line g l = length l.rest
