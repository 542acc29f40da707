use Rattle.std.proofs.Common.{◌≡◌, ◌+◌, ◌≤◌, length}
use Rattle.text_words.specs.Words.{with_front}
use Rattle.trace_text.specs.Texts.{steps_in}
use Rattle.trace_text.proofs.reader.read_steps.Given as goal

abbrev pub invariant-loop-line : goal.invariant-loop-line
invariant-loop-line g l = record {
  read : with_front l.steps.items (steps_in l.n l.rest) ≡ steps_in 3 l.text;
  lines : l.n + length l.rest ≤ 3 + length l.text;
}

abbrev pub decreases-loop-line : goal.decreases-loop-line
decreases-loop-line g l = length l.rest
