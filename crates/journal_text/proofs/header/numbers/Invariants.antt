use Rattle.std.proofs.Common.{◌≡◌}
use Rattle.text_words.specs.Lines.{at_line}
use Rattle.journal_text.specs.Headers.{numbers, words_in}
use Rattle.text_words.specs.Words.{with_front}
use Rattle.text_words.specs.Cursor.{left, left_length}
use Rattle.journal_text.proofs.header.numbers.Given as goal

abbrev pub invariant-loop-rest : goal.invariant-loop-rest
invariant-loop-rest g l = with_front l.found.items (at_line l.n (numbers (words_in (left l.rest)))) ≡ at_line l.n (numbers (words_in (left l.fn.rest)))

abbrev pub decreases-loop-rest : goal.decreases-loop-rest
decreases-loop-rest g l = left_length (left l.rest)
