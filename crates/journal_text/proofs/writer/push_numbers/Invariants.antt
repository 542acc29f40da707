use Rattle.std.proofs.Common.{◌≡◌, ◌++◌, drop, string_bytes}
use Rattle.journal_text.specs.Written.{number_words}
use Rattle.journal_text.proofs.writer.push_numbers.Given as goal

abbrev pub invariant-loop-n : goal.invariant-loop-n
invariant-loop-n g l = string_bytes l.out ++ number_words (drop l.n-index l.numbers) ≡ string_bytes l.fn.out ++ number_words l.numbers
