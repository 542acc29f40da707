use Rattle.std.proofs.Common.{sym, arith}
use Rattle.text_words.specs.Words.{spelled}
use Rattle.text_words.proofs.Bytes.{spelled_is}
use Rattle.journal_text.proofs.Stored.{stored_long}
use Rattle.journal_text.proofs.said.stored.Goals as goal

pub returns-then-word-clause-value : goal.returns-then-word-clause-value
returns-then-word-clause-value c =
    let word = c.args.word.now in
    sym (stored_long c.args.ppn c.args.at (spelled word) (omega (arith, (spelled_is word c.requires).1)))
