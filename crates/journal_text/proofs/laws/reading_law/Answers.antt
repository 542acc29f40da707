use Rattle.journal_text.proofs.Rereads.{rereads}
use Rattle.journal_text.proofs.laws.reading_law.Goals as goal

pub returns : goal.returns
returns c = λ j h. rereads j h
