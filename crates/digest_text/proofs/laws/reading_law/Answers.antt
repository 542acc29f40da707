use Rattle.digest_text.proofs.Counts.{digests_are_lines}
use Rattle.digest_text.proofs.Reread.{rereads}
use Rattle.digest_text.proofs.laws.reading_law.Goals as goal

pub returns-clause-written : goal.returns-clause-written
returns-clause-written c = rereads

pub returns-clause-digests : goal.returns-clause-digests
returns-clause-digests c = digests_are_lines
