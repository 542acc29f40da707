use Rattle.digest_text.specs.Seen.{row_seen}
use Rattle.digest_text.proofs.Steps.{row_taken}
use Rattle.digest_text.proofs.taken.take_any.Goals as goal

pub returns-clause-taken : goal.returns-clause-taken
returns-clause-taken c = row_taken c.args.so_far.now c.note.new.so_far c.args.line.now (row_seen c.in-Some.row) c.in-Some.ensures.value c.in_ok-note.ensures
