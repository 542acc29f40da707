use Rattle.std.proofs.Common.{ap}
use Rattle.digest_text.specs.Left.{left, unread}
use Rattle.digest_text.proofs.Steps.{next_broken, next_end, next_fault, next_lacking, next_row}
use Rattle.digest_text.proofs.digest_reader.DigestReader.read_line.Goals as goal

pub returns-in-Ok-clause-next : goal.returns-in-Ok-clause-next
returns-in-Ok-clause-next g c =
    let before = c.args.self.now in
    let lines = c.find.new.self in
    let found = rw c.in-Line.is at c.in_ok-count.ensures.found in
    next_row before.line c.saturating_add-line.result c.saturating_add-line.ensures before.so_far
    (left g.R.Read.remaining before.lines) (g.R.Read.remaining lines.source) (g.R.Read.remaining c.take.new.self.source) (unread lines) (unread c.take.new.self) c.in-Line.count c.take_line.new.so_far c.in-Ok.found
    c.find.ensures.keeps found.0 found.1 c.take.ensures.unread (ap g.R.Read.remaining c.take.ensures.source) (rw c.unread.ensures at c.in-Ok.ensures.taken)

pub returns-in-Err-clause-next : goal.returns-in-Err-clause-next
returns-in-Err-clause-next g c =
    let before = c.args.self.now in
    let lines = c.find.new.self in
    let found = rw c.in-Line.is at c.in_ok-count.ensures.found in
    next_fault before.line c.saturating_add-line.result c.saturating_add-line.ensures before.so_far
    (left g.R.Read.remaining before.lines) (g.R.Read.remaining lines.source) (unread lines) c.in-Line.count c.take_line.new.so_far c.in-Err.cause
    c.find.ensures.keeps found.0 found.1 (rw c.unread.ensures at c.in-Err.ensures.taken)

pub returns-in-Broken-clause-next : goal.returns-in-Broken-clause-next
returns-in-Broken-clause-next g c =
    let before = c.args.self.now in
    next_broken before.line c.saturating_add-line.result c.saturating_add-line.ensures before.so_far (left g.R.Read.remaining before.lines) (left g.R.Read.remaining c.find.new.self)
    c.find.ensures.keeps (rw c.in-Broken.is at c.in_ok-count.ensures.found)

pub returns-in-Ok-check_end-clause-next : goal.returns-in-Ok-check_end-clause-next
returns-in-Ok-check_end-clause-next g c =
    let before = c.args.self.now in
    next_end before.line before.so_far (left g.R.Read.remaining before.lines) (left g.R.Read.remaining c.find.new.self)
    c.find.ensures.keeps (rw c.in-End.is at c.in_ok-count.ensures.found) c.in-Ok-check_end.ensures

pub returns-in-Err-check_end-clause-next : goal.returns-in-Err-check_end-clause-next
returns-in-Err-check_end-clause-next g c =
    let before = c.args.self.now in
    next_lacking before.line before.so_far (left g.R.Read.remaining before.lines) (left g.R.Read.remaining c.find.new.self) c.in-Err-check_end.fault
    c.find.ensures.keeps (rw c.in-End.is at c.in_ok-count.ensures.found) c.in-Err-check_end.ensures
