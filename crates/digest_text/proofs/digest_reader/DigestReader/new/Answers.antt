use Rattle.std.proofs.Common.{◌∙◌, ap, sym}
use Rattle.digest_text.specs.Left.{left, unread}
use Rattle.digest_text.proofs.Steps.{first_fault, first_other, first_read, is_right}
use Rattle.digest_text.proofs.digest_reader.DigestReader.new.Goals as goal

pub returns-in_default : goal.returns-in_default
returns-in_default g c =
    first_other (g.R.Read.remaining c.args.source) (left g.R.Read.remaining c.find.new.self) (unread c.find.new.self) c.in_ok-count.field-0 c.in_default.not-Line
    (rw c.in_ok-lines.ensures at c.find.ensures.keeps) c.in_ok-count.ensures.found

pub returns-in-Err : goal.returns-in-Err
returns-in-Err g c =
    let lines = c.find.new.self in
    let found = rw c.in-Line.is at c.in_ok-count.ensures.found in
    first_fault (g.R.Read.remaining c.args.source) (g.R.Read.remaining lines.source) (unread lines) c.in-Line.count c.in-Err.cause
    (rw c.in_ok-lines.ensures at c.find.ensures.keeps) found.0 found.1 (rw c.unread.ensures at (sym c.in-Err.ensures))

pub returns : goal.returns
returns g c =
    let lines = c.find.new.self in
    let found = rw c.in-Line.is at c.in_ok-count.ensures.found in
    first_read (g.R.Read.remaining c.args.source) (g.R.Read.remaining lines.source) (g.R.Read.remaining c.take.new.self.source) (unread lines) (unread c.take.new.self) c.in-Line.count
    (rw c.in_ok-lines.ensures at c.find.ensures.keeps) found.0 found.1 c.take.ensures.unread (ap g.R.Read.remaining c.take.ensures.source)
    (rw c.unread.ensures at (sym c.check_header.ensures ∙ is_right c.check_header.result c.in_default-check_header.not-Err))
