use Rattle.std.proofs.Common.{◌≡◌, ◌<◌, length}
use Rattle.std.specs.List.{position_or_len}
use Rattle.digest_text.specs.Rows.{is_feed}
use Rattle.digest_text.specs.Left.{unread}
use Rattle.digest_text.proofs.Windows.{too_long}
use Rattle.digest_text.proofs.buffered.Lines.find.Goals as goal

pub returns-then-unread-gt-MAX_LINE_BYTES-clause-found : goal.returns-then-unread-gt-MAX_LINE_BYTES-clause-found
returns-then-unread-gt-MAX_LINE_BYTES-clause-found g c =
    let none : position_or_len is_feed (unread c.loop-line.self) ≡ length (unread c.loop-line.self) = rw c.unread.ensures at c.in_default.ensures.parts in
    let long : 256 < length (unread c.loop-line.self) = rw c.unread-in-loop-line.ensures at c.if-unread-gt-MAX_LINE_BYTES.true in
    too_long (g.R.Read.remaining c.loop-line.self.source) (unread c.loop-line.self) none long
