use Rattle.std.proofs.Common.{◌≡◌, ◌-◌, arith, length, drop, length-drop}
use Rattle.std.proofs.lemmas.List.{length-take-le}
use Rattle.digest_text.specs.Left.{left, unread}
use Rattle.digest_text.proofs.Windows.{cut_short}
use Rattle.digest_text.proofs.buffered.Lines.at_end.Goals as goal

pub returns-else-self : goal.returns-else-self
returns-else-self g c =
    let lines = c.args.self.now in
    let within = lines.within in
    let long : length (unread lines) ≡ lines.end - lines.from = length-take-le (lines.end - lines.from) (drop lines.from lines.buffer.items) (omega (arith, within.1, lines.buffer.ok.0, length-drop lines.from lines.buffer.items)) in
    cut_short (left g.R.Read.remaining lines) (unread lines) c.requires.read c.requires.none (omega (arith, long, within.0, c.if-self.false))
