use Rattle.std.proofs.Common.{arith, ◌-◌, drop}
use Rattle.std.proofs.lemmas.List.{length-take}
use Rattle.digest_text.proofs.Windows.{taken}
use Rattle.digest_text.proofs.buffered.Lines.take.Goals as goal

pub returns-clause-unread : goal.returns-clause-unread
returns-clause-unread g c =
    let lines = c.args.self.now in
    taken lines.buffer.items lines.from lines.end c.args.count (omega (arith, length-take (lines.end - lines.from) (drop lines.from lines.buffer.items), c.requires))
