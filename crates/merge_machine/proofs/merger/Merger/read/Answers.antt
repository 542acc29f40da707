use Rattle.std.proofs.Common.{◌∙◌}
use Rattle.merge_core.specs.Shown.{state_of}
use Rattle.merge_machine.proofs.Replays.{reads_last}
use Rattle.merge_machine.proofs.merger.Merger.read.Goals as goal

pub returns-clause-stored : goal.returns-clause-stored
returns-clause-stored g c =
    let m = c.args.self.now in
    c.read.ensures ∙ reads_last g.H.HashFunction.hash_of (state_of m.core) m.journal.items c.args.guest c.args.ppn c.args.at c.requires.at m.replayed
