use Rattle.std.proofs.lemmas.List.{get_or_read}
use Rattle.share_domain.specs.Domains.{machine_at, no_machine}
use Rattle.share_domain.proofs.Machines.{returned_within}
use Rattle.share_domain.proofs.lend.release_at.Goals as goal

pub returns-clause-within : goal.returns-clause-within
returns-clause-within g c =
    let items = c.args.machines.now.items in
    let m = c.args.slot.machine in
    returned_within c.args.slot.ppn (machine_at items m) c.index.result.now c.index_mut.result.now c.release.result c.frames.ensures.slots
    (get_or_read items _ _ c.requires c.index.ensures no_machine) (get_or_read items _ _ c.requires c.index_mut.ensures.value no_machine) c.release.ensures.freed
