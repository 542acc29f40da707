use Rattle.merge_core.proofs.PageApplied.{lent_applied, refused_applied}
use Rattle.merge_core.proofs.machine.Core.lend.Goals as goal

pub returns-in-Ok : goal.returns-in-Ok
returns-in-Ok g c =
    let core = c.self.inside in
    rw (← c.self.view_is) (lent_applied g.H.HashFunction.hash_of c.args.guest c.args.ppn c.args.page.now c.told-page core.entries core.held c.lend.new.held c.in-Ok.lent (rw c.in-Ok.is at c.lend.ensures.lends))

pub returns-in-Err : goal.returns-in-Err
returns-in-Err g c =
    let core = c.self.inside in
    rw (← c.self.view_is) (refused_applied g.H.HashFunction.hash_of c.args.guest c.args.ppn c.args.page.now c.told-page core.entries core.held c.lend.new.held c.in-Err.refused (rw c.in-Err.is at c.lend.ensures.lends))
