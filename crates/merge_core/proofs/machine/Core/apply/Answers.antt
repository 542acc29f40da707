use Rattle.page_model.specs.Steps.{answered}
use Rattle.page_model.specs.declared.request.Request.TheVariants.{Propose, Store, Release}
use Rattle.merge_core.proofs.Applied.{applied}
use Rattle.merge_core.proofs.machine.Core.apply.Goals as goal

pub returns-in-Propose : goal.returns-in-Propose
unfolding answered
returns-in-Propose g c =
    let core = c.self.inside in
    rw (← c.self.view_is) (rw c.in-Propose.is (applied g.H.HashFunction.hash_of c.args.guest (Propose c.in-Propose.ppn) c.propose.result core.entries core.held c.propose.new.held c.propose.ensures.step c.propose.ensures.served.total c.propose.ensures.served.stay))

pub returns-in-Store : goal.returns-in-Store
unfolding answered
returns-in-Store g c =
    let core = c.self.inside in
    rw (← c.self.view_is) (rw c.in-Store.is (applied g.H.HashFunction.hash_of c.args.guest (Store c.in-Store.r) c.store.result core.entries core.held c.store.new.held c.store.ensures.step c.store.ensures.served.total c.store.ensures.served.stay))

pub returns-in-Release : goal.returns-in-Release
unfolding answered
returns-in-Release g c =
    let core = c.self.inside in
    rw (← c.self.view_is) (rw c.in-Release.is (applied g.H.HashFunction.hash_of c.args.guest (Release c.in-Release.ppn) c.release.result core.entries core.held c.release.new.held c.release.ensures.step c.release.ensures.served.total c.release.ensures.served.stay))
