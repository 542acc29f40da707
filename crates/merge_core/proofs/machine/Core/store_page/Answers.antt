use Rattle.merge_core.proofs.PageApplied.{page_applied}
use Rattle.merge_core.proofs.machine.Core.store_page.Goals as goal

pub returns : goal.returns
returns g c =
    let core = c.self.inside in
    rw (← c.self.view_is) (page_applied g.H.HashFunction.hash_of c.args.guest c.args.ppn c.args.page.now c.told-page c.store_bytes.result core.entries core.held c.store_bytes.new.held c.store_bytes.ensures.step c.store_bytes.ensures.served.total c.store_bytes.ensures.served.stay)
