use Rattle.page_model.specs.Steps.{answered}
use Rattle.page_model.specs.declared.request.Request.TheVariants.{Release}
use Rattle.merge_core.specs.Lending.{release_verdict}
use Rattle.merge_core.proofs.Applied.{applied}
use Rattle.merge_core.proofs.machine.Core.take_back.Goals as goal

pub returns : goal.returns
unfolding answered
returns g c =
    let core = c.self.inside in
    rw (← c.self.view_is) (record {
      applies = applied g.H.HashFunction.hash_of c.args.guest (Release c.args.ppn) (release_verdict c.take_back.result) core.entries core.held c.take_back.new.held c.take_back.ensures.step c.take_back.ensures.served.total c.take_back.ensures.served.stay;
      room = c.take_back.ensures.room;
      freed = c.take_back.ensures.freed;
    })
