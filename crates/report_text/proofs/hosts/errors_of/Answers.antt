use Rattle.std.proofs.Common.{◌≡◌, ◌∙◌, take, ap, sym}
use Rattle.report_text.proofs.HostSums.{errors_more}
use Rattle.report_text.proofs.hosts.errors_of.Goals as goal

pub loop-host-preserved : goal.loop-host-preserved
loop-host-preserved c =
    c.with-sum.ensures ∙ rw c.loop-host.invariant (errors_more c.args.hosts.now c.loop-host.host-index _ c.loop-host-test.true)
