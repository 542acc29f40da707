use Rattle.std.proofs.Common.{◌≡◌, length, subst, arith}
use Rattle.page_holds.proofs.RowRuns.{least_more, least_none}
use Rattle.page_holds.specs.Orders.{IsLeast}
use Rattle.page_holds.proofs.rows.run.least.Goals as goal

pub loop-n-init : goal.loop-n-init
loop-n-init c = least_none c.args.first c.args.pages.now c.args.row.now

pub loop-n-preserved : goal.loop-n-preserved
loop-n-preserved c =
    least_more c.args.first c.args.pages.now c.args.row.now c.loop-n.n c.loop-n.found c.earlier-found.result c.step_at.result c.loop-n.invariant c.step_at.ensures c.earlier-found.ensures.taken c.earlier-found.ensures.kept

pub returns : goal.returns
returns c =
    let e : c.loop-n.n ≡ length c.args.row.now = omega arith in
    subst (λ n. IsLeast c.args.first c.args.pages.now c.args.row.now n c.loop-n.found) e c.loop-n.invariant
