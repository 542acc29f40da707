use Rattle.std.proofs.Common.{add-one, arith, take, ◌≡◌}
use Rattle.std.proofs.lemmas.List.{take_all}
use Rattle.page_forecasts.proofs.Left.{left_alone, left_own, none_left, one_left}
use Rattle.page_forecasts.proofs.forecast.Forecast.serve_all.Goals.{then-entry-guest, else-entry-guest}
use Rattle.page_forecasts.proofs.forecast.Forecast.serve_all.Goals as goal

pub loop-entry-init : goal.loop-entry-init
loop-entry-init g c salt page begun = rw (none_left c.args.requests.now c.args.guest c.args.ppn page) begun

pub loop-entry-preserved : goal.loop-entry-preserved
loop-entry-preserved g c salt page begun =
    let so_far = c.loop-entry.invariant salt page begun in
    rw (add-one, one_left c.args.requests.now c.loop-entry.entry-index c.entry-item.result c.args.guest c.args.ppn page c.loop-entry-test.true c.entry-item.is)
    (elim c.if-entry-guest.branch [
      | then-entry-guest w ↦
          rw (w.self-is, w.is_mapped-is, left_own c.entry-item.result c.args.guest c.args.ppn _ w.if-entry-guest.true) (w.serve-is_mapped.ensures salt _ so_far)
      | else-entry-guest w ↦ rw (w.self-is, w.is_mapped-is, left_alone c.entry-item.result c.args.guest c.args.ppn _ w.if-entry-guest.false) so_far
    ])

pub returns : goal.returns
returns g c salt page begun =
    let all : take c.loop-entry.entry-index c.args.requests.now ≡ c.args.requests.now =
    take_all c.loop-entry.entry-index c.args.requests.now (omega (arith, c.loop-entry-test.false)) in
    rw (← all) (c.loop-entry.invariant salt page begun)
