use Rattle.std.proofs.Common.{length, ap, arith}
use Rattle.page_census.proofs.Gathered.{length_within}
use Rattle.page_census.proofs.marks.count_pages.Goals as goal

pub returns-in-None : goal.returns-in-None
returns-in-None g c =
    let pages = g.S.PageSource.pages in
    let guest = c.index-guests-guest.result in
    let is = ap (λ guest. length (pages guest.source)) c.index-guests-guest.is in
    let within = length_within pages c.args.guests.now c.loop-guest.guest guest c.loop-guest-test.true in
    omega (arith, is, within, c.loop-guest.invariant, c.count.ensures, c.in-None.ensures)
