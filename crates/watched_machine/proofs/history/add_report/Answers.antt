use Rattle.std.proofs.Common.{sym, ◌∙◌, ap}
use Rattle.watched_machine.proofs.Adding.{adds_one}
use Rattle.watched_machine.proofs.history.add_report.Goals as goal

pub compare_exchange-found-requires : goal.compare_exchange-found-requires
compare_exchange-found-requires c =
    let h = c.requires.counter in let offer = c.plain-offer.ensures in let pen = c.no_pen-pen.ensures in (
      ap (λ w. w.tracked) h,
      sym (ap (λ w. w.book) h),
      pen.0 ∙ sym (ap (λ w. w.book) h),
      offer.0,
      rw (ap (λ w. w.key) h, pen.1, offer.1, offer.3) (adds_one c.args.history.now.log c.args.report c.args.count c.requires.count),
    )
