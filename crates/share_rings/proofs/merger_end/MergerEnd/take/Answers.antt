use Rattle.std.proofs.Common.{◌≡◌, ◌∙◌, sym}
use Rattle.share_rings.specs.Closing.{is_close, is_closed}
use Rattle.std.specs.List.{list_any}
use Rattle.std.proofs.Common.{false}
use Rattle.share_rings.proofs.Fronts.{beside_more_below, front_snoc, any_snoc}
use Rattle.share_rings.specs.Ends.{end_taken, end_given}
use Rattle.share_rings.proofs.merger_end.MergerEnd.take.Goals as goal

pub invariant_of-self-2 : goal.invariant_of-self-2
invariant_of-self-2 g c =
    let e = c.args.self.now in let got = c.in-Ok.ensures.ok in let r = c.in-Ok.request in
    let none : list_any is_close (end_taken e) ≡ false = sym e.closing_is ∙ c.if-self.false in record {
      closing_is = rw got.0 (c.is_close-self.ensures ∙ sym (any_snoc is_close (end_taken e) r none));
      once = rw (got.0, front_snoc (end_taken e) r) none;
      ended_is = e.ended_is;
      answered = rw got.0 (beside_more_below is_closed is_close (end_given e) (end_taken e) r e.answered);
      room = e.room;
      small = e.small;
    }
