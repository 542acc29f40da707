use Rattle.std.proofs.Common.{◌∙◌, sym, rules}
use Rattle.share_rings.specs.Closing.{is_close, is_closed}
use Rattle.share_rings.proofs.Fronts.{beside_more, beside_shorter, any_snoc}
use Rattle.share_rings.specs.Ends.{end_taken, end_given}
use Rattle.share_rings.proofs.merger_end.MergerEnd.give.Goals as goal

pub invariant_of-self : goal.invariant_of-self
invariant_of-self g c =
    let e = c.args.self.now in let sent = c.push_reserved.ensures.sent in let is = c.is_closed-self.ensures in
    let none = beside_shorter is_closed is_close (end_given e) (end_taken e) e.answered c.requires.unanswered.0 e.once in record {
      closing_is = e.closing_is;
      once = e.once;
      ended_is = rw sent.0 (is ∙ sym (any_snoc is_closed (end_given e) c.args.verdict none));
      answered = rw sent.0 (beside_more is_closed is_close (end_given e) (end_taken e) c.args.verdict e.answered c.requires.unanswered.0 c.requires.unanswered.1);
      room = search rules;
      small = search rules;
    }
