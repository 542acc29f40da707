use Rattle.std.proofs.Common.{◌∙◌}
use Rattle.share_rings.specs.Closing.{is_close, is_closed}
use Rattle.share_rings.proofs.Fronts.{any_is_last, beside_front}
use Rattle.share_rings.specs.Ends.{end_taken, end_given}
use Rattle.share_rings.proofs.merger_end.MergerEnd.ended.Goals as goal

pub returns-clause-last : goal.returns-clause-last
returns-clause-last g c = let e = c.args.self.now in
    e.ended_is ∙ any_is_last is_closed (end_given e) (beside_front is_closed is_close (end_given e) (end_taken e) e.answered e.once)
