use Rattle.std.proofs.Common.{◌∙◌, ◌+◌, sym, ap, subst}
use Rattle.std.specs.List.{list_any}
use Rattle.std.proofs.Math.ListN.{get_or}
use Rattle.std.proofs.lemmas.List.{take_all}
use Rattle.std.proofs.lemmas.Option.{slice_get-get_or}
use Rattle.offered_ranges.specs.Pieces.{meets, sooner}
use Rattle.offered_ranges.proofs.Found.{BestSo, best_more, best_whole, no_range}
use Rattle.offered_ranges.proofs.piece.next.Goals as goal

pub loop-place-preserved : goal.loop-place-preserved
loop-place-preserved c =
    subst (λ f. BestSo c.args.begin c.args.end c.args.ranges.now (c.loop-place.place + 1) f)
    (sym (c.sooner-first.ensures ∙ ap (λ p. sooner c.loop-place.first p) c.piece_of.ensures))
    (best_more c.args.begin c.args.end c.args.ranges.now c.loop-place.place (get_or c.args.ranges.now c.loop-place.place no_range) c.loop-place.first
    (slice_get-get_or c.args.ranges.now c.loop-place.place no_range c.loop-place-test.true) c.loop-place.invariant)

pub returns-clause-found : goal.returns-clause-found
returns-clause-found c =
    c.loop-place.invariant.some
    ∙ ap (λ xs. list_any (meets c.args.begin c.args.end) xs) (take_all c.loop-place.place c.args.ranges.now c.loop-place-test.false)

pub returns-clause-first : goal.returns-clause-first
returns-clause-first c =
    best_whole c.args.begin c.args.end c.args.ranges.now c.loop-place.place c.loop-place.first c.loop-place-test.false c.loop-place.invariant.first
