use Rattle.std.proofs.Common.{◌≡◌, ◌+◌, ◌*◌, ◌≤◌, ◌∷◌, ◌++◌, true, ap, append_assoc, arith, length}
use Rattle.std.proofs.lemmas.Grind.{common_steps}
use Rattle.std.specs.Prelude.{IfOk}
use Rattle.std.specs.Vec.Iter.{into_iter_items}
use Rattle.page_census.specs.Contents.{AreSteady, contents}
use Rattle.page_census.specs.Fingerprints.{AreConfirmed}
use Rattle.page_census.proofs.Fingerprints.{all_confirmed, part_confirmed}
use Rattle.memory_pages.proofs.Splits.{at_next}
use Rattle.page_census.proofs.confirm.are_confirmed.Goals as goal

pub loop-answer-preserved : goal.loop-answer-preserved
loop-answer-preserved g c =
    let so_far = c.loop-answer.invariant in
    let steady = AreSteady g.S.PageSource.is_steady c.args.guests.now in
    let all = contents g.S.PageSource.pages c.args.guests.now in
    let classes = c.args.classes.now in
    let size = c.split_among-split.result.size in
    let rest = into_iter_items c.next.new.self in
    let whole : c.loop-answer.yielded ++ c.in-Some.answer ∷ rest ≡ c.in_ok-answers.answers.items = grind (arith, common_steps, so_far.whole, c.in-Some.ensures.steps, c.into_iter-answer-iterator.ensures.into_iter_gives) in
    let made = at_next (λ n answer. IfOk answer (λ yes. yes ≡ true → AreConfirmed steady all classes (size * n) (size * n + size))) c.loop-answer.yielded rest c.in_ok-answers.answers.items c.in-Some.answer whole
    (λ k d lt. (c.in_ok-answers.ensures.each k d (omega (arith, c.in_ok-answers.ensures.len, c.in_ok-answers.answers.ok.0))).1.met) in
    let part = rw c.in_ok-answer.was at made in
    record {
      right = part_confirmed steady all classes size c.loop-answer.yielded c.in-Some.answer so_far.right (part c.if-not-branch.false);
      whole = grind (arith, common_steps, c.in-Some.ensures.steps, append_assoc);
    }

pub returns : goal.returns
returns g c =
    let steady = AreSteady g.S.PageSource.is_steady c.args.guests.now in
    let all = contents g.S.PageSource.pages c.args.guests.now in
    let size = c.split_among-split.result.size in
    let whole : c.loop-answer.yielded ≡ c.in_ok-answers.answers.items = grind (arith, common_steps, c.loop-answer.invariant.whole, c.in-None.ensures, c.into_iter-answer-iterator.ensures.into_iter_gives) in
    let same = ap length whole in
    let parts : length c.loop-answer.yielded ≡ c.split_among-split.result.parts = omega (arith, same, c.in_ok-answers.ensures.len, c.in_ok-answers.answers.ok.0) in
    let covered : length c.args.classes.now ≤ size * length c.loop-answer.yielded = rw parts (omega (arith, c.split_among-split.ensures.all, c.requires.classed.classed, c.requires.classed.few)) in
    λ _. all_confirmed steady all c.args.classes.now (size * length c.loop-answer.yielded) (omega (arith, covered, c.requires.classed.classed)) c.loop-answer.invariant.right
