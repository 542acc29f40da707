use Rattle.std.proofs.Common.{◌≤◌, ap, subst, List, arith}
use mathlib.Core.List.{IsPrefix}
use Rattle.page_model.specs.Parts.{Totals}
use Rattle.watched_machine.specs.Reports.{StartsWith}
use Rattle.watched_machine.proofs.Fronts.{front_of_itself, front_of_longer, shorter_front}
use Rattle.watched_machine.proofs.watch.longer_of.Goals as goal

pub returns-then-second-first-clause-list : goal.returns-then-second-first-clause-list
returns-then-second-first-clause-list c =
    let x = c.args.first.now in let t = c.args.second.now in let whole = c.learn.new.self.log in
    let mine : IsPrefix x.history.log whole = subst (λ (l : List Totals). IsPrefix l whole) (ap (λ f. f.log) c.again-history.ensures) c.learn.ensures.2 in
    let le : t.count ≤ x.count = c.if-second-first.true in
    let there : StartsWith x.history.log t.history.log =
    shorter_front t.history.log x.history.log whole (front_of_longer t.history.log whole c.learn.ensures.3) (front_of_longer x.history.log whole mine) (omega (arith, le, t.counted, x.counted)) in
    rw c.again.ensures there
