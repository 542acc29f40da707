use Rattle.page_census.specs.Contents.{AreSteady, contents}
use Rattle.page_census.proofs.Fingerprints.{confirmed_right}
use Rattle.page_census.proofs.confirm.find_classes.Goals as goal

pub returns-then-branch-clause-right : goal.returns-then-branch-clause-right
returns-then-branch-clause-right g c =
    let all = contents g.S.PageSource.pages c.args.guests.now in
    let steady = AreSteady g.S.PageSource.is_steady c.args.guests.now in
    confirmed_right all c.args.marks.now steady c.in_ok-classes.classes.items c.requires.count (c.in_ok-classes.ensures.right tt) c.requires.apart (rw c.deref.ensures.value at (c.in_ok-are_confirmed.ensures {u = tt} c.if-branch.true))
