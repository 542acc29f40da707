use Rattle.std.proofs.Common.{arith}
use Rattle.page_census.proofs.Marked.{as_many, steady_marks}
use Rattle.page_census.proofs.marks.push_guest.Goals as goal

pub returns-in-Ok-clause-len : goal.returns-in-Ok-clause-len
returns-in-Ok-clause-len g c =
    let many = as_many g.H.HashFunction.hash_of c.args.guest.now.salt _ (g.S.PageSource.pages c.args.guest.now.source) _ _ c.in-Ok.ensures.made in
    omega (arith, many, c.args.marks.now.ok.0, c.push_all.new.items.ok.0)

pub returns-in-Ok-clause-right : goal.returns-in-Ok-clause-right
returns-in-Ok-clause-right g c = λ steady. steady_marks g.H.HashFunction.hash_of c.args.guest.now.salt _ (g.S.PageSource.pages c.args.guest.now.source) _ _ c.in-Ok.ensures.made steady
