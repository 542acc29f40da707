use Rattle.std.proofs.Common.{◌∙◌, sym}
use Rattle.page_census.specs.Contents.{contents, content_at}
use Rattle.page_census.proofs.Chained.{is_one}
use Rattle.page_census.proofs.confirm.is_one_content.Goals as goal

pub returns : goal.returns
returns g c = λ same steady.
    let all = contents g.S.PageSource.pages c.args.guests.now in
    is_one (content_at all c.args.a) (content_at all c.args.b) (sym (c.in_ok-yes.ensures.right steady) ∙ same)
