use Rattle.pageshare_c.proofs.Loans.{lent_at}
use Rattle.pageshare_c.proofs.loan.lend.Goals as goal

pub returns-in-Made : goal.returns-in-Made
returns-in-Made c =
    lent_at c.args.client c.args.page.now c.loan_of.result c.lend.result c.args.hosted.now c.in-Made.made c.lend.new.self c.in-Made.is c.loan_of.ensures c.lend.ensures.lends
    c.lend.ensures.hash
