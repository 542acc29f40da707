use Rattle.lender_domains.proofs.Believed.{slots_by_belief, accounts_by_belief}
use Rattle.lender_domains.proofs.belief_law.Goals as goal

pub returns-clause-held : goal.returns-clause-held
returns-clause-held c = slots_by_belief

pub returns-clause-account : goal.returns-clause-account
returns-clause-account c = accounts_by_belief
