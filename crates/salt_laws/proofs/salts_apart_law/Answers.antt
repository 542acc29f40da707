use Rattle.salt_laws.proofs.Apart.{verdicts_as_apart, pages_as_apart}
use Rattle.salt_laws.proofs.salts_apart_law.Goals as goal

pub returns-clause-verdicts : goal.returns-clause-verdicts
returns-clause-verdicts c = verdicts_as_apart c.args.entries.now c.args.salt

pub returns-clause-pages : goal.returns-clause-pages
returns-clause-pages c = pages_as_apart c.args.entries.now c.args.salt
