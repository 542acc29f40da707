use Rattle.window_tables.proofs.Paired.{all_counted, elsewhere_counted, there_counted}
use Rattle.window_tables.proofs.pins.laws.number_law.Goals as goal

pub returns-clause-all : goal.returns-clause-all
returns-clause-all c = all_counted

pub returns-clause-elsewhere : goal.returns-clause-elsewhere
returns-clause-elsewhere c = elsewhere_counted

pub returns-clause-there : goal.returns-clause-there
returns-clause-there c = there_counted
