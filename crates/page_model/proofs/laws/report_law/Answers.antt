use Rattle.page_model.proofs.InUse.{report_adds_up, report_counts_entries}
use Rattle.page_model.proofs.laws.report_law.Goals as goal

pub returns-clause-sums : goal.returns-clause-sums
returns-clause-sums c = report_adds_up c.args.entries.now

pub returns-clause-entries : goal.returns-clause-entries
returns-clause-entries c = report_counts_entries c.args.entries.now
