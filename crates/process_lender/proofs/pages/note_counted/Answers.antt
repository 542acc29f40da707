use Rattle.process_lender.proofs.PageCounts.{page_counted}
use Rattle.process_lender.proofs.pages.note_counted.Goals as goal

pub returns-clause-counted : goal.returns-clause-counted
returns-clause-counted c = page_counted c.args.notice c.args.lead c.args.place c.args.pages.now c.note_there.new.pages c.args.parts.now c.note_there.new.parts c.note_there.ensures
