use Rattle.share_text.proofs.printing.print_run.Goals as goal

pub returns-in-Verdicts : goal.returns-in-Verdicts
returns-in-Verdicts g c = rw c.in-Verdicts.is c.print_verdicts.ensures

pub returns-in-JournalText : goal.returns-in-JournalText
returns-in-JournalText g c = rw c.in-JournalText.is c.print_journal.ensures
