use Rattle.share_text.proofs.Ended.{prints_written}
use Rattle.share_text.proofs.printing.print_verdicts.Goals as goal

pub returns : goal.returns
returns g c = prints_written _ _ _ _ c.print_lines.result (rw (c.core.ensures, c.deref.ensures.value) at c.print_lines.ensures)
