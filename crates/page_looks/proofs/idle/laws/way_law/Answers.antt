use Rattle.page_looks.proofs.Went.{changes_are_met, idle_is_glanced_at, glances_before_reads, over_is_never_met, kept_is_idle, new_is_met, each_is_read}
use Rattle.page_looks.proofs.idle.laws.way_law.Goals as goal

pub returns-clause-changes : goal.returns-clause-changes
returns-clause-changes c = changes_are_met

pub returns-clause-idle : goal.returns-clause-idle
returns-clause-idle c = idle_is_glanced_at

pub returns-clause-before : goal.returns-clause-before
returns-clause-before c = glances_before_reads

pub returns-clause-over : goal.returns-clause-over
returns-clause-over c = over_is_never_met

pub returns-clause-kept : goal.returns-clause-kept
returns-clause-kept c = kept_is_idle

pub returns-clause-fresh : goal.returns-clause-fresh
returns-clause-fresh c = new_is_met

pub returns-clause-read : goal.returns-clause-read
returns-clause-read c = each_is_read
