use Rattle.lending_laws.proofs.Notes.{each_is_detached, each_look_is_calls, each_note_is_a_call, each_step_tells}
use Rattle.lending_laws.proofs.calls_law.Goals as goal

pub returns-clause-notes : goal.returns-clause-notes
returns-clause-notes c = each_note_is_a_call

pub returns-clause-steps : goal.returns-clause-steps
returns-clause-steps c = each_step_tells

pub returns-clause-looks : goal.returns-clause-looks
returns-clause-looks c = each_look_is_calls

pub returns-clause-detached : goal.returns-clause-detached
returns-clause-detached c = each_is_detached
