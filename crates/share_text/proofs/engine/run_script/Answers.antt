use Rattle.merge_run.specs.View.{settled_journal}
use Rattle.script_text.specs.Views.{script_seen}
use Rattle.share_text.proofs.Ended.{is_run, text_of_run}
use Rattle.share_text.proofs.Serving.{wrote}
use Rattle.share_text.proofs.engine.run_script.Goals as goal

pub returns-in-Ok-clause-serves : goal.returns-in-Ok-clause-serves
returns-in-Ok-clause-serves g c =
    let hash = g.H.HashFunction.hash_of in
    let ran = c.in-Ok.ensures.run in
    let f = c.in-Ok.finished in
    let s = c.args.script in
    let text = text_of_run hash c.args.form s f ran.settles ran.machine ran.guests.0 ran.got in
    let written = wrote hash c.args.form (script_seen s) (settled_journal f.settled) _ _ c.print_run.result (is_run hash s f ran.settles ran.guests.0 ran.sent) (rw text at c.print_run.ensures.ok) (rw text at c.print_run.ensures.err) in
    rw c.of_text.ensures.answer written
