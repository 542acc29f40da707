use Rattle.std.proofs.Common.{◌≡◌, Ok, ap, sym, ◌∙◌}
use Rattle.journal_replay.proofs.Refusals.{unread, prints, refused}
use Rattle.script_text.specs.Texts.{script_of}
use Rattle.script_text.specs.Views.{script_seen}
use Rattle.script_text.specs.Served.{serial_answer}
use Rattle.script_text.proofs.Replies.{long_script, script_printed, script_fault}
use Rattle.script_text.proofs.engine.serial.Goals as goal

pub returns-in-Err-clause-bytes : goal.returns-in-Err-clause-bytes
returns-in-Err-clause-bytes g c = unread _ _ _ c.in-Err.fault (long_script g.H.HashFunction.hash_of) c.in-Err.ensures.err

pub returns-in-Ok-read_script-clause-bytes : goal.returns-in-Ok-read_script-clause-bytes
returns-in-Ok-read_script-clause-bytes g c =
    let hash = g.H.HashFunction.hash_of in
    let text = c.in-Ok.text.items in
    let read : script_of text ≡ Ok (script_seen c.in-Ok-read_script.script) = ap script_of (sym c.deref.ensures.value) ∙ c.in-Ok-read_script.ensures in
    prints (serial_answer hash) (g.R.Source.remaining c.args.reader.now) (g.W.Sink.contents c.args.writer.now) (g.W.Sink.contents c.print_script.new.writer)
    text _ c.print_script.result c.in-Ok.ensures.ok (script_printed hash text (script_seen c.in-Ok-read_script.script) read) c.print_script.ensures.ok c.print_script.ensures.err

pub returns-in-Err-read_script-clause-bytes : goal.returns-in-Err-read_script-clause-bytes
returns-in-Err-read_script-clause-bytes g c =
    let hash = g.H.HashFunction.hash_of in
    let text = c.in-Ok.text.items in
    refused (serial_answer hash) (g.R.Source.remaining c.args.reader.now) (g.W.Sink.contents c.args.writer.now) (g.W.Sink.contents c.print_fault.new.writer)
    text (script_of c.deref.result.now) c.in-Err-read_script.fault c.print_fault.result (λ e h. script_fault hash text e (ap script_of (sym c.deref.ensures.value) ∙ h)) c.in-Ok.ensures.ok c.in-Err-read_script.ensures c.print_fault.ensures.refused
