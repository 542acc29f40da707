use Rattle.std.proofs.Common.{◌≡◌, Ok, ap, sym, ◌∙◌}
use Rattle.text_words.specs.Views.{Fails}
use Rattle.script_text.specs.Texts.{script_of}
use Rattle.script_text.specs.Views.{script_seen}
use Rattle.share_text.proofs.Serving.{no_write, threads_unread, threads_refused, threads_served}
use Rattle.share_text.proofs.engine.read_and_run.Goals as goal

pub returns-in-Err : goal.returns-in-Err
returns-in-Err g c =
    let input = g.R.Source.remaining c.args.reader.now in
    record {
      bytes = threads_unread g.H.HashFunction.hash_of c.args.form input _ c.in-Err.fault c.in-Err.ensures.err;
      reader = c.in-Err.ensures.failed;
      writer = c.requires.writer ∙ sym (no_write input c.in-Err.fault c.in-Err.ensures.err);
    }

pub returns-in-Ok-read_script : goal.returns-in-Ok-read_script
returns-in-Ok-read_script g c =
    let text = c.in-Ok.text.items in
    let read : script_of text ≡ Ok (script_seen c.in-Ok-read_script.script) = ap script_of (sym c.deref.ensures.value) ∙ c.in-Ok-read_script.ensures in
    record {
      bytes = threads_served g.H.HashFunction.hash_of c.args.form (script_seen c.in-Ok-read_script.script) (g.R.Source.remaining c.args.reader.now) _ _ text c.run_script.result c.in-Ok.ensures.ok read c.run_script.ensures.serves;
      reader = c.in-Ok.ensures.failed ∙ sym c.run_script.ensures.reader;
      writer = c.run_script.ensures.writer;
    }

pub returns-in-Err-read_script : goal.returns-in-Err-read_script
returns-in-Err-read_script g c =
    let text = c.in-Ok.text.items in
    let fails : Fails c.in-Err-read_script.fault (script_of text) = rw c.deref.ensures.value at c.in-Err-read_script.ensures in
    let refuses = threads_refused g.H.HashFunction.hash_of c.args.form (g.R.Source.remaining c.args.reader.now) _ _ text c.in-Err-read_script.fault c.print_fault.result c.in-Ok.ensures.ok fails c.print_fault.ensures.refused in
    record {
      bytes = rw c.of_text.ensures.answer refuses;
      reader = rw c.of_text.ensures.written (c.in-Ok.ensures.failed ∙ sym c.print_fault.ensures.reader);
      writer = rw c.of_text.ensures.written c.print_fault.ensures.writer;
    }
