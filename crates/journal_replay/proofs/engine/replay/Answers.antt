use Rattle.std.proofs.Common.{◌≡◌, Ok, ap, sym, ◌∙◌}
use Rattle.journal_text.specs.Texts.{journal_of}
use Rattle.journal_text.specs.Views.{journal_seen}
use Rattle.journal_replay.specs.Replayed.{answer_of}
use Rattle.journal_replay.proofs.Refusals.{too_long, answer_ok, answer_err, unread, prints, refused}
use Rattle.journal_replay.proofs.engine.replay.Goals as goal

pub returns-in-Err-clause-bytes : goal.returns-in-Err-clause-bytes
returns-in-Err-clause-bytes g c = unread _ _ _ c.in-Err.fault (too_long g.H.HashFunction.hash_of) c.in-Err.ensures.err

pub returns-in-Ok-read_journal-clause-bytes : goal.returns-in-Ok-read_journal-clause-bytes
returns-in-Ok-read_journal-clause-bytes g c =
    let hash = g.H.HashFunction.hash_of in
    let text = c.in-Ok.text.items in
    let read : journal_of text ≡ Ok (journal_seen c.in-Ok-read_journal.journal) = ap journal_of (sym c.deref.ensures.value) ∙ c.in-Ok-read_journal.ensures in
    prints (answer_of hash) (g.R.Source.remaining c.args.reader.now) (g.W.Sink.contents c.args.writer.now) (g.W.Sink.contents c.print_replay.new.writer)
    text _ c.print_replay.result c.in-Ok.ensures.ok (answer_ok hash text (journal_seen c.in-Ok-read_journal.journal) read) c.print_replay.ensures.ok c.print_replay.ensures.err

pub returns-in-Err-read_journal-clause-bytes : goal.returns-in-Err-read_journal-clause-bytes
returns-in-Err-read_journal-clause-bytes g c =
    let hash = g.H.HashFunction.hash_of in
    let text = c.in-Ok.text.items in
    refused (answer_of hash) (g.R.Source.remaining c.args.reader.now) (g.W.Sink.contents c.args.writer.now) (g.W.Sink.contents c.print_fault.new.writer)
    text (journal_of c.deref.result.now) c.in-Err-read_journal.fault c.print_fault.result (λ e h. answer_err hash text e (ap journal_of (sym c.deref.ensures.value) ∙ h)) c.in-Ok.ensures.ok c.in-Err-read_journal.ensures c.print_fault.ensures.refused
