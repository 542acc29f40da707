use Rattle.std.proofs.Common.{subst}
use Rattle.page_model.specs.Pages.{State}
use Rattle.journal_replay.specs.Replayed.{Prints, printed_from}
use Rattle.journal_replay.proofs.Sent.{writes_prints}
use Rattle.journal_replay.proofs.engine.print_entries.Goals as goal

pub returns : goal.returns
returns g c =
    let hash = g.H.HashFunction.hash_of in
    let contents = g.W.Sink.contents in
    let failed = g.W.Sink.has_failed c.print_all.new.writer in
    let P : State → Type 0 = λ s. Prints (contents c.args.writer.now) (contents c.print_all.new.writer) failed (printed_from hash s c.args.entries.now) c.print_all.result in
    subst P c.in_ok-core.ensures.empty (writes_prints _ _ _ _ c.print_all.result c.print_all.ensures)
