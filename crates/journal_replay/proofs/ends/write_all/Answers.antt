use Rattle.std.proofs.Common.{◌≡◌, ◌-◌, length, take, drop, arith, ◌∙◌}
use Rattle.std.proofs.lemmas.List.{take_all, length-drop}
use Rattle.journal_replay.proofs.Known.{sent_more, no_failure}
use Rattle.journal_replay.proofs.ends.write_all.Goals as goal

pub loop-done-preserved : goal.loop-done-preserved
loop-done-preserved g c =
    let contents = g.W.Sink.contents in
    let bytes = c.args.bytes.now in
    let done = c.loop-done.done in
    let rest : take (length bytes - done) (drop done bytes) ≡ drop done bytes = take_all _ _ (omega (arith, length-drop done bytes)) in
    let took = rw rest at c.in-Ok.ensures.bytes in
    let least = rw rest at c.in-Ok.ensures.bound in
    record {
      sent = sent_more (contents c.args.writer.now) (contents c.loop-done.writer) (contents c.write.new.self) bytes done c.in-Ok.n c.loop-done.invariant.sent took;
      fine = c.in-Ok.ensures.failed ∙ no_failure c.in-Ok.n _ _ c.in-Ok.n-test.1 c.loop-done.invariant.fine;
      within = omega (arith, least, length-drop done bytes);
    }
