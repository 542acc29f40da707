use Rattle.std.proofs.Common.{rules, ◌≡◌, ◌-◌, length, take, drop, arith}
use Rattle.std.proofs.lemmas.List.{take_all, length-drop}
use Rattle.digest_text.proofs.Sent.{bytes_more, cut_at}
use Rattle.digest_text.proofs.writer.write_bytes.Goals as goal

pub returns-in_err-count : goal.returns-in_err-count
returns-in_err-count g c =
    let contents = g.W.Write.contents in
    cut_at (contents c.args.writer.now) (contents c.loop-done.writer) (contents c.write.new.self) c.args.bytes.now c.loop-done.done c.from_residual.result (search rules) c.loop-done.invariant.sent c.in_err-count.ensures.bytes

pub returns-then-count-eq0 : goal.returns-then-count-eq0
returns-then-count-eq0 g c =
    let contents = g.W.Write.contents in
    let bytes = c.args.bytes.now in
    let done = c.loop-done.done in
    let rest : take (length bytes - done) (drop done bytes) ≡ drop done bytes = take_all _ _ (omega (arith, length-drop done bytes)) in
    let took = rw rest at c.in_ok-count.ensures.bytes in
    (_, bytes_more (contents c.args.writer.now) (contents c.loop-done.writer) (contents c.write.new.self) bytes done c.in_ok-count.count c.loop-done.invariant.sent took)

pub loop-done-preserved : goal.loop-done-preserved
loop-done-preserved g c =
    let contents = g.W.Write.contents in
    let bytes = c.args.bytes.now in
    let done = c.loop-done.done in
    let rest : take (length bytes - done) (drop done bytes) ≡ drop done bytes = take_all _ _ (omega (arith, length-drop done bytes)) in
    let took = rw rest at c.in_ok-count.ensures.bytes in
    let least = rw rest at c.in_ok-count.ensures.bound in
    record {
      sent = bytes_more (contents c.args.writer.now) (contents c.loop-done.writer) (contents c.write.new.self) bytes done c.in_ok-count.count c.loop-done.invariant.sent took;
      within = omega (arith, least, length-drop done bytes);
    }
