use Rattle.std.proofs.Common.{rules, ◌≡◌, ◌+◌, ◌-◌, arith}
use Rattle.digest_text.proofs.Sent.{cut_lines, lines_more}
use Rattle.digest_text.proofs.writer.write_lines.Goals as goal

pub returns-in_err-write_some : goal.returns-in_err-write_some
returns-in_err-write_some g c =
    let contents = g.W.Write.contents in
    let done = c.loop-done.done in
    let n = c.min-count.result in
    let same : done + n - done ≡ n = omega arith in
    cut_lines (contents c.args.writer.now) (contents c.loop-done.writer) (contents c.write_some.new.writer) c.args.head.now c.args.lines.now done n c.from_residual.result (search rules) c.loop-done.invariant.sent (rw same at c.in_err-write_some.ensures.sent)

pub loop-done-preserved : goal.loop-done-preserved
loop-done-preserved g c =
    let contents = g.W.Write.contents in
    let done = c.loop-done.done in
    let n = c.min-count.result in
    let same : done + n - done ≡ n = omega arith in
    record {
      sent = lines_more (contents c.args.writer.now) (contents c.loop-done.writer) (contents c.write_some.new.writer) c.args.head.now c.args.lines.now done n c.loop-done.invariant.sent (rw same at c.in_ok-write_some.ensures.sent);
      within = omega (arith, c.min-count.ensures);
      room = c.in_ok-write_some.ensures.room;
    }
