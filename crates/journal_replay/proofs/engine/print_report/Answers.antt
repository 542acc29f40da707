use Rattle.std.proofs.Common.{rules, ◌≡◌, ◌++◌, List, ℕ, ◌∙◌, subst, string_bytes}
use Rattle.merge_core.specs.Shown.{state_of}
use Rattle.journal_replay.specs.Ends.{Sends, WritesAll}
use Rattle.journal_replay.specs.Replayed.{report_text}
use Rattle.journal_replay.proofs.Sent.{front_more, sends_more, writes_cut, writes_rest}
use Rattle.journal_replay.proofs.engine.print_report.Goals as goal

pub returns-in_err-make_room : goal.returns-in_err-make_room
returns-in_err-make_room g c =
    let front = front_more _ _ (string_bytes c.args.out.now) (report_text (state_of c.args.core.now)) c.in_err-make_room.ensures.buffers.err in
    writes_cut _ _ _ _ c.from_residual.result (search rules) (search rules) c.in_err-make_room.ensures.buffers.failed front

pub returns : goal.returns
returns g c =
    let contents = g.W.Sink.contents in
    let old = contents c.args.writer.now in
    let mid = contents c.make_room.new.writer in
    let new = contents c.write_all.new.writer in
    let failed = g.W.Sink.has_failed c.write_all.new.writer in
    let report : List ℕ = report_text (state_of c.args.core.now) in
    let ahead : List ℕ = string_bytes c.make_room.new.out ++ report in
    let whole : List ℕ = string_bytes c.args.out.now ++ report in
    let sends : Sends old mid ahead whole = sends_more old mid (string_bytes c.make_room.new.out) (string_bytes c.args.out.now) report c.in_ok-make_room.ensures.buffers.sends in
    let bytes : c.as_bytes.result.now ≡ ahead = c.as_bytes.ensures.value ∙ (rw c.report.ensures at c.put_report.ensures) in
    let P : List ℕ → Type 0 = λ xs. WritesAll mid new failed xs c.write_all.result in
    writes_rest old mid new failed ahead whole c.write_all.result sends (subst P bytes c.write_all.ensures)
