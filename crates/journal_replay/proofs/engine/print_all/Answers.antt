use Rattle.std.proofs.Common.{rules, ◌≡◌, ◌++◌, ℕ, List, string_bytes, sym, ap, ◌∙◌}
use Rattle.page_model.specs.Pages.{State}
use Rattle.page_model.specs.Replay.{state_after}
use Rattle.merge_core.specs.Shown.{state_of}
use Rattle.journal_replay.specs.Ends.{Sends}
use Rattle.journal_replay.specs.Replayed.{lines_from, printed_from, report_text}
use Rattle.journal_replay.proofs.Prints.{printed_whole}
use Rattle.journal_replay.proofs.Sent.{front_more, sends_more, writes_cut, writes_rest}
use Rattle.journal_replay.proofs.engine.print_all.Goals as goal

pub returns-in_err-serve_entries : goal.returns-in_err-serve_entries
returns-in_err-serve_entries g c =
    let hash = g.H.HashFunction.hash_of in
    let s : State = state_of c.args.core.now in
    let es = c.args.entries.now in
    let lines : List ℕ = lines_from hash s es in
    let report : List ℕ = report_text (state_after hash s es) in
    let all : (string_bytes c.args.out.now ++ lines) ++ report ≡ printed_from hash s es =
    ap (λ (xs : List ℕ). (xs ++ lines) ++ report) c.requires.empty ∙ sym (printed_whole hash s es) in
    let front = rw all at (front_more _ _ (string_bytes c.args.out.now ++ lines) report c.in_err-serve_entries.ensures.buffers.err) in
    writes_cut _ _ _ _ c.from_residual.result (search rules) (search rules) c.in_err-serve_entries.ensures.buffers.failed front

pub returns : goal.returns
returns g c =
    let hash = g.H.HashFunction.hash_of in
    let contents = g.W.Sink.contents in
    let old = contents c.args.writer.now in
    let mid = contents c.serve_entries.new.writer in
    let s : State = state_of c.args.core.now in
    let es = c.args.entries.now in
    let lines : List ℕ = lines_from hash s es in
    let report : List ℕ = report_text (state_of c.serve_entries.new.core) in
    let out = string_bytes c.serve_entries.new.out in
    let before : List ℕ = string_bytes c.args.out.now ++ lines in
    let whole : List ℕ = printed_from hash s es in
    let all : before ++ report ≡ whole =
    ap (λ (xs : List ℕ). (xs ++ lines) ++ report) c.requires.empty
    ∙ ap (λ (t : State). lines ++ report_text t) c.in_ok-serve_entries.ensures.state
    ∙ sym (printed_whole hash s es) in
    let sends : Sends old mid (out ++ report) whole = rw all at (sends_more _ _ out before report c.in_ok-serve_entries.ensures.buffers.sends) in
    writes_rest old mid (contents c.print_report.new.writer) _ (out ++ report) whole c.print_report.result sends c.print_report.ensures
