use Rattle.std.proofs.Common.{rules, ◌≡◌, ◌+◌, ◌++◌, ◌<◌, ℕ, List, [], length, drop, string_bytes, sym, ap, ◌∙◌, arith, append_assoc, append-nil}
use Rattle.std.specs.Prelude.{codes}
use Rattle.std.proofs.lemmas.List.{drop_all}
use Rattle.page_model.specs.declared.verdict.Verdict.{Verdict}
use Rattle.journal_text.specs.Printed.{verdict_line}
use Rattle.journal_replay.proofs.Sent.{buffers_cut, front_more, sends_front, sends_more, sends_trans}
use Rattle.share_text.specs.Runs.{guest_lines}
use Rattle.share_text.proofs.Listed.{verdicts_at}
use Rattle.share_text.proofs.printing.print_guest.Goals as goal

pub returns-in_err-print_verdict-clause-buffers : goal.returns-in_err-print_verdict-clause-buffers
returns-in_err-print_verdict-clause-buffers g c =
    let contents = g.W.Sink.contents in
    let l = c.loop-verdict in
    let old = contents c.args.writer.now in
    let mid = contents l.writer in
    let new = contents c.print_verdict.new.writer in
    let rest : List ℕ = guest_lines c.args.guest (drop l.verdict-index c.args.verdicts.now) in
    let whole : List ℕ = string_bytes c.args.out.now ++ guest_lines c.args.guest c.args.verdicts.now in
    let more = front_more _ _ (string_bytes l.out) rest c.in_err-print_verdict.ensures.buffers.err in
    let front = sends_front old mid new (string_bytes l.out ++ rest) whole l.invariant.sends more in
    buffers_cut old new _ _ _ whole c.from_residual.result (search rules) (search rules) c.in_err-print_verdict.ensures.buffers.failed front

pub loop-verdict-preserved : goal.loop-verdict-preserved
loop-verdict-preserved g c =
    let l = c.loop-verdict in
    let vs : List Verdict = c.args.verdicts.now in
    let i = l.verdict-index in
    let guest = c.args.guest in
    let v : Verdict = c.verdict-item.result in
    let line : List ℕ = verdict_line guest v ++ codes "\n" in
    let later : List ℕ = guest_lines guest (drop (i + 1) vs) in
    let old = string_bytes l.out in
    let new = string_bytes c.print_verdict.new.out in
    let here : i < length vs = omega arith in
    let parts : old ++ guest_lines guest (drop i vs) ≡ (old ++ line) ++ later = ap (λ (xs : List ℕ). old ++ xs) (verdicts_at guest vs i v here c.verdict-item.is) ∙ sym (append_assoc old line later) in
    let first = rw parts at l.invariant.sends in
    let next = sends_more _ _ new (old ++ line) later c.in_ok-print_verdict.ensures.buffers.sends in
    record {
      sends = sends_trans _ _ _ ((old ++ line) ++ later) (new ++ later) _ first next;
      fine = c.in_ok-print_verdict.ensures.buffers.fine;
      room = c.in_ok-print_verdict.ensures.room;
    }

pub returns-clause-buffers : goal.returns-clause-buffers
returns-clause-buffers g c =
    let l = c.loop-verdict in
    let vs : List Verdict = c.args.verdicts.now in
    let out = string_bytes l.out in
    let done : drop l.verdict-index vs ≡ [] = drop_all l.verdict-index vs (omega arith) in
    let rest : out ++ guest_lines c.args.guest (drop l.verdict-index vs) ≡ out =
    ap (λ (left : List Verdict). out ++ guest_lines c.args.guest left) done ∙ append-nil out in
    record { sends = rw rest at l.invariant.sends; fine = l.invariant.fine; err = tt; failed = tt; fault = tt }
