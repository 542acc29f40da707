use Rattle.std.proofs.Common.{rules, ◌≡◌, ◌+◌, ◌++◌, ◌<◌, ℕ, List, [], length, drop, string_bytes, sym, ap, ◌∙◌, arith, append_assoc}
use Rattle.std.proofs.lemmas.List.{drop_all}
use Rattle.page_model.specs.Pages.{State}
use Rattle.page_model.specs.Replay.{state_after}
use Rattle.page_model.specs.Steps.{step}
use Rattle.page_model.specs.declared.request.Entry.{Entry}
use Rattle.merge_core.specs.Shown.{state_of}
use Rattle.journal_replay.specs.Ends.{Sends}
use Rattle.journal_replay.specs.Replayed.{lines_from, served_line}
use Rattle.journal_replay.proofs.Prints.{lines_at, state_at, state_none}
use Rattle.journal_replay.proofs.Sent.{buffers_cut, front_more, sends_front, sends_more, sends_trans}
use Rattle.journal_replay.proofs.engine.serve_entries.Goals as goal

pub returns-in_err-serve_entry-clause-buffers : goal.returns-in_err-serve_entry-clause-buffers
returns-in_err-serve_entry-clause-buffers g c =
    let hash = g.H.HashFunction.hash_of in
    let contents = g.W.Sink.contents in
    let old = contents c.args.writer.now in
    let mid = contents c.loop-at.writer in
    let new = contents c.serve_entry.new.writer in
    let rest : List ℕ = lines_from hash (state_of c.loop-at.core) (drop c.loop-at.at c.args.entries.now) in
    let whole : List ℕ = string_bytes c.args.out.now ++ lines_from hash (state_of c.args.core.now) c.args.entries.now in
    let more = front_more _ _ (string_bytes c.loop-at.out) rest c.in_err-serve_entry.ensures.buffers.err in
    let front = sends_front old mid new (string_bytes c.loop-at.out ++ rest) whole c.loop-at.invariant.sends more in
    buffers_cut old new _ _ _ whole c.from_residual.result (search rules) (search rules) c.in_err-serve_entry.ensures.buffers.failed front

pub loop-at-preserved : goal.loop-at-preserved
loop-at-preserved g c =
    let hash = g.H.HashFunction.hash_of in
    let contents = g.W.Sink.contents in
    let es = c.args.entries.now in
    let i = c.loop-at.at in
    let s : State = state_of c.loop-at.core in
    let e : Entry = c.index-entries-at.result in
    let after : State = (step hash s e.guest e.request).state in
    let line : List ℕ = served_line hash s e in
    let later : List ℕ = lines_from hash after (drop (i + 1) es) in
    let old = string_bytes c.loop-at.out in
    let new = string_bytes c.serve_entry.new.out in
    let here : i < length es = omega arith in
    let served : state_of c.serve_entry.new.core ≡ after = c.in_ok-serve_entry.ensures.step in
    let parts : old ++ lines_from hash s (drop i es) ≡ (old ++ line) ++ later = ap (λ (xs : List ℕ). old ++ xs) (lines_at hash s es i e here c.index-entries-at.is) ∙ sym (append_assoc old line later) in
    let whole : List ℕ = string_bytes c.args.out.now ++ lines_from hash (state_of c.args.core.now) es in
    let first : Sends (contents c.args.writer.now) (contents c.loop-at.writer) ((old ++ line) ++ later) whole = rw parts at c.loop-at.invariant.sends in
    let sent : Sends (contents c.loop-at.writer) (contents c.serve_entry.new.writer) new (old ++ line) = c.in_ok-serve_entry.ensures.buffers.sends in
    let next : Sends (contents c.loop-at.writer) (contents c.serve_entry.new.writer) (new ++ later) ((old ++ line) ++ later) = sends_more _ _ new (old ++ line) later sent in
    record {
      sends = rw served (sends_trans _ _ _ ((old ++ line) ++ later) (new ++ later) _ first next);
      state = rw served (sym (state_at hash s es i e here c.index-entries-at.is) ∙ c.loop-at.invariant.state);
      count = omega (arith, c.in_ok-serve_entry.ensures.entries, c.loop-at.invariant.count);
      guests = c.in_ok-serve_entry.ensures.guests ∙ c.loop-at.invariant.guests;
      fine = c.in_ok-serve_entry.ensures.buffers.fine;
      room = c.in_ok-serve_entry.ensures.room;
    }

pub returns-clause-state : goal.returns-clause-state
returns-clause-state g c =
    let hash = g.H.HashFunction.hash_of in
    let es = c.args.entries.now in
    let s : State = state_of c.loop-at.core in
    let done : drop c.loop-at.at es ≡ [] = drop_all c.loop-at.at es (omega arith) in
    sym (state_none hash s) ∙ ap (λ (left : List Entry). state_after hash s left) (sym done) ∙ c.loop-at.invariant.state
