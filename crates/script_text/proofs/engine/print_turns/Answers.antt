use Rattle.std.proofs.Common.{rules, ◌≡◌, ◌+◌, ◌-◌, ◌++◌, ℕ, suc, List, [], length, map, string_bytes, vec_capacity, sym, ap, ◌∙◌, arith, length-append}
use Rattle.page_model.specs.Pages.{State}
use Rattle.page_model.specs.Replay.{state_after}
use Rattle.page_model.specs.declared.request.Entry.{Entry}
use Rattle.page_model.specs.declared.request.Request.{Request}
use Rattle.merge_core.specs.Shown.{state_of}
use Rattle.merge_machine.specs.Scripts.{with_close}
use Rattle.journal_replay.specs.Ends.{AppendsFront, Sends}
use Rattle.journal_replay.specs.Replayed.{lines_from, printed_from, report_text}
use Rattle.journal_replay.proofs.Sent.{sends_none, writes_cut, writes_rest}
use Rattle.script_text.specs.Order.{turns, longest, left_of, serial_order}
use Rattle.script_text.specs.Views.{lists_of}
use Rattle.script_text.proofs.Turns.{turn_more, turn_none, left_first, serial_few}
use Rattle.script_text.proofs.Runs.{run_sent, run_cut, last_sent, last_cut}
use Rattle.script_text.proofs.engine.print_turns.Goals.{then-len-ge-WINDOW+in_ok-serve_entries, else-len-ge-WINDOW}
use Rattle.script_text.proofs.engine.print_turns.Goals as goal

pub loop-turn-init : goal.loop-turn-init
loop-turn-init g c =
    let hash = g.H.HashFunction.hash_of in
    let s : State = state_of c.args.core.now in
    let lists : List (List Request) = lists_of c.args.scripts.now in
    let t : ℕ = longest (map with_close lists) in
    let whole : t - 0 ≡ t = omega arith in
    let left : List (List Request) = left_of 0 lists in
    let same : c.args.entries.now.items ++ turns (t - 0) left ≡ serial_order lists = ap (λ (xs : List Entry). xs ++ turns (t - 0) left) c.requires.none ∙ ap (λ (k : ℕ). turns k left) whole ∙ left_first lists in
    let all : string_bytes c.args.out.now ++ printed_from hash s (c.args.entries.now.items ++ turns (t - 0) left) ≡ printed_from hash s (serial_order lists) =
    ap (λ (xs : List ℕ). xs ++ printed_from hash s (c.args.entries.now.items ++ turns (t - 0) left)) c.requires.empty ∙ ap (λ (es : List Entry). printed_from hash s es) same in
    record {
      sends = rw all (sends_none (g.W.Sink.contents c.args.writer.now) (printed_from hash s (serial_order lists)));
      few = omega (arith, c.requires.few, ap length same, serial_few c.args.scripts.now);
      guests = c.requires.guests;
      below = rw c.requires.none (λ k d l. absurd (omega (arith, l)));
      waiting = omega (arith, ap length c.requires.none);
      space = c.requires.space;
      fine = c.requires.fine;
      room = c.requires.room;
    }

pub serve_entries-requires-clause-few : goal.serve_entries-requires-clause-few
serve_entries-requires-clause-few g c κs within =
    let lists : List (List Request) = lists_of c.args.scripts.now in
    let t : ℕ = longest (map with_close lists) in
    let turn : ℕ = c.loop-turn.turn in
    let next : t - turn ≡ suc (t - (turn + 1)) = omega (arith, c.turns_of-turn-end.ensures) in
    let later : List Entry = turns (t - (turn + 1)) (left_of (turn + 1) lists) in
    let run : List Entry = c.push_turn.new.entries.items in
    let same : c.loop-turn.entries.items ++ turns (t - turn) (left_of turn lists) ≡ run ++ later = turn_more c.loop-turn.entries.items lists (t - turn) (t - (turn + 1)) turn next ∙ ap (λ (xs : List Entry). xs ++ later) (sym c.push_turn.ensures.items) in
    omega (arith, c.loop-turn.invariant.few, ap length same, length-append run later, ap length c.deref.ensures.value)

pub returns-in_err-serve_entries : goal.returns-in_err-serve_entries
returns-in_err-serve_entries g c =
    let hash = g.H.HashFunction.hash_of in
    let contents = g.W.Sink.contents in
    let s : State = state_of c.loop-turn.core in
    let lists : List (List Request) = lists_of c.args.scripts.now in
    let t : ℕ = longest (map with_close lists) in
    let turn : ℕ = c.loop-turn.turn in
    let next : t - turn ≡ suc (t - (turn + 1)) = omega (arith, c.turns_of-turn-end.ensures) in
    let later : List Entry = turns (t - (turn + 1)) (left_of (turn + 1) lists) in
    let run : List Entry = c.push_turn.new.entries.items in
    let same : c.loop-turn.entries.items ++ turns (t - turn) (left_of turn lists) ≡ run ++ later = turn_more c.loop-turn.entries.items lists (t - turn) (t - (turn + 1)) turn next ∙ ap (λ (xs : List Entry). xs ++ later) (sym c.push_turn.ensures.items) in
    let out = string_bytes c.loop-turn.out in
    let whole : List ℕ = printed_from hash (state_of c.args.core.now) (serial_order lists) in
    let front : AppendsFront (contents c.loop-turn.writer) (contents c.serve_entries.new.writer) (out ++ lines_from hash s run) = rw c.deref.ensures.value at c.in_err-serve_entries.ensures.buffers.err in
    let all = run_cut hash (contents c.args.writer.now) (contents c.loop-turn.writer) (contents c.serve_entries.new.writer) out whole s run later _ same c.loop-turn.invariant.sends front in
    writes_cut _ _ _ whole c.from_residual.result (search rules) (search rules) c.in_err-serve_entries.ensures.buffers.failed all

pub loop-turn-preserved : goal.loop-turn-preserved
loop-turn-preserved g c =
    let hash = g.H.HashFunction.hash_of in
    let contents = g.W.Sink.contents in
    let s : State = state_of c.loop-turn.core in
    let lists : List (List Request) = lists_of c.args.scripts.now in
    let t : ℕ = longest (map with_close lists) in
    let turn : ℕ = c.loop-turn.turn in
    let next : t - turn ≡ suc (t - (turn + 1)) = omega (arith, c.turns_of-turn-end.ensures) in
    let later : List Entry = turns (t - (turn + 1)) (left_of (turn + 1) lists) in
    let run : List Entry = c.push_turn.new.entries.items in
    let all : List Entry = c.loop-turn.entries.items ++ turns (t - turn) (left_of turn lists) in
    let same : all ≡ run ++ later = turn_more c.loop-turn.entries.items lists (t - turn) (t - (turn + 1)) turn next ∙ ap (λ (xs : List Entry). xs ++ later) (sym c.push_turn.ensures.items) in
    let out = string_bytes c.loop-turn.out in
    let whole : List ℕ = printed_from hash (state_of c.args.core.now) (serial_order lists) in
    elim c.if-len-ge-WINDOW.branch [
      | then-len-ge-WINDOW+in_ok-serve_entries w ↦
          let sent : Sends (contents c.loop-turn.writer) (contents w.serve_entries.new.writer) (string_bytes w.serve_entries.new.out) (out ++ lines_from hash s run) = rw w.deref.ensures.value at w.in_ok-serve_entries.ensures.buffers.sends in
          let state : state_of w.serve_entries.new.core ≡ state_after hash s run = rw w.deref.ensures.value at w.in_ok-serve_entries.ensures.state in
          let none : c.if-len-ge-WINDOW.entries.items ≡ [] = ap (λ x. x.items) w.entries-is ∙ w.clear.ensures.items in
          record {
            sends = rw (w.writer-is, w.out-is, w.core-is, none, state) (run_sent hash (contents c.args.writer.now) (contents c.loop-turn.writer) (contents w.serve_entries.new.writer) out (string_bytes w.serve_entries.new.out) whole s run later all same c.loop-turn.invariant.sends sent);
            few = omega (arith, c.loop-turn.invariant.few, ap length same, length-append run later, ap (λ x. x.entries) w.core-is, w.in_ok-serve_entries.ensures.entries, ap length w.deref.ensures.value, ap (λ (xs : List Entry). length (xs ++ later)) none);
            guests = ap (λ x. length (state_of x).guests) w.core-is ∙ w.in_ok-serve_entries.ensures.guests ∙ c.loop-turn.invariant.guests;
            below = rw none (λ k d l. absurd (omega (arith, l)));
            waiting = omega (arith, ap length none);
            space = omega (arith, ap (λ x. vec_capacity x) w.entries-is, w.clear.ensures.capacity, c.push_turn.ensures.capacity, c.loop-turn.invariant.space);
            fine = rw w.writer-is w.in_ok-serve_entries.ensures.buffers.fine;
            room = rw w.out-is w.in_ok-serve_entries.ensures.room;
          }
      | else-len-ge-WINDOW w ↦
          let kept : c.if-len-ge-WINDOW.entries.items ≡ run = ap (λ x. x.items) w.entries-is in
          let sends : Sends (contents c.args.writer.now) (contents c.loop-turn.writer) (out ++ printed_from hash s (run ++ later)) whole = rw same at c.loop-turn.invariant.sends in
          record {
            sends = rw (w.writer-is, w.out-is, w.core-is, kept) sends;
            few = omega (arith, c.loop-turn.invariant.few, ap length same, ap (λ x. x.entries) w.core-is, ap (λ (xs : List Entry). length (xs ++ later)) kept);
            guests = ap (λ x. length (state_of x).guests) w.core-is ∙ c.loop-turn.invariant.guests;
            below = rw kept c.push_turn.ensures.below;
            waiting = omega (arith, ap length kept, w.if-len-ge-WINDOW.false, c.len.ensures, c.push_turn.new.entries.ok.0);
            space = omega (arith, ap (λ x. vec_capacity x) w.entries-is, c.push_turn.ensures.capacity, c.loop-turn.invariant.space);
            fine = rw w.writer-is c.loop-turn.invariant.fine;
            room = rw w.out-is c.loop-turn.invariant.room;
          }
    ]

pub returns-in_err-serve_entries-2 : goal.returns-in_err-serve_entries-2
returns-in_err-serve_entries-2 g c =
    let hash = g.H.HashFunction.hash_of in
    let contents = g.W.Sink.contents in
    let s : State = state_of c.loop-turn.core in
    let lists : List (List Request) = lists_of c.args.scripts.now in
    let t : ℕ = longest (map with_close lists) in
    let turn : ℕ = c.loop-turn.turn in
    let none : t - turn ≡ 0 = omega (arith, c.turns_of-turn-end.ensures) in
    let run : List Entry = c.loop-turn.entries.items in
    let out = string_bytes c.loop-turn.out in
    let whole : List ℕ = printed_from hash (state_of c.args.core.now) (serial_order lists) in
    let front : AppendsFront (contents c.loop-turn.writer) (contents c.serve_entries-2.new.writer) (out ++ lines_from hash s run) = rw c.deref-2.ensures.value at c.in_err-serve_entries-2.ensures.buffers.err in
    let all = last_cut hash (contents c.args.writer.now) (contents c.loop-turn.writer) (contents c.serve_entries-2.new.writer) out whole s run _ (turn_none run lists (t - turn) turn none) c.loop-turn.invariant.sends front in
    writes_cut _ _ _ whole c.from_residual-in_err-serve_entries-2.result (search rules) (search rules) c.in_err-serve_entries-2.ensures.buffers.failed all

pub returns : goal.returns
returns g c =
    let hash = g.H.HashFunction.hash_of in
    let contents = g.W.Sink.contents in
    let a = contents c.args.writer.now in
    let b = contents c.serve_entries-2.new.writer in
    let d = contents c.print_report.new.writer in
    let s : State = state_of c.loop-turn.core in
    let after : State = state_of c.serve_entries-2.new.core in
    let lists : List (List Request) = lists_of c.args.scripts.now in
    let t : ℕ = longest (map with_close lists) in
    let turn : ℕ = c.loop-turn.turn in
    let none : t - turn ≡ 0 = omega (arith, c.turns_of-turn-end.ensures) in
    let run : List Entry = c.loop-turn.entries.items in
    let out = string_bytes c.loop-turn.out in
    let ahead = string_bytes c.serve_entries-2.new.out in
    let whole : List ℕ = printed_from hash (state_of c.args.core.now) (serial_order lists) in
    let sent : Sends (contents c.loop-turn.writer) b ahead (out ++ lines_from hash s run) = rw c.deref-2.ensures.value at c.in_ok-serve_entries-2.ensures.buffers.sends in
    let state : after ≡ state_after hash s run = rw c.deref-2.ensures.value at c.in_ok-serve_entries-2.ensures.state in
    let sends : Sends a b (ahead ++ report_text after) whole = last_sent hash a (contents c.loop-turn.writer) b out ahead whole s after run _ (turn_none run lists (t - turn) turn none) state c.loop-turn.invariant.sends sent in
    writes_rest a b d _ (ahead ++ report_text after) whole c.print_report.result sends c.print_report.ensures
