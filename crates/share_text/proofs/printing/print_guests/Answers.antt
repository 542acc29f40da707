use Rattle.std.proofs.Common.{rules, ◌≡◌, ◌+◌, ◌++◌, ◌<◌, ℕ, List, [], length, drop, string_bytes, sym, ap, ◌∙◌, arith, append_assoc, append-nil}
use Rattle.std.proofs.lemmas.List.{drop_all}
use Rattle.journal_replay.specs.Ends.{AppendsFront}
use Rattle.journal_replay.proofs.Sent.{buffers_cut, front_more, sends_front, sends_more, sends_trans}
use Rattle.share_text.specs.Runs.{guest_lines, lists_lines}
use Rattle.share_text.proofs.Listed.{items_of, lists_at}
use Rattle.share_text.proofs.printing.print_guests.Goals as goal

pub loop-list-preserved : goal.loop-list-preserved
loop-list-preserved g c =
    let l = c.loop-list in
    let lists = c.args.lists.now in
    let i = l.list-index in
    let list = c.list-item.result in
    let lines : List ℕ = guest_lines l.guest list.items in
    let later : List ℕ = lists_lines (l.guest + 1) (items_of (drop (i + 1) lists)) in
    let old = string_bytes l.out in
    let new = string_bytes c.print_guest.new.out in
    let here : i < length lists = omega arith in
    let parts : old ++ lists_lines l.guest (items_of (drop i lists)) ≡ (old ++ lines) ++ later = ap (λ (xs : List ℕ). old ++ xs) (lists_at l.guest lists i list here c.list-item.is) ∙ sym (append_assoc old lines later) in
    let first = rw parts at l.invariant.sends in
    let sent = rw c.deref.ensures.value at c.in_ok-print_guest.ensures.buffers.sends in
    let next = sends_more _ _ new (old ++ lines) later sent in
    record {
      sends = sends_trans _ _ _ ((old ++ lines) ++ later) (new ++ later) _ first next;
      guest = omega (arith, l.invariant.guest);
      fine = c.in_ok-print_guest.ensures.buffers.fine;
      room = c.in_ok-print_guest.ensures.room;
    }

pub returns-in_err-print_guest-clause-buffers : goal.returns-in_err-print_guest-clause-buffers
returns-in_err-print_guest-clause-buffers g c =
    let contents = g.W.Sink.contents in
    let l = c.loop-list in
    let lists = c.args.lists.now in
    let i = l.list-index in
    let list = c.list-item.result in
    let lines : List ℕ = guest_lines l.guest list.items in
    let later : List ℕ = lists_lines (l.guest + 1) (items_of (drop (i + 1) lists)) in
    let old = string_bytes l.out in
    let here : i < length lists = omega arith in
    let parts : old ++ lists_lines l.guest (items_of (drop i lists)) ≡ (old ++ lines) ++ later = ap (λ (xs : List ℕ). old ++ xs) (lists_at l.guest lists i list here c.list-item.is) ∙ sym (append_assoc old lines later) in
    let first = rw parts at l.invariant.sends in
    let front : AppendsFront (contents l.writer) (contents c.print_guest.new.writer) (old ++ lines) = rw c.deref.ensures.value at c.in_err-print_guest.ensures.buffers.err in
    let more = front_more _ _ (old ++ lines) later front in
    let cut = sends_front (contents c.args.writer.now) (contents l.writer) (contents c.print_guest.new.writer) ((old ++ lines) ++ later) _ first more in
    buffers_cut _ _ _ _ _ _ c.from_residual.result (search rules) (search rules) c.in_err-print_guest.ensures.buffers.failed cut

pub returns-clause-buffers : goal.returns-clause-buffers
returns-clause-buffers g c =
    let l = c.loop-list in
    let done : drop l.list-index c.args.lists.now ≡ [] = drop_all l.list-index c.args.lists.now (omega arith) in
    let rest : string_bytes l.out ++ lists_lines l.guest (items_of (drop l.list-index c.args.lists.now)) ≡ string_bytes l.out = rw done (append-nil (string_bytes l.out)) in
    record { sends = rw rest at l.invariant.sends; fine = l.invariant.fine; err = tt; failed = tt; fault = tt }
