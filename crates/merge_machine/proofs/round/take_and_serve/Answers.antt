use Rattle.std.proofs.Common.{◌≡◌, ◌-◌, ◌++◌, List, length, take, drop, ap, sym, subst, ◌∙◌, arith}
use Rattle.page_model.specs.Replay.{state_after}
use Rattle.page_model.specs.declared.request.Entry.{Entry}
use Rattle.merge_core.specs.Shown.{state_of}
use Rattle.merge_machine.specs.Taking.{ServedSo}
use Rattle.merge_machine.proofs.Rounds.{follows, taken_served, exhausted_served}
use Rattle.merge_machine.proofs.round.take_and_serve.Goals as goal

pub returns-clause-done : goal.returns-clause-done
returns-clause-done g c =
    let hash = g.H.HashFunction.hash_of in let s = state_of c.args.core.now in let t = c.take_requests.ensures.took in let served = c.serve_taken.ensures in
    let journal0 = c.args.journal.now.items in
    let grew : c.deref.result.now ≡ journal0 ++ t.entries = c.deref.ensures.value ∙ t.grew in
    let len : c.len-before.result ≡ length journal0 = c.len-before.ensures ∙ c.args.journal.now.ok.0 in
    let taken : List Entry = take (length c.deref.result.now - c.len-before.result) (drop c.len-before.result c.deref.result.now) in
    let same : taken ≡ t.entries = rw len (follows journal0 c.deref.result.now t.entries grew) in
    let count : length taken ≡ length t.entries = ap (λ (es : List Entry). length es) same in
    let passed : ServedSo hash s t.entries (length t.entries) c.take_requests.new.ends.items c.serve_taken.new.ends.items = subst (λ (es : List Entry). ServedSo hash s es (length es) c.take_requests.new.ends.items c.serve_taken.new.ends.items) same served.served in
    record {
      entries = t.entries;
      count = sym count;
      few = omega (arith, count, t.count);
      grew = t.grew;
      size = passed.size ∙ t.size;
      members = t.members;
      exhausted = λ less i d l. exhausted_served hash s t.entries c.take_requests.new.ends.items c.serve_taken.new.ends.items i d passed (omega (arith, l, t.size)) (t.exhausted (omega (arith, less, count)) i d l);
      each = taken_served hash s t.entries c.args.ends.now.items c.take_requests.new.ends.items c.serve_taken.new.ends.items t.size t.each passed;
      memory = served.memory ∙ ap (λ (es : List Entry). state_after hash s es) same;
      counted = omega (arith, served.counted, count);
      guests = served.guests;
    }
