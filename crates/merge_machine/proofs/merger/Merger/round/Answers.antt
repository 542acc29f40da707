use Rattle.std.proofs.Common.{◌≡◌, ◌+◌, ◌<◌, length, refl, ap, sym, ◌∙◌, arith}
use Rattle.std.proofs.lemmas.List.{length-append}
use Rattle.std.proofs.lemmas.List.Elements.{All-append}
use Rattle.page_model.specs.Pages.{State}
use Rattle.page_model.specs.Replay.{state_after}
use Rattle.page_model.specs.declared.request.Entry.{Entry}
use Rattle.page_model.proofs.Journals.{state_after-append}
use Rattle.merge_core.specs.Shown.{state_of}
use Rattle.merge_machine.specs.Machines.{opening}
use Rattle.merge_machine.proofs.Rounds.{all_answered, keeps_more, opening_stays, same_names}
use Rattle.merge_machine.proofs.merger.Merger.round.Goals as goal

pub take_and_serve-requires-clause-answered : goal.take_and_serve-requires-clause-answered
take_and_serve-requires-clause-answered g c κs live =
    let m = c.args.self.now in all_answered g.H.HashFunction.hash_of (opening (state_of m.core)) m.ends.items m.journal.items m.kept

pub invariant_of-self-2 : goal.invariant_of-self-2
invariant_of-self-2 g c =
    let m = c.args.self.now in let hash = g.H.HashFunction.hash_of in let machine = opening (state_of m.core) in let done = c.take_and_serve.ensures.done in
    let now = c.take_and_serve.new in
    let same : opening (state_of now.core) ≡ machine = ap opening done.memory ∙ opening_stays hash (state_of m.core) done.entries in
    let grew : length now.journal.items ≡ length m.journal.items + length done.entries = ap length done.grew ∙ length-append m.journal.items done.entries in
    record {
      kept = rw (done.grew, same) (keeps_more hash machine (state_of m.core) m.ends.items now.ends.items m.journal.items done.entries m.kept m.replayed done.size done.each);
      replayed = rw (done.grew, same) (done.memory ∙ (ap (λ (s : State). state_after hash s done.entries) m.replayed ∙ sym (state_after-append hash machine m.journal.items done.entries)));
      members = rw (done.grew, done.size) (All-append (λ (x : Entry). x.guest < length m.ends.items) m.journal.items done.entries m.members done.members);
      guests = done.guests ∙ (m.guests ∙ sym done.size);
      few = omega (arith, done.size, m.few);
      counted = omega (arith, done.counted, m.counted, grew);
      within = omega (arith, grew, done.count, done.few, c.min.ensures, c.room-room.ensures);
      room = (omega (arith, c.take_and_serve.ensures.capacity, m.room.0), m.room.1);
    }

pub returns-clause-same : goal.returns-clause-same
returns-clause-same g c =
    let m = c.args.self.now in let done = c.take_and_serve.ensures.done in
    record {
      names = same_names m.ends.items c.take_and_serve.new.ends.items done.size (λ i d l. (done.each i d l).name);
      guests = done.size;
      machine = ap opening done.memory ∙ opening_stays g.H.HashFunction.hash_of (state_of m.core) done.entries;
      limit = refl;
    }
