use Rattle.std.proofs.Common.{◌≡◌, ◌+◌, ◌<◌, true, false, ◌∙◌, ◌++◌, ◌∷◌, [], set, sym, refl, ap, length, arith}
use Rattle.std.proofs.lemmas.List.{length-set, length_push}
use Rattle.std.proofs.lemmas.List.Elements.{All-push}
use Rattle.page_model.specs.declared.request.Entry.{Entry}
use Rattle.page_model.specs.Journal.{asked, answers}
use Rattle.page_model.specs.Steps.{step}
use Rattle.page_model.specs.Pages.{State}
use Rattle.page_model.specs.Replay.{state_after}
use Rattle.merge_core.specs.Shown.{state_of}
use Rattle.share_rings.specs.Ends.{end_name, end_taken, end_given}
use Rattle.merge_machine.specs.Machines.{opening}
use Rattle.merge_machine.proofs.Lists.{map_put}
use Rattle.merge_machine.proofs.Ends.{keeps_here, next_unanswered, keeps_done, state_after_push}
use Rattle.merge_machine.proofs.Stepped.{at_guest, not_closing, name_of}
use Rattle.merge_machine.proofs.Openings.{opening_after}
use Rattle.merge_machine.proofs.merger.Merger.step.Goals as goal

pub look_ahead-requires : goal.look_ahead-requires
look_ahead-requires g c none =
    let m = c.args.self.now in
    not_closing g.H.HashFunction.hash_of (opening (state_of m.core)) m.ends.items m.journal.items c.args.guest c.index_mut-end.result.now m.kept c.requires c.index_mut-end.ensures.value none

pub returns-in-Ended-clause-step : goal.returns-in-Ended-clause-step
returns-in-Ended-clause-step g c =
    let m = c.args.self.now in let found = c.in-Ended.ensures in
    record { end = at_guest m.ends.items c.args.guest c.index_mut-end.result.now c.look_ahead.new.end c.index_mut-end.ensures.value c.requires; does = (found.0, found.1, (refl, refl)) }

pub returns-in-Full-clause-step : goal.returns-in-Full-clause-step
returns-in-Full-clause-step g c =
    let m = c.args.self.now in let found = c.in-Full.ensures in
    let full : c.is_full-is_full.result ≡ true = found.1 in
    record {
      end = at_guest m.ends.items c.args.guest c.index_mut-end.result.now c.look_ahead.new.end c.index_mut-end.ensures.value c.requires;
      still = found.2;
      opened = found.0;
      full = c.is_full-is_full.ensures.full full;
      same = (refl, refl);
    }

pub returns-in-Blocked-clause-step : goal.returns-in-Blocked-clause-step
returns-in-Blocked-clause-step g c =
    let m = c.args.self.now in let found = c.in-Blocked.ensures in
    let room : c.is_full-is_full.result ≡ false = found.1 in
    record {
      end = at_guest m.ends.items c.args.guest c.index_mut-end.result.now c.look_ahead.new.end c.index_mut-end.ensures.value c.requires;
      does = (found.0, c.is_full-is_full.ensures.room room, found.2, found.3, found.4, found.5, (refl, refl));
    }

pub returns-in-Blocked-clause-same : goal.returns-in-Blocked-clause-same
returns-in-Blocked-clause-same g c =
    let m = c.args.self.now in let found = c.in-Blocked.ensures in
    record {
      names = map_put end_name m.ends.items c.args.guest c.index_mut-end.result.now c.look_ahead.new.end c.index_mut-end.ensures.value (name_of c.look_ahead.new.end c.index_mut-end.result.now found.5.0);
      guests = length-set m.ends.items c.args.guest c.look_ahead.new.end;
      machine = refl;
      limit = refl;
    }

pub returns-in-Idle-clause-step : goal.returns-in-Idle-clause-step
returns-in-Idle-clause-step g c =
    let m = c.args.self.now in let found = c.in-Idle.ensures in
    let room : c.is_full-is_full.result ≡ false = found.1 in
    record {
      end = at_guest m.ends.items c.args.guest c.index_mut-end.result.now c.look_ahead.new.end c.index_mut-end.ensures.value c.requires;
      does = (found.0, c.is_full-is_full.ensures.room room, found.2, found.3, found.4, (refl, refl));
    }

pub returns-in-Idle-clause-same : goal.returns-in-Idle-clause-same
returns-in-Idle-clause-same g c =
    let m = c.args.self.now in let found = c.in-Idle.ensures in
    record {
      names = map_put end_name m.ends.items c.args.guest c.index_mut-end.result.now c.look_ahead.new.end c.index_mut-end.ensures.value (name_of c.look_ahead.new.end c.index_mut-end.result.now found.4.0);
      guests = length-set m.ends.items c.args.guest c.look_ahead.new.end;
      machine = refl;
      limit = refl;
    }

pub serve_one-requires-clause-unanswered : goal.serve_one-requires-clause-unanswered
serve_one-requires-clause-unanswered g c κs within =
    let m = c.args.self.now in let e = c.index_mut-end.result.now in let r = c.in-Next.request in let took = c.in-Next.ensures.2 in
    let hash = g.H.HashFunction.hash_of in let machine = opening (state_of m.core) in
    let here = keeps_here hash machine m.ends.items m.journal.items c.args.guest e m.kept c.requires c.index_mut-end.ensures.value in
    next_unanswered hash machine m.journal.items c.args.guest r _ _ (took.taken ∙ ap (λ xs. xs ++ r ∷ []) here.0) (took.given ∙ here.1)

pub invariant_of-self-in-Next : goal.invariant_of-self-in-Next
invariant_of-self-in-Next g c =
    let m = c.args.self.now in let e = c.index_mut-end.result.now in let r = c.in-Next.request in let took = c.in-Next.ensures.2 in let gave = c.serve_one.ensures.end in
    let hash = g.H.HashFunction.hash_of in let machine = opening (state_of m.core) in
    let here = keeps_here hash machine m.ends.items m.journal.items c.args.guest e m.kept c.requires c.index_mut-end.ensures.value in
    let now = c.serve_one.new.end in
    let taken : end_taken now ≡ asked c.args.guest m.journal.items ++ r ∷ [] = gave.taken ∙ (took.taken ∙ ap (λ xs. xs ++ r ∷ []) here.0) in
    let given : end_given now ≡ answers hash machine c.args.guest m.journal.items ++ (step hash (state_after hash machine m.journal.items) c.args.guest r).verdict ∷ [] =
    gave.given ∙ (ap (λ xs. xs ++ (step hash (state_of m.core) c.args.guest r).verdict ∷ []) (took.given ∙ here.1) ∙ ap (λ (s : State). answers hash machine c.args.guest m.journal.items ++ (step hash s c.args.guest r).verdict ∷ []) m.replayed) in
    let same : opening (state_of c.serve_one.new.core) ≡ machine = ap opening c.serve_one.ensures.memory ∙ opening_after hash (state_of m.core) c.args.guest r in
    let after : state_of c.serve_one.new.core ≡ state_after hash machine (m.journal.items ++ record { guest = c.args.guest; request = r } ∷ []) =
    c.serve_one.ensures.memory ∙ (ap (λ (s : State). (step hash s c.args.guest r).state) m.replayed ∙ sym (state_after_push hash machine m.journal.items c.args.guest r)) in
    let size : length (set m.ends.items c.args.guest now) ≡ length m.ends.items = length-set m.ends.items c.args.guest now in
    let grew : length c.serve_one.new.journal.items ≡ length m.journal.items + 1 = ap length c.serve_one.ensures.journal ∙ length_push m.journal.items (record { guest = c.args.guest; request = r }) in
    let room : c.is_full-is_full.result ≡ false = c.in-Next.ensures.1 in record {
      kept = rw (c.serve_one.ensures.journal, same) (keeps_done hash machine m.ends.items m.journal.items c.args.guest r now m.kept c.requires taken given);
      replayed = rw (c.serve_one.ensures.journal, same) after;
      members = rw (c.serve_one.ensures.journal, size) (All-push (λ (x : Entry). x.guest < length m.ends.items) m.journal.items (record { guest = c.args.guest; request = r }) m.members c.requires);
      guests = c.serve_one.ensures.guests ∙ (m.guests ∙ sym size);
      few = omega (arith, size, m.few);
      counted = omega (arith, c.serve_one.ensures.entries, m.counted, grew);
      within = omega (arith, grew, c.is_full-is_full.ensures.room room);
      room = (omega (arith, c.serve_one.ensures.capacity, m.room.0), m.room.1);
    }

pub returns-in-Next-clause-same : goal.returns-in-Next-clause-same
returns-in-Next-clause-same g c =
    let m = c.args.self.now in let took = c.in-Next.ensures.2 in let gave = c.serve_one.ensures.end in
    record {
      names = map_put end_name m.ends.items c.args.guest c.index_mut-end.result.now c.serve_one.new.end c.index_mut-end.ensures.value (gave.name ∙ took.name);
      guests = length-set m.ends.items c.args.guest c.serve_one.new.end;
      machine = ap opening c.serve_one.ensures.memory ∙ opening_after g.H.HashFunction.hash_of (state_of m.core) c.args.guest c.in-Next.request;
      limit = refl;
    }

pub returns-in-Next-clause-step : goal.returns-in-Next-clause-step
returns-in-Next-clause-step g c =
    let m = c.args.self.now in let e = c.index_mut-end.result.now in let r = c.in-Next.request in
    let found = c.in-Next.ensures in let took = found.2 in let gave = c.serve_one.ensures.end in
    let room : c.is_full-is_full.result ≡ false = found.1 in
    record {
      end = at_guest m.ends.items c.args.guest e c.serve_one.new.end c.index_mut-end.ensures.value c.requires;
      does = (
        found.0,
        c.is_full-is_full.ensures.room room,
        record {
          request = r;
          name = gave.name ∙ took.name;
          capacity = gave.capacity ∙ took.capacity;
          taken = gave.taken ∙ took.taken;
          given = gave.given ∙ ap (λ xs. xs ++ (step g.H.HashFunction.hash_of (state_of m.core) c.args.guest r).verdict ∷ []) took.given;
          known = rw gave.known took.known;
          free = omega (arith, gave.free, took.free);
          journal = c.serve_one.ensures.journal;
          memory = c.serve_one.ensures.memory;
        },
      );
    }
