use Rattle.std.proofs.Common.{rules, ◌≡◌, [], All, sym, subst}
use Rattle.merge_core.specs.Shown.{state_of}
use Rattle.merge_machine.specs.Fresh.{IsFreshEnd, IsFreshPort}
use Rattle.merge_machine.specs.Machines.{opening}
use Rattle.merge_machine.proofs.Fresh.{keeps_nothing, replay_of_nothing, opens_empty, is_opening}
use Rattle.merge_machine.proofs.machine.open_checked_machine.Goals as goal

pub invariant_of-merger : goal.invariant_of-merger
invariant_of-merger g c =
    let core = c.in_ok-core.core in let shape = c.shape-shape.result.now in
    let same : opening (state_of core) ≡ state_of core = is_opening (state_of core) shape.frames shape.salts shape.pages c.in_ok-core.ensures.empty in
    let journal : c.in_ok-journal.journal.items ≡ [] = c.in_ok-journal.ensures.items in
    record {
      kept = rw journal (keeps_nothing g.H.HashFunction.hash_of (opening (state_of core)) _ c.in_ok-ends.ends.items c.in_ok-ends.ensures.ends);
      replayed = rw journal (replay_of_nothing g.H.HashFunction.hash_of (state_of core) same);
      members = search rules;
      guests = search rules;
      few = search rules;
      counted = search rules;
      within = search rules;
      room = search rules;
    }

pub returns : goal.returns
returns g c =
    let core = c.in_ok-core.core in let shape = c.shape-shape.result.now in let numbers = c.args.config.now in let same = c.shape-shape.ensures in
    let machine = opens_empty (state_of core) shape numbers c.in_ok-core.ensures.empty same.0 same.2 same.1 in
    let memory = sym (is_opening (state_of core) shape.frames shape.salts shape.pages c.in_ok-core.ensures.empty) in
    record {
      pairs = search rules;
      guests = search rules;
      each = search rules;
      unused_ports = subst (λ ring. All (IsFreshPort ring) c.in_ok-ends.ports.items) c.ring.ensures.ring c.in_ok-ends.ensures.ports;
      unused_ends = subst (λ ring. All (IsFreshEnd ring) c.in_ok-ends.ends.items) c.ring.ensures.ring c.in_ok-ends.ensures.ends;
      journal = search rules;
      limit = search rules;
      machine = machine;
      memory = memory;
    }
