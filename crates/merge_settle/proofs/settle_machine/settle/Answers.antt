use Rattle.std.proofs.Common.{◌≡◌, ◌≤◌, None, length, ap, subst, ◌∙◌, sym, arith}
use Rattle.page_model.specs.Pages.{used}
use Rattle.merge_core.specs.Shown.{Shown, state_of}
use Rattle.share_rings.specs.Ends.{end_view, closed_view, end_name, closed_name}
use Rattle.merge_machine.specs.Machines.{opening}
use Rattle.merge_machine.specs.View.{ends_of, journal_of, core_of}
use Rattle.merge_machine.proofs.Ends.{keeps_views}
use Rattle.merge_machine.proofs.Lists.{maps_length}
use Rattle.merge_machine.proofs.Replays.{reads_last, reports_add_up}
use Rattle.merge_settle.specs.Frames.{frames_of, distinct_numbers}
use Rattle.merge_settle.specs.Settling.{first_fault}
use Rattle.merge_settle.proofs.Settles.{all_settled, still_paired, fault_found, no_fault}
use Rattle.merge_settle.proofs.settle_machine.settle.Goals as goal

pub find_fault-requires : goal.find_fault-requires
find_fault-requires g c =
    let m = c.args.merger in let met = c.meet_all.ensures in
    let ends = maps_length end_view end_view (ends_of c.meet_all.new.self) (ends_of m) met.ends in
    let ports = maps_length closed_view closed_view c.meet_all.new.ports.items c.args.ports.items met.ports in
    let pairs = maps_length closed_name end_name c.args.ports.items (ends_of m) c.requires.pairs in
    (omega (arith, ap length c.ends.ensures, ends, m.few), omega (arith, ap length c.deref.ensures.value, ports, pairs, m.few))

pub returns-in-Some-clause-fault : goal.returns-in-Some-clause-fault
returns-in-Some-clause-fault g c =
    let m = c.args.merger in let met = c.meet_all.ensures in
    sym (fault_found c.args.ports.items c.meet_all.new.ports.items c.deref.result.now (ends_of m) (ends_of c.meet_all.new.self) c.ends.result.now c.requires.pairs met.met met.ports met.ends c.ends.ensures c.deref.ensures.value)
    ∙ (sym c.find_fault.ensures ∙ c.in-Some.is)

pub returns-in-Some-clause-unsettled : goal.returns-in-Some-clause-unsettled
returns-in-Some-clause-unsettled g c =
    let m = c.args.merger in let met = c.meet_all.ensures in
    record {
      same_ports = met.ports;
      same_ends = met.ends;
      journal = met.journal;
      limit = met.limit;
      core = met.core;
      pairs = still_paired c.args.ports.items c.meet_all.new.ports.items (ends_of m) (ends_of c.meet_all.new.self) c.requires.pairs met.ports met.ends;
      guests = maps_length end_view end_view (ends_of c.meet_all.new.self) (ends_of m) met.ends;
      known = met.known;
      free = met.free;
    }

pub invariant_of-result : goal.invariant_of-result
invariant_of-result g c =
    let m = c.args.merger in let met = c.meet_all.ensures in
    record {
      whole =
          maps_length closed_view closed_view c.meet_all.new.ports.items c.args.ports.items met.ports
          ∙ (maps_length closed_name end_name c.args.ports.items (ends_of m) c.requires.pairs ∙ sym (maps_length end_view end_view (ends_of c.meet_all.new.self) (ends_of m) met.ends));
    }

pub returns-in-None-clause-fault : goal.returns-in-None-clause-fault
returns-in-None-clause-fault g c =
    let m = c.args.merger in let met = c.meet_all.ensures in
    sym (fault_found c.args.ports.items c.meet_all.new.ports.items c.deref.result.now (ends_of m) (ends_of c.meet_all.new.self) c.ends.result.now c.requires.pairs met.met met.ports met.ends c.ends.ensures c.deref.ensures.value)
    ∙ (sym c.find_fault.ensures ∙ c.in-None.is)

pub returns-in-None-clause-settled : goal.returns-in-None-clause-settled
returns-in-None-clause-settled g c =
    let m = c.args.merger in let met = c.meet_all.ensures in let hash = g.H.HashFunction.hash_of in
    let now = c.meet_all.new.self in let ports = c.meet_all.new.ports.items in
    let machine = opening (state_of (core_of now)) in
    let size : length ports ≡ length (ends_of now) =
    maps_length closed_view closed_view ports c.args.ports.items met.ports
    ∙ (maps_length closed_name end_name c.args.ports.items (ends_of m) c.requires.pairs ∙ sym (maps_length end_view end_view (ends_of now) (ends_of m) met.ends)) in
    let found : first_fault (ends_of m) c.args.ports.items ≡ None =
    sym (fault_found c.args.ports.items ports c.deref.result.now (ends_of m) (ends_of now) c.ends.result.now c.requires.pairs met.met met.ports met.ends c.ends.ensures c.deref.ensures.value)
    ∙ (sym c.find_fault.ensures ∙ c.in-None.is) in
    let none = no_fault _ _ found in
    let kept = keeps_views hash machine (journal_of now) (ends_of now) (ends_of m) (sym met.ends) now.kept in
    record {
      guests = all_settled hash machine (journal_of now) c.args.ports.items ports (ends_of m) c.requires.pairs kept met.met none.0 none.1 met.ports;
      members = rw size now.members;
      memory = now.replayed;
      stored = λ guest ppn at below. reads_last hash (state_of (core_of now)) (journal_of now) guest ppn at below now.replayed;
      adds_up = reports_add_up hash (state_of (core_of now)) (journal_of now) now.replayed;
      frames = subst (λ (x : Shown). used (state_of x).guests ≡ distinct_numbers (frames_of x.pmap)) c.core.ensures c.count_frames.ensures;
    }
