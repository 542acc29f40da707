use Rattle.std.proofs.Common.{◌≡◌}
use Rattle.merge_machine.specs.Kept.{end_names}
use Rattle.merge_machine.specs.View.{ends_of, limit_of, machine_of, guest_count}
use Rattle.merge_run.specs.Observed.{ObservesMerger}
use Rattle.merge_run.proofs.rounds.serve_all.Given as goal

abbrev pub invariant-loop : goal.invariant-loop
invariant-loop g l = record {
  names : end_names (ends_of l.merger) ≡ end_names (ends_of l.initial.merger);
  guests : guest_count l.merger ≡ guest_count l.initial.merger;
  limit : limit_of l.merger ≡ limit_of l.initial.merger;
  machine : machine_of l.merger ≡ machine_of l.initial.merger;
  observed : ObservesMerger g.O.Observer.name g.O.Observer.kept g.O.Observer.becomes g.H.HashFunction.hash_of l.fn.observer l.observer l.initial.merger l.merger;
}
