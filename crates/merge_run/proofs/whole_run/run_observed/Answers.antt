use Rattle.std.proofs.Common.{◌≡◌, ◌≤◌, ◌∙◌, All, map, refl, ap, subst, arith}
use Rattle.std.specs.Prelude.{IfOk}
use Rattle.share_rings.specs.Ends.{closed_sent, closed_capacity}
use Rattle.merge_machine.specs.Scripts.{entries_needed}
use Rattle.merge_core.specs.Shown.{state_of}
use Rattle.page_model.specs.Limits.{shapes}
use Rattle.page_model.specs.Replay.{empty_state}
use Rattle.merge_machine.specs.Fresh.{IsFreshPort}
use Rattle.merge_machine.specs.Limits.{Numbers}
use Rattle.merge_machine.specs.Machines.{opening}
use Rattle.merge_settle.specs.View.{settled_ports, settled_core}
use Rattle.merge_machine.specs.View.{journal_of, machine_of}
use Rattle.merge_run.proofs.Finishing.{wanting_memory, whole_run}
use Rattle.merge_run.proofs.Observing.{fronts_fresh}
use Rattle.merge_run.proofs.whole_run.run_observed.Goals as goal

pub new_tasks-requires-clause-fresh : goal.new_tasks-requires-clause-fresh
new_tasks-requires-clause-fresh g c = λ k d low. let fresh = c.in_ok-merger.ensures.unused_ports k d low in record { sent = fresh.sent; got = fresh.got }

pub returns-in_err-tasks-clause-run : goal.returns-in_err-tasks-clause-run
returns-in_err-tasks-clause-run g c =
    let scripts = c.args.scripts.items in
    let room : entries_needed scripts ≤ c.args.config.now.journal = omega (arith, c.if-not-has_room.ensures.0 refl, ap entries_needed c.deref.ensures.value) in
    wanting_memory _ c.args.config.now scripts c.from_residual-in_err-tasks.result c.in_ok-checked.ensures.fault room c.from_residual-in_err-tasks.ensures.1

pub run_tasks-requires-clause-fronts : goal.run_tasks-requires-clause-fronts
run_tasks-requires-clause-fronts g c κs within =
    let merger = c.in_ok-merger.merger in
    fronts_fresh g.H.HashFunction.hash_of (machine_of merger) (journal_of merger) (g.O.Observer.kept c.args.observer) c.requires.fresh

pub returns-clause-run : goal.returns-clause-run
returns-clause-run g c =
    let scripts = c.args.scripts.items in
    let config = c.args.config.now in
    let tasks = c.in_ok-tasks.ensures in
    let ran = c.run_tasks.ensures in
    let fresh = subst (λ (n : Numbers). All (IsFreshPort n.ring) c.in_ok-merger.ports.items) c.in_ok-checked.ensures.checked c.in_ok-merger.ensures.unused_ports in
    let room : entries_needed scripts ≤ config.journal = omega (arith, c.if-not-has_room.ensures.0 refl, ap entries_needed c.deref.ensures.value) in
    let made = c.in_ok-merger.ensures.machine ∙ ap (λ (n : Numbers). empty_state n.frames (shapes n.salts n.pages)) c.in_ok-checked.ensures.checked in
    whole_run g.H.HashFunction.hash_of config scripts c.in_ok-merger.ports.items c.run_tasks.result c.in_ok-checked.ensures.fault room (c.requires.scripts.each c.in_ok-checked.ensures.fault) fresh
    ran.settles
    (subst (λ s. IfOk c.run_tasks.result (λ r. opening (state_of (settled_core r.0.settled)) ≡ s)) made ran.machine)
    (subst (λ ns. IfOk c.run_tasks.result (λ r. map closed_capacity (settled_ports r.0.settled) ≡ ns)) tasks.capacities ran.capacities)
    (subst (λ rs. IfOk c.run_tasks.result (λ r. map closed_sent (settled_ports r.0.settled) ≡ rs)) tasks.scripts ran.sent)
    ran.got
    ran.fault
