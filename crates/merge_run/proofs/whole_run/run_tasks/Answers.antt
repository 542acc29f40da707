use Rattle.std.proofs.Common.{◌≡◌, length, sym, ◌∙◌, arith}
use Rattle.share_rings.specs.Ends.{port_name, end_name}
use Rattle.merge_run.specs.Tasks.{ports_of}
use Rattle.merge_machine.specs.View.{ends_of}
use Rattle.merge_settle.specs.View.{settled_ports}
use Rattle.merge_run.specs.declared.task.Task.{Task}
use Rattle.merge_machine.proofs.Lists.{maps_length}
use Rattle.merge_run.proofs.Finishing.{whole_done, none_running, none_undrained, same_capacities, same_sent, same_got}
use Rattle.merge_run.proofs.whole_run.run_tasks.Goals as goal

pub run_threads-merger-requires-clause-ready : goal.run_threads-merger-requires-clause-ready
run_threads-merger-requires-clause-ready g c κs within =
    let tasks = c.args.tasks in
    record {
      ready = c.requires.ready;
      few = omega (arith, maps_length (λ (t : Task _). port_name t.port) end_name tasks.items (ends_of c.args.merger) c.requires.pairs);
      no_handles = c.in_ok-lists.ensures.handles.0;
      handles_room = omega (arith, c.in_ok-lists.ensures.handles.1, c.len-guests.ensures, tasks.ok.0);
      none_done = c.in_ok-lists.ensures.done.0;
      done_room = omega (arith, c.in_ok-lists.ensures.done.1, c.len-guests.ensures, tasks.ok.0);
    }

pub finish-requires-clause-pairs : goal.finish-requires-clause-pairs
finish-requires-clause-pairs g c κs within =
    let run = c.run_threads-merger.ensures.run in
    let done = c.run_threads-merger.result.1 in
    let tasks = c.args.tasks in
    let whole : length done.items ≡ length tasks.items = omega (arith, run.most, c.if-len-guests.false, c.len.ensures, c.len-guests.ensures, done.ok.0, tasks.ok.0) in
    (whole_done tasks.items done.items run.tasks_done whole).ends ∙ c.requires.pairs ∙ sym run.same.names

pub finish-requires-clause-ended : goal.finish-requires-clause-ended
finish-requires-clause-ended g c κs within =
    let run = c.run_threads-merger.ensures.run in
    let done = c.run_threads-merger.result.1 in
    let tasks = c.args.tasks in
    let merger = c.run_threads-merger.result.0 in
    let whole : length done.items ≡ length tasks.items = omega (arith, run.most, c.if-len-guests.false, c.len.ensures, c.len-guests.ensures, done.ok.0, tasks.ok.0) in
    let pairs = maps_length (λ (t : Task _). port_name t.port) end_name tasks.items (ends_of merger) (c.requires.pairs ∙ sym run.same.names) in
    none_running (length done.items) (ends_of merger) (whole ∙ pairs) run.ended

pub finish-requires-clause-drained : goal.finish-requires-clause-drained
finish-requires-clause-drained g c κs within =
    none_undrained (ports_of c.run_threads-merger.result.1.items) c.run_threads-merger.ensures.run.tasks_done.drained

pub returns-clause-capacities : goal.returns-clause-capacities
returns-clause-capacities g c =
    let run = c.run_threads-merger.ensures.run in
    let done = c.run_threads-merger.result.1 in
    let tasks = c.args.tasks in
    let whole : length done.items ≡ length tasks.items = omega (arith, run.most, c.if-len-guests.false, c.len.ensures, c.len-guests.ensures, done.ok.0, tasks.ok.0) in
    same_capacities (settled_ports c.finish.result.settled) (ports_of done.items) c.finish.ensures.ports ∙ (whole_done tasks.items done.items run.tasks_done whole).capacities

pub returns-clause-sent : goal.returns-clause-sent
returns-clause-sent g c =
    let run = c.run_threads-merger.ensures.run in
    let done = c.run_threads-merger.result.1 in
    let tasks = c.args.tasks in
    let whole : length done.items ≡ length tasks.items = omega (arith, run.most, c.if-len-guests.false, c.len.ensures, c.len-guests.ensures, done.ok.0, tasks.ok.0) in
    same_sent (settled_ports c.finish.result.settled) (ports_of done.items) c.finish.ensures.ports ∙ (whole_done tasks.items done.items run.tasks_done whole).scripts

pub returns-clause-got : goal.returns-clause-got
returns-clause-got g c =
    let done = c.run_threads-merger.result.1 in
    rw c.finish.ensures.verdicts
    (c.run_threads-merger.ensures.run.tasks_done.verdicts ∙ sym (same_got (settled_ports c.finish.result.settled) (ports_of done.items) c.finish.ensures.ports))
