use Rattle.std.proofs.Common.{◌≡◌, ◌+◌, ◌≤◌, ◌∷◌, ◌++◌, false, [], length, refl, subst, sym, ap, ◌∙◌, arith, append_assoc}
use Rattle.std.proofs.lemmas.Grind.{common_steps}
use Rattle.std.proofs.lemmas.List.{append-nil}
use Rattle.std.proofs.lemmas.List.Sums.{sum_by-cons}
use Rattle.std.specs.Prelude.{All}
use Rattle.std.specs.Vec.Iter.{into_iter_items}
use Rattle.page_model.specs.declared.limits.TheConstants.{MAX_ENTRIES}
use Rattle.share_rings.specs.Closing.{has_close}
use Rattle.share_rings.specs.Ends.{port_name, port_capacity}
use Rattle.merge_machine.specs.Kept.{port_names, port_capacities}
use Rattle.merge_machine.specs.Scripts.{entries_needed}
use Rattle.merge_run.specs.Tasks.{IsUnused, IsReady, task_names, task_capacities, all_sent}
use Rattle.merge_run.specs.declared.task.Task.{Task}
use Rattle.merge_run.proofs.Doing.{nothing_in, first_of, rest_of, all_more, ports_more, requests_more}
use Rattle.merge_run.proofs.task_list.new_tasks.Goals as goal

pub loop-script-init : goal.loop-script-init
loop-script-init g c =
    let made = c.in_ok-tasks.ensures in
    let ports = c.into_iter-ports.ensures in
    let scripts = c.into_iter-script-iterator.ensures.into_iter_gives in
    record {
      ready = rw made.items (λ k d low. absurd (omega (arith, low)));
      names = rw (made.items, ports.rest) refl;
      capacities = rw (made.items, ports.rest) refl;
      requests = rw made.items refl;
      len = made.len;
      room = omega (arith, made.capacity, c.len.ensures, c.args.scripts.ok.0);
      ports_len = rw ports.rest (ports.len ∙ c.args.ports.ok.0);
      each = rw (ports.rest, scripts.0) c.requires.each;
      unused = rw ports.rest c.requires.fresh;
      plain = rw scripts.0 c.requires.plain;
      few = rw scripts.0 c.requires.few.1;
      whole = scripts.0;
    }

pub loop-script-preserved : goal.loop-script-preserved
loop-script-preserved g c =
    let before = c.loop-script.invariant in
    let script = c.in-Some.script in
    let port = c.in-Some-next.port in
    let verdicts = c.in_ok-verdicts.verdicts in
    let scripts = into_iter_items c.next.new.self in
    let ports = into_iter_items c.next-in-loop-script.new.self in
    let split : into_iter_items c.loop-script.script-iterator ≡ script ∷ scripts = c.in-Some.ensures.steps.0 in
    let split_ports : into_iter_items c.loop-script.ports ≡ port ∷ ports = c.in-Some-next.ensures.items in
    let plain = subst (All (λ s. has_close s.items ≡ false)) split before.plain in
    let unused = subst (All IsUnused) split_ports before.unused in
    let capacities = subst (λ ps. task_capacities c.loop-script.tasks.items ++ port_capacities ps ≡ port_capacities c.args.ports.items) split_ports before.capacities in
    let names = subst (λ ps. task_names c.loop-script.tasks.items ++ port_names ps ≡ port_names c.args.ports.items) split_ports before.names in
    let few : length script.items + 1 + entries_needed scripts ≤ MAX_ENTRIES = omega (arith, before.few, ap entries_needed split, sum_by-cons (λ s. length s.items + 1) script scripts) in
    let task : Task _ = record { guest = c.len-in-loop-script-2.result; port = port; script = script; verdicts = verdicts } in
    let push = c.push_reserved.ensures in
    let ready : IsReady task = record {
      unused = first_of IsUnused port ports unused;
      plain = first_of (λ s. has_close s.items ≡ false) script scripts plain;
      few = omega (arith, few);
      empty = c.in_ok-verdicts.ensures.items;
      room = omega (arith, c.in_ok-verdicts.ensures.capacity, c.len-in-loop-script.ensures, script.ok.0);
    } in
    record {
      ready = rw push.items (all_more IsReady c.loop-script.tasks.items task before.ready ready);
      names = rw push.items (ports_more port_name c.loop-script.tasks.items task port ports (port_names c.args.ports.items) names refl);
      capacities = rw push.items (ports_more port_capacity c.loop-script.tasks.items task port ports (port_capacities c.args.ports.items) capacities refl);
      requests = rw push.items (requests_more c.loop-script.tasks.items task c.loop-script.yielded before.requests);
      len = grind (arith, common_steps);
      room = grind (arith, common_steps);
      ports_len = omega (arith, before.ports_len, ap length split_ports, c.in-Some-next.ensures.len);
      each = omega (arith, before.each, ap length split, ap length split_ports);
      unused = rest_of IsUnused port ports unused;
      plain = rest_of (λ s. has_close s.items ≡ false) script scripts plain;
      few = omega (arith, few);
      whole = grind (arith, common_steps, split, append_assoc);
    }

pub returns-clause-names : goal.returns-clause-names
returns-clause-names g c =
    let before = c.loop-script.invariant in
    let none : into_iter_items c.loop-script.script-iterator ≡ [] = nothing_in _ (omega (arith, c.in-None.ensures.steps, c.loop-script.script-iterator.rest.ok.0)) in
    let no_ports : into_iter_items c.loop-script.ports ≡ [] = nothing_in _ (before.each ∙ ap length none) in
    sym (append-nil (task_names c.loop-script.tasks.items)) ∙ ap (λ ps. task_names c.loop-script.tasks.items ++ port_names ps) (sym no_ports) ∙ before.names

pub returns-clause-capacities : goal.returns-clause-capacities
returns-clause-capacities g c =
    let before = c.loop-script.invariant in
    let none : into_iter_items c.loop-script.script-iterator ≡ [] = nothing_in _ (omega (arith, c.in-None.ensures.steps, c.loop-script.script-iterator.rest.ok.0)) in
    let no_ports : into_iter_items c.loop-script.ports ≡ [] = nothing_in _ (before.each ∙ ap length none) in
    sym (append-nil (task_capacities c.loop-script.tasks.items)) ∙ ap (λ ps. task_capacities c.loop-script.tasks.items ++ port_capacities ps) (sym no_ports) ∙ before.capacities

pub returns-clause-scripts : goal.returns-clause-scripts
returns-clause-scripts g c =
    let before = c.loop-script.invariant in
    let none : into_iter_items c.loop-script.script-iterator ≡ [] = nothing_in _ (omega (arith, c.in-None.ensures.steps, c.loop-script.script-iterator.rest.ok.0)) in
    let all : c.loop-script.yielded ≡ c.args.scripts.items = sym (append-nil c.loop-script.yielded) ∙ ap (λ rest. c.loop-script.yielded ++ rest) (sym none) ∙ before.whole in
    before.requests ∙ ap all_sent all
