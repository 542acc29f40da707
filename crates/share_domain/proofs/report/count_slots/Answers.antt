use Rattle.std.proofs.Common.{◌≡◌, ◌<◌, List, length, get_or, ap, ◌∙◌, arith}
use Rattle.lent_slots.specs.Slots.{MachineView, held_by}
use Rattle.share_domain.proofs.Sums.{sum_next, sum_all}
use Rattle.share_domain.proofs.report.count_slots.Goals as goal

pub loop-machine-preserved : goal.loop-machine-preserved
loop-machine-preserved g c =
    let l = c.loop-machine in
    let machines = c.args.machines.now.items in
    let less : l.machine-index < length machines = omega (arith, c.loop-machine-test.true, c.args.machines.now.ok.0) in
    let is : c.machine-item.result ≡ get_or machines l.machine-index c.machine-item.result =
    c.machine-item.is ∙ ap (λ (xs : List MachineView). get_or xs l.machine-index c.machine-item.result) c.deref-machine-items.ensures.value in
    record {
      slots = sum_next (λ m. held_by c.args.client m.slots) machines l.machine-index l.slots c.held_by-slots.result c.machine-item.result less is l.invariant.slots c.held_by-slots.ensures.count;
      few = omega (arith, l.invariant.few, c.held_by-slots.ensures.few);
    }

pub returns-clause-count : goal.returns-clause-count
returns-clause-count g c =
    let l = c.loop-machine in
    let machines = c.args.machines.now.items in
    let end : l.machine-index ≡ length machines = omega (arith, c.loop-machine-test.false, l.auto.machine-index-end, c.args.machines.now.ok.0) in
    sum_all (λ m. held_by c.args.client m.slots) machines l.machine-index l.slots end l.invariant.slots
