use Rattle.std.proofs.Common.{◌≡◌, ◌<◌, List, length, get_or, ap, ◌∙◌, arith}
use Rattle.lent_slots.specs.Slots.{MachineView}
use Rattle.lent_slots.specs.Totals.{held_slots, shared_slots, frames_in_use}
use Rattle.share_domain.proofs.Sums.{sum_next, sum_all, totals_are}
use Rattle.share_domain.proofs.report.report.Goals as goal

pub loop-machine-preserved : goal.loop-machine-preserved
loop-machine-preserved g c =
    let l = c.loop-machine in
    let so_far = l.invariant in
    let machines = c.args.machines.now.items in
    let less : l.machine-index < length machines = omega (arith, c.loop-machine-test.true, c.args.machines.now.ok.0) in
    let is : c.machine-item.result ≡ get_or machines l.machine-index c.machine-item.result =
    c.machine-item.is ∙ ap (λ (xs : List MachineView). get_or xs l.machine-index c.machine-item.result) c.deref-machine-items.ensures.value in
    record {
      slots = sum_next held_slots machines l.machine-index l.slots c.held-slots.result c.machine-item.result less is so_far.slots c.held-slots.ensures.count;
      frames = sum_next frames_in_use machines l.machine-index l.frames c.frames_in_use-frames.result c.machine-item.result less is so_far.frames c.frames_in_use-frames.ensures.count;
      shared = sum_next shared_slots machines l.machine-index l.shared c.shared-shared.result c.machine-item.result less is so_far.shared c.shared-shared.ensures.count;
      few_slots = omega (arith, so_far.few_slots, c.held-slots.ensures.few);
      few_frames = omega (arith, so_far.few_frames, c.frames_in_use-frames.ensures.few);
      few_shared = omega (arith, so_far.few_shared, c.shared-shared.ensures.few);
    }

pub returns : goal.returns
returns g c =
    let l = c.loop-machine in
    let machines = c.args.machines.now.items in
    let end : l.machine-index ≡ length machines = omega (arith, c.loop-machine-test.false, l.auto.machine-index-end, c.args.machines.now.ok.0) in
    totals_are machines c.args.clients.now c.len.result c.count_present.result l.slots l.frames l.shared c.saturating_sub.result
    (omega (arith, c.len.ensures, c.args.machines.now.ok.0)) c.count_present.ensures
    (sum_all held_slots machines l.machine-index l.slots end l.invariant.slots)
    (sum_all frames_in_use machines l.machine-index l.frames end l.invariant.frames)
    (sum_all shared_slots machines l.machine-index l.shared end l.invariant.shared) c.saturating_sub.ensures
