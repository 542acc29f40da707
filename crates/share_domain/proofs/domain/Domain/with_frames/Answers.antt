use Rattle.std.proofs.Common.{arith}
use Rattle.share_domain.proofs.Made.{sound_new}
use Rattle.share_domain.proofs.domain.Domain.with_frames.Goals as goal

pub invariant_of-result : goal.invariant_of-result
invariant_of-result g c =
    let limits = c.requires.limits in
    let config = c.args.config.now in
    rw (c.in_ok-machines.ensures, c.in_ok-clients.ensures) (
    sound_new config.machines config.slots config.frames config.clients (limits.machines.0, omega (arith, limits.machines.1)) (omega (arith, limits.slots.1)) (omega (arith, limits.frames.0), omega (arith, limits.frames.1)) (omega (arith, limits.clients.1))
    )
