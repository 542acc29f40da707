use Rattle.std.proofs.Common.{◌≡◌, ◌+◌, ◌-◌, ◌*◌, ap, length, sym, arith}
use Rattle.sha256_lanes.proofs.Messages.{first_of, last_of, length_whole, middle_of}
use Rattle.sha256_lanes.proofs.padded.Padded.block.Goals as goal

pub returns-then-n-eq0-clause-value : goal.returns-then-n-eq0-clause-value
returns-then-n-eq0-clause-value c =
    let p = c.self.inside in
    rw (← c.self.view_is, c.if-n-eq0.true) (sym (first_of p.first p.middle.now p.last c.self.told.0 c.self.told.2))

pub returns-then-n-self-clause-value : goal.returns-then-n-self-clause-value
returns-then-n-self-clause-value c =
    let p = c.self.inside in
    let n = c.args.n in
    let width : 64 * n - 64 * (n - 1) ≡ 64 = omega (arith, c.if-n-eq0.false) in
    let at : n * 64 ≡ (n - 1 + 1) * 64 = omega (arith, c.if-n-eq0.false) in
    rw (width, ← c.self.view_is, at)
    (sym (middle_of p.first p.middle.now p.last c.self.told.0 c.self.told.2 (n - 1) (omega (arith, c.if-n-eq0.false, c.if-n-self.true))))

pub returns-else-n-self-clause-value : goal.returns-else-n-self-clause-value
returns-else-n-self-clause-value c =
    let p = c.self.inside in
    let n = c.args.n in
    let whole = length_whole p.first p.middle.now p.last c.self.told.0 c.self.told.2 in
    let seen = ap length c.self.view_is in
    let at : n * 64 ≡ length c.args.self.now - 64 = omega (arith, c.if-n-eq0.false, c.if-n-self.false, whole, seen, c.requires, c.self.invariant) in
    rw (at, ← c.self.view_is) (sym (last_of p.first p.middle.now p.last c.self.told.0 c.self.told.2))
