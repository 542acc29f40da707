use Rattle.std.proofs.Common.{◌≡◌, length, List, take, ap, sym, arith}
use Rattle.std.proofs.lemmas.Bool.{eq-eqb, ne_eqb}
use Rattle.fleet_hosts.specs.Hosts.{is_dot}
use Rattle.fleet_hosts.proofs.Firsts.{found_at, found_behind}
use Rattle.fleet_hosts.proofs.name.host_of.Goals as goal

pub returns-then-name-at-eq46 : goal.returns-then-name-at-eq46
returns-then-name-at-eq46 c =
    let name = c.args.name.now in
    ap (λ k. take k name) (sym (found_at is_dot name c.loop-at.at 0 c.loop-at.invariant (eq-eqb _ 46 c.if-name-at-eq46.true)))

pub loop-at-preserved : goal.loop-at-preserved
loop-at-preserved c = found_behind is_dot c.args.name.now c.loop-at.at 0 c.loop-at.invariant (omega arith) (ne_eqb _ 46 c.if-name-at-eq46.false)
