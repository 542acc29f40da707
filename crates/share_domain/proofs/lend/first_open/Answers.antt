use Rattle.std.proofs.Common.{◌∙◌, ◌<◌, sym, ap, length, arith}
use Rattle.std.proofs.lemmas.List.{get_or_read}
use Rattle.share_domain.specs.Open.{is_open}
use Rattle.share_domain.specs.Domains.{no_machine}
use Rattle.share_domain.proofs.Open.{first_is, none_is, one_more}
use Rattle.share_domain.proofs.lend.first_open.Goals as goal

pub returns-then-is_open-clause-machine : goal.returns-then-is_open-clause-machine
returns-then-is_open-clause-machine g c =
    let machines = c.args.machines.now.items in
    let m = c.loop-m.m in
    let within : m < length machines = omega (arith, c.loop-m-test.true, c.len-m-end.ensures, c.args.machines.now.ok.0) in
    let read = get_or_read machines m c.index.result.now within c.index.ensures no_machine in
    first_is machines m within c.loop-m.invariant (ap is_open (sym read) ∙ sym c.is_open.ensures ∙ c.if-is_open.true)

pub loop-m-preserved : goal.loop-m-preserved
loop-m-preserved g c =
    let machines = c.args.machines.now.items in
    let m = c.loop-m.m in
    let within : m < length machines = omega (arith, c.loop-m-test.true, c.len-m-end.ensures, c.args.machines.now.ok.0) in
    let read = get_or_read machines m c.index.result.now within c.index.ensures no_machine in
    one_more machines m c.loop-m.invariant (ap is_open (sym read) ∙ sym c.is_open.ensures ∙ c.if-is_open.false)

pub returns-clause-machine : goal.returns-clause-machine
returns-clause-machine g c =
    none_is c.args.machines.now.items c.loop-m.m (omega (arith, c.loop-m.auto.m-end, c.loop-m-test.false, c.len-m-end.ensures, c.args.machines.now.ok.0)) c.loop-m.invariant
