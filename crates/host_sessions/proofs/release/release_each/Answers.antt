use Rattle.std.proofs.Common.{refl, ◌∙◌, arith}
use Rattle.host_sessions.specs.Turns.{freed_by, after_releases}
use Rattle.host_sessions.proofs.Loops.{freed_more, released_more, all_freed, all_released}
use Rattle.host_sessions.proofs.release.release_each.Goals as goal

pub loop-number-preserved : goal.loop-number-preserved
loop-number-preserved g c =
    let l = c.loop-number in
    let one = c.release_one in
    let client = c.args.client in
    let ss = c.args.numbers.now in
    record {
      freed = rw c.push.ensures.items (freed_more client ss l.number-index _ _ l.freed.items one.result l.domain.domain one.new.domain.domain (freed_by client ss c.args.domain.now.domain) c.loop-number-test.true refl one.ensures.freed one.ensures.domain l.invariant.freed);
      domain = released_more client ss l.number-index _ _ l.domain.domain one.new.domain.domain (after_releases client ss c.args.domain.now.domain) c.loop-number-test.true refl one.ensures.domain l.invariant.domain;
      salt = one.ensures.salt ∙ l.invariant.salt;
      len = omega (arith, c.push.ensures.len, l.invariant.len);
    }

pub returns-clause-freed : goal.returns-clause-freed
returns-clause-freed g c =
    let l = c.loop-number in
    all_freed c.args.client c.args.numbers.now l.number-index l.freed.items l.domain.domain (freed_by c.args.client c.args.numbers.now c.args.domain.now.domain) c.loop-number-test.false l.invariant.freed

pub returns-clause-domain : goal.returns-clause-domain
returns-clause-domain g c =
    let l = c.loop-number in
    all_released c.args.client c.args.numbers.now l.number-index l.domain.domain (after_releases c.args.client c.args.numbers.now c.args.domain.now.domain) c.loop-number-test.false l.invariant.domain
