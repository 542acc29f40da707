use Rattle.std.proofs.Common.{◌+◌, List, refl, sym, subst, ◌∙◌, arith}
use Rattle.host_messages.specs.declared.item.Lent.{Lent}
use Rattle.host_sessions.proofs.Loops.{SoFar, under, lent_more, all_lent}
use Rattle.host_sessions.proofs.Stay.{same_held, same_bytes, held_then, bytes_then, one_holds}
use Rattle.host_sessions.proofs.lend.lend_each.Goals as goal

pub loop-page-init : goal.loop-page-init
loop-page-init g c = record {
  lends = λ rest new l. rw c.new-loans.ensures l;
  held = same_held _ _ refl;
  bytes = same_bytes _ _ refl;
  salt = refl;
  len = rw c.new-loans.ensures refl;
}

pub loop-page-preserved : goal.loop-page-preserved
loop-page-preserved g c =
    let l = c.loop-page in
    let one = c.lend_one in
    let salt = c.args.domain.now.salt in
    let start = c.args.domain.now.domain in
    let lends = under l.domain.salt salt c.args.client c.args.quota _ one.result l.domain.domain one.new.domain.domain l.invariant.salt one.ensures.lends in
    let held = one_holds salt c.args.client c.args.quota _ one.result l.domain.domain one.new.domain.domain lends in
    record {
      lends = subst (λ (front : List Lent). SoFar salt c.args.client c.args.quota c.args.pages.now start (l.page-index + 1) front one.new.domain.domain) (sym c.push.ensures.items)
          (lent_more salt c.args.client c.args.quota c.args.pages.now start l.page-index l.loans.items l.domain.domain one.new.domain.domain _ _ one.result c.loop-page-test.true refl lends l.invariant.lends);
      held = held_then start l.domain.domain one.new.domain.domain l.invariant.held held;
      bytes = bytes_then start l.domain.domain one.new.domain.domain l.invariant.held l.invariant.bytes one.ensures.bytes;
      salt = one.ensures.salt ∙ l.invariant.salt;
      len = omega (arith, c.push.ensures.len, l.invariant.len);
    }

pub returns-clause-lends : goal.returns-clause-lends
returns-clause-lends g c =
    let l = c.loop-page in
    all_lent c.args.domain.now.salt c.args.client c.args.quota c.args.pages.now c.args.domain.now.domain l.page-index l.loans.items l.domain.domain c.loop-page-test.false l.invariant.lends
