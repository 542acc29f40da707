use Rattle.std.proofs.Common.{◌≡◌, ◌+◌, ◌<◌, length, Some, ap, sym, subst, ◌∙◌, arith}
use Rattle.std.specs.Prelude.{IfSome, slice_set}
use Rattle.share_domain.specs.Domains.{DomainView}
use Rattle.share_domain.specs.Leaving.{first_slot}
use Rattle.share_domain.specs.Numbers.{frame_number}
use Rattle.share_domain.proofs.Leaves.{Released, released_more, released_all, room_used}
use Rattle.share_domain.proofs.Next.{next_is_first}
use Rattle.share_domain.proofs.domain.Domain.release_from.Goals as goal

pub loop-i-preserved : goal.loop-i-preserved
loop-i-preserved g c =
    let l = c.loop-i in
    let first : first_slot c.args.client l.self.machines ≡ Some c.in-Some.slot = sym l.invariant.found ∙ c.in-Some.is in
    let released = released_more c.args.client c.args.freed.now c.args.self.now l.i l.freed l.self c.give_up.new.self c.in-Some.slot c.frame_number.result (omega (arith, c.loop-i-test.true, l.invariant.so_far.size)) l.invariant.so_far
    first (c.frame_number.ensures ∙ ap frame_number c.give_up.ensures.freed) c.give_up.ensures.now in
    let same = c.first_slot-found.ensures.same in
    record {
      so_far = subst (λ (d : DomainView). Released c.args.client c.args.freed.now c.args.self.now (l.i + 1) (slice_set l.freed l.i c.frame_number.result) d) (sym same) released;
      found = next_is_first c.args.client l.self c.give_up.new.self c.first_slot-found.new.self c.in-Some.slot c.first_slot-found.result first c.give_up.ensures.now same c.first_slot-found.ensures.slot;
      within = subst (λ (d : DomainView). IfSome c.first_slot-found.result (λ slot. slot.machine < length d.machines)) (sym same) c.first_slot-found.ensures.within;
    }

pub returns-in-None-clause-count : goal.returns-in-None-clause-count
returns-in-None-clause-count g c =
    let l = c.loop-i in
    let all = released_all c.args.client c.args.freed.now c.args.self.now l.i l.freed l.self (omega (arith, c.loop-i-test.true, l.invariant.so_far.size)) l.invariant.so_far (sym l.invariant.found ∙ c.in-None.is) in
    all.count

pub returns-in-None-clause-written : goal.returns-in-None-clause-written
returns-in-None-clause-written g c =
    let l = c.loop-i in
    let all = released_all c.args.client c.args.freed.now c.args.self.now l.i l.freed l.self (omega (arith, c.loop-i-test.true, l.invariant.so_far.size)) l.invariant.so_far (sym l.invariant.found ∙ c.in-None.is) in
    all.written

pub returns-in-None-clause-now : goal.returns-in-None-clause-now
returns-in-None-clause-now g c =
    let l = c.loop-i in
    let all = released_all c.args.client c.args.freed.now c.args.self.now l.i l.freed l.self (omega (arith, c.loop-i-test.true, l.invariant.so_far.size)) l.invariant.so_far (sym l.invariant.found ∙ c.in-None.is) in
    all.after

pub returns-clause-count : goal.returns-clause-count
returns-clause-count g c =
    let l = c.loop-i in
    let all = room_used c.args.client c.args.freed.now c.args.self.now l.i l.freed l.self (omega (arith, c.loop-i-test.false, l.auto.i-end, l.invariant.so_far.size)) l.invariant.so_far in
    all.count

pub returns-clause-written : goal.returns-clause-written
returns-clause-written g c =
    let l = c.loop-i in
    let all = room_used c.args.client c.args.freed.now c.args.self.now l.i l.freed l.self (omega (arith, c.loop-i-test.false, l.auto.i-end, l.invariant.so_far.size)) l.invariant.so_far in
    all.written

pub returns-clause-now : goal.returns-clause-now
returns-clause-now g c =
    let l = c.loop-i in
    let all = room_used c.args.client c.args.freed.now c.args.self.now l.i l.freed l.self (omega (arith, c.loop-i-test.false, l.auto.i-end, l.invariant.so_far.size)) l.invariant.so_far in
    all.after
