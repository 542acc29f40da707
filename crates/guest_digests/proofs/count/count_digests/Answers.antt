use Rattle.std.proofs.Common.{◌≡◌, ◌+◌, ◌-◌, ◌<◌, ℕ, refl, arith, drop, get_or, length, length-drop, take, ◌∙◌, sym, replicate, ap}
use Rattle.std.proofs.lemmas.List.{get_or-drop, take_all}
use Rattle.guest_digests.proofs.Tallied.{below_more, line_more}
use Rattle.guest_digests.proofs.count.count_digests.Goals as goal

pub loop-done-preserved : goal.loop-done-preserved
loop-done-preserved g c =
    let so_far = c.loop-done.invariant in
    let digests = c.args.digests.now in
    let done = c.loop-done.done in
    let lines = c.loop-done.lines.items in
    let copies = c.count_front-copies.result in
    let d = get_or digests done 0 in
    let same : d ≡ get_or digests done 0 = refl in
    let rest : take (length digests - done) (drop done digests) ≡ drop done digests = take_all (length digests - done) (drop done digests) (omega (arith, length-drop done digests)) in
    let front = rw rest at c.count_front-copies.ensures in
    let zero : done + 0 ≡ done = omega arith in
    let first : get_or (drop done digests) 0 0 ≡ d = get_or-drop done digests 0 0 ∙ ap (λ (n : ℕ). get_or digests n 0) zero in
    let next : take copies (drop done digests) ≡ replicate copies d = front.same ∙ ap (λ (x : ℕ). replicate copies x) first in
    let left = length-drop done digests in
    let at_next = get_or-drop done digests copies 0 in
    let other : done + copies < length digests → ¬ (get_or digests (done + copies) 0 ≡ d) = λ more e. front.other (omega (arith, left, more)) (at_next ∙ e ∙ sym first) in
    record {
      within = omega (arith, left, front.within, so_far.within);
      counted = line_more digests done copies d lines _ so_far.counted (so_far.below c.loop-done-test.true) front.some next c.in_ok-push.ensures.items;
      below = λ more. below_more digests done copies d lines _ c.requires (so_far.below c.loop-done-test.true) same more (other more) c.in_ok-push.ensures.items;
    }
