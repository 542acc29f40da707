use Rattle.std.proofs.Common.{◌≡◌, ◌<◌, ◌+◌, ℕ, length, get_or, set, refl, ap, sym, subst, ◌∙◌, arith, rules}
use Rattle.std.proofs.lemmas.List.{length-set, length-append}
use Rattle.merge_machine.specs.Taking.{AreExhausted}
use Rattle.merge_machine.proofs.Rounds.{took_none, took_on, visit_took, visits_grow, exhausted_more}
use Rattle.merge_machine.proofs.take_requests.take_turn.Goals as goal

pub loop-guest-init : goal.loop-guest-init
loop-guest-init g c = record {
  took = took_none c.args.ends.now.items c.args.journal.now.items c.args.owed.now;
  within = c.requires.within;
  exhausted = λ same i d below. absurd (omega (arith, below));
  owed = search rules;
  capacity = refl;
}

pub loop-guest-preserved : goal.loop-guest-preserved
loop-guest-preserved g c =
    let v = c.loop-guest.invariant in let ends = c.loop-guest.ends.items in let journal = c.loop-guest.journal.items in let owed = c.loop-guest.owed in let guest = c.loop-guest.guest in
    let e = c.index_mut.result.now in let e' = c.visit_guest.new.end in let journal' = c.visit_guest.new.journal.items in let count = c.visit_guest.result in let visits = c.visit_guest.ensures.visits in
    let size : c.len-guest-end.result ≡ length c.args.ends.now.items = c.len-guest-end.ensures ∙ c.args.ends.now.ok.0 in
    let l : guest < length ends = omega (arith, c.loop-guest-test.true, size, v.took.size) in
    let lo : guest < length owed = omega (arith, l, v.took.size, c.requires.few, v.owed) in
    let took = visit_took ends journal journal' owed guest count e e' l lo c.index_mut.ensures.value visits in
    let grew = visits_grow guest (get_or owed guest 0) count e e' journal journal' visits in
    let so_far = ap length v.took.grew ∙ length-append c.args.journal.now.items v.took.entries in
    record {
      took = took_on c.args.ends.now.items ends (set ends guest e') c.args.journal.now.items journal journal' c.args.owed.now owed (set owed guest (get_or owed guest 0 + count)) v.took took;
      within = omega (arith, grew, visits.one, c.if-len-full.false, c.len.ensures, c.loop-guest.journal.ok.0);
      exhausted = λ same.
          let none : count ≡ 0 = omega (arith, same, grew, so_far) in
          let before : AreExhausted guest owed ends = v.exhausted (omega (arith, same, grew, so_far)) in
          subst (λ (n : ℕ). AreExhausted (guest + 1) (set owed guest (get_or owed guest 0 + n)) (set ends guest e')) (sym none) (exhausted_more ends owed guest e e' before l lo (visits.exhausted none));
      owed = length-set owed guest _ ∙ v.owed;
      capacity = c.visit_guest.ensures.capacity ∙ v.capacity;
    }
