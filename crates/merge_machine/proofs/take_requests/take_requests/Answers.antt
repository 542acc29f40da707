use Rattle.std.proofs.Common.{◌≡◌, ℕ, List, length, replicate, refl, ap, sym, subst, ◌∙◌, arith}
use Rattle.std.proofs.lemmas.List.{length-replicate, get_or-replicate, length-append}
use Rattle.page_model.specs.declared.limits.TheConstants.{MAX_GUESTS}
use Rattle.merge_machine.specs.Taking.{TookSo, AreExhausted}
use Rattle.merge_machine.proofs.Rounds.{took_none, took_on, took_all}
use Rattle.merge_machine.proofs.take_requests.take_requests.Goals as goal

pub loop-turn-init : goal.loop-turn-init
loop-turn-init g c =
    let ends = c.args.ends.now.items in let journal = c.args.journal.now.items in let owed = c.no_debts-owed.result in let none : owed ≡ replicate MAX_GUESTS 0 = c.no_debts-owed.ensures in record {
      took = subst (λ (debts : List ℕ). TookSo ends ends journal journal (replicate MAX_GUESTS 0) debts) (sym none) (took_none ends journal (replicate MAX_GUESTS 0));
      owed = ap (λ (xs : List ℕ). length xs) none ∙ length-replicate {A = ℕ} MAX_GUESTS 0;
      within = omega arith;
      least = omega arith;
      capacity = refl;
    }

pub take_turn-requires-clause-within : goal.take_turn-requires-clause-within
take_turn-requires-clause-within g c = omega (arith, c.loop-turn.invariant.within, c.len.ensures, c.args.journal.now.ok.0)

pub loop-turn-preserved : goal.loop-turn-preserved
loop-turn-preserved g c =
    let v = c.loop-turn.invariant in let t = c.take_turn.ensures in let before = c.loop-turn.journal in let after = c.take_turn.new.journal in
    let grew = ap length t.took.grew ∙ length-append before.items t.took.entries in
    record {
      took = took_on c.args.ends.now.items c.loop-turn.ends.items c.take_turn.new.ends.items c.args.journal.now.items before.items after.items (replicate MAX_GUESTS 0) c.loop-turn.owed c.take_turn.new.owed v.took t.took;
      owed = t.owed;
      within = omega (arith, t.within, c.len.ensures, c.args.journal.now.ok.0);
      least = omega (arith, v.least, grew, c.if-len-before.false, c.len-before.ensures, c.len-in-loop-turn.ensures, before.ok.0, after.ok.0);
      capacity = t.capacity ∙ v.capacity;
    }

pub returns-then-len-before-clause-took : goal.returns-then-len-before-clause-took
returns-then-len-before-clause-took g c =
    let v = c.loop-turn.invariant in let t = c.take_turn.ensures in let ends0 = c.args.ends.now.items in let ends = c.take_turn.new.ends.items in
    let journal0 = c.args.journal.now in let before = c.loop-turn.journal in let after = c.take_turn.new.journal in let owed = c.take_turn.new.owed in
    let same : length after.items ≡ length before.items = omega (arith, c.if-len-before.true, c.len-before.ensures, c.len-in-loop-turn.ensures, before.ok.0, after.ok.0) in
    took_all c.args.most ends0 ends journal0.items after.items (replicate MAX_GUESTS 0) owed
    (took_on ends0 c.loop-turn.ends.items ends journal0.items before.items after.items (replicate MAX_GUESTS 0) c.loop-turn.owed owed v.took t.took)
    (λ i l. get_or-replicate {A = ℕ} MAX_GUESTS i 0 0 (omega (arith, l, c.requires.few)))
    (omega (arith, t.within, c.len.ensures, journal0.ok.0))
    (λ less. subst (λ (n : ℕ). AreExhausted n owed ends) v.took.size (t.exhausted same (omega (arith, less, same, c.len.ensures, journal0.ok.0))))

pub returns-clause-took : goal.returns-clause-took
returns-clause-took g c =
    let v = c.loop-turn.invariant in
    took_all c.args.most c.args.ends.now.items c.loop-turn.ends.items c.args.journal.now.items c.loop-turn.journal.items (replicate MAX_GUESTS 0) c.loop-turn.owed v.took
    (λ i l. get_or-replicate {A = ℕ} MAX_GUESTS i 0 0 (omega (arith, l, c.requires.few))) v.within (λ less. absurd (omega (arith, v.least, v.within, c.loop-turn-test.false)))
