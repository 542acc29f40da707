use Rattle.std.proofs.Common.{◌≡◌, false, true, ap, ◌∙◌, inl, inr, ⊎_elim, arith, rules}
use Rattle.std.proofs.lemmas.Bool.{cases_Bool}
use Rattle.share_rings.specs.Closing.{has_close}
use Rattle.share_rings.specs.Ends.{end_taken}
use Rattle.merge_machine.specs.Rounds.{IsExhausted}
use Rattle.merge_machine.proofs.Rounds.{visits_none, known_same, known_none}
use Rattle.merge_machine.proofs.take_requests.visit_guest.Goals as goal

pub returns-then-free-owed-clause-visits : goal.returns-then-free-owed-clause-visits
returns-then-free-owed-clause-visits g c =
    let f = c.free.ensures in let before = c.args.end.now in let after = c.free.new.self in
    visits_none c.args.guest c.args.owed before after c.args.journal.now.items f.pair f.capacity f.lists.0 f.lists.1 (known_same before after f.lists.2) f.more (search rules) (inr (inl (omega (arith, f.value, c.if-free-owed.true))))

pub returns-in-None-clause-visits : goal.returns-in-None-clause-visits
returns-in-None-clause-visits g c =
    let f = c.free.ensures in let t = c.in-None.ensures in let before = c.args.end.now in let looked = c.free.new.self in let after = c.take.new.self in
    let left : IsExhausted c.args.owed after = ⊎_elim
    (λ (closed : has_close (end_taken looked) ≡ true). inl (ap has_close t.taken ∙ closed))
    (λ (opened : has_close (end_taken looked) ≡ false). inr (inr (t.known opened).1))
    (cases_Bool (has_close (end_taken looked))) in
    visits_none c.args.guest c.args.owed before after c.args.journal.now.items (t.pair ∙ f.pair) (t.capacity ∙ f.capacity) (t.taken ∙ f.lists.0) (t.given ∙ f.lists.1)
    (rw (← f.lists.2) (known_none looked after (λ b. (t.closed b).1) (λ b. (t.known b).0))) (omega (arith, f.more, t.free)) (search rules) left
