use Rattle.std.proofs.Common.{◌≡◌, ◌<◌, length, take, refl, ap, subst, sym, ◌∙◌, arith}
use Rattle.page_model.specs.Pages.{State}
use Rattle.page_model.specs.Steps.{step}
use Rattle.page_model.specs.Replay.{state_after}
use Rattle.page_model.specs.declared.request.Entry.{Entry}
use Rattle.merge_core.specs.Shown.{Shown, state_of}
use Rattle.merge_machine.specs.Ahead.{GaveOne}
use Rattle.merge_machine.proofs.Rounds.{served_none, served_more, state_none, state_more}
use Rattle.merge_machine.proofs.serve_taken.serve_taken.Goals as goal

pub loop-n-init : goal.loop-n-init
loop-n-init g c =
    let hash = g.H.HashFunction.hash_of in let s = state_of c.args.core.now in record {
      served = served_none hash s c.args.entries.now c.args.ends.now.items c.requires.owes;
      memory = state_none hash s;
      counted = omega arith;
      guests = refl;
    }

pub loop-n-preserved : goal.loop-n-preserved
loop-n-preserved g c =
    let hash = g.H.HashFunction.hash_of in let s = state_of c.args.core.now in let entries = c.args.entries.now in let n = c.loop-n.n in let v = c.loop-n.invariant in
    let x = c.index-entries-n.result in let xis = c.index-entries-n.is in let l = c.loop-n-test.true in
    let e = c.index_mut.result.now in let e' = c.answer_one.new.end in
    let g0 : x.guest < length c.args.ends.now.items = subst (λ (y : Entry). y.guest < length c.args.ends.now.items) (sym xis) (c.requires.members n x l) in
    let here : x.guest < length c.loop-n.ends.items = omega (arith, g0, v.served.size) in
    let same : state_of c.note_ahead.new.core ≡ state_after hash s (take n entries) = ap state_of c.note_ahead.ensures ∙ v.memory in
    let gave : GaveOne (step hash (state_after hash s (take n entries)) x.guest x.request).verdict e e' = subst (λ (z : State). GaveOne (step hash z x.guest x.request).verdict e e') same c.answer_one.ensures.end in
    record {
      served = served_more hash s entries n c.args.ends.now.items c.loop-n.ends.items x e e' v.served l xis here c.index_mut.ensures.value gave;
      memory = c.answer_one.ensures.memory ∙ (ap (λ (z : State). (step hash z x.guest x.request).state) same ∙ state_more hash s entries n x l xis);
      counted = omega (arith, c.answer_one.ensures.entries, ap (λ (z : Shown). z.entries) c.note_ahead.ensures, v.counted);
      guests = c.answer_one.ensures.guests ∙ (ap (λ (z : Shown). length (state_of z).guests) c.note_ahead.ensures ∙ v.guests);
    }
