use Rattle.std.proofs.Common.{◌≡◌, ◌++◌, ◌+◌, ◌<◌, drop, length, slice_index_or, ℕ, List, [], ◌∷◌, Some, None, sym, ap, ◌∙◌, arith, append_assoc, length-append, vec_capacity}
use Rattle.page_model.specs.declared.request.Entry.{Entry}
use Rattle.merge_machine.specs.Scripts.{with_close}
use Rattle.journal_text.proofs.Lines.{below_push}
use Rattle.script_text.specs.Order.{first_of, firsts, left_of}
use Rattle.script_text.specs.Views.{lists_of}
use Rattle.script_text.proofs.Turns.{guest_step}
use Rattle.script_text.proofs.order.push_turn.Goals.{in-Some, in_default}
use Rattle.script_text.proofs.order.push_turn.Goals as goal

pub loop-guest-preserved : goal.loop-guest-preserved
loop-guest-preserved g c =
    let vs = c.args.scripts.now in
    let i : ℕ = c.loop-guest.guest in
    let turn : ℕ = c.args.turn in
    let v = c.index-scripts-guest.result in
    let old : List Entry = c.loop-guest.entries.items in
    let later : List Entry = firsts (i + 1) (drop (i + 1) (left_of turn (lists_of vs))) in
    let few : i < length vs = omega arith in
    let own : first_of (drop turn (with_close v.items)) ≡ first_of (drop turn (with_close (slice_index_or vs i v).items)) = ap (λ x. first_of (drop turn (with_close x.items))) c.index-scripts-guest.is in
    elim c.match-request_at.branch [
      | in-Some w ↦
          let e : Entry = record { guest = i; request = w.in-Some.request } in
          let step = guest_step vs turn i v (Some w.in-Some.request) few (sym w.in-Some.is ∙ c.request_at.ensures ∙ own) in
          let pushed : c.match-request_at.entries.items ≡ old ++ e ∷ [] = ap (λ x. x.items) w.entries-is ∙ w.push_reserved.ensures.items in
          record {
            items = ap (λ (xs : List Entry). xs ++ later) pushed ∙ append_assoc old (e ∷ []) later ∙ ap (λ (xs : List Entry). old ++ xs) (sym step) ∙ c.loop-guest.invariant.items;
            below = rw pushed (below_push (length vs) old e c.loop-guest.invariant.below few);
            few = omega (arith, ap length pushed, length-append old (e ∷ []), c.loop-guest.invariant.few);
            capacity = ap (λ x. vec_capacity x) w.entries-is ∙ w.push_reserved.ensures.capacity ∙ c.loop-guest.invariant.capacity;
          }
      | in_default w ↦
          let step = guest_step vs turn i v None few (sym w.in_default.is ∙ c.request_at.ensures ∙ own) in
          let kept : c.match-request_at.entries.items ≡ old = ap (λ x. x.items) w.entries-is in
          record {
            items = ap (λ (xs : List Entry). xs ++ later) kept ∙ ap (λ (xs : List Entry). old ++ xs) (sym step) ∙ c.loop-guest.invariant.items;
            below = rw kept c.loop-guest.invariant.below;
            few = omega (arith, ap length kept, c.loop-guest.invariant.few);
            capacity = ap (λ x. vec_capacity x) w.entries-is ∙ c.loop-guest.invariant.capacity;
          }
    ]
