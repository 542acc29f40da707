use Rattle.std.proofs.Common.{◌≡◌, ◌++◌, ◌∷◌, [], ap, sym, length, replicate, arith, append_assoc, rules, ◌∙◌, List, None}
use Rattle.std.proofs.lemmas.Grind.{common_steps}
use Rattle.std.proofs.lemmas.List.{append-nil, length_push, length-replicate, nil_from_length}
use Rattle.std.specs.Vec.Iter.{into_iter_items}
use Rattle.page_model.specs.declared.limits.TheConstants.{MAX_FRAMES}
use Rattle.machine_frames.specs.FrameMap.{FrameMap, no_frames}
use Rattle.lent_slots.specs.Totals.{empty_machine}
use Rattle.share_domain.proofs.Made.{place_within, element_is, frames_fit, more_made}
use Rattle.share_domain.proofs.make.new_machines.Goals as goal

pub loop-own-init : goal.loop-own-init
loop-own-init g c = record {
  whole = grind (arith, common_steps, c.into_iter-own-iterator.ensures.into_iter_gives, c.requires.frames.each);
  made = c.in_ok-machines.ensures.items;
  len = search rules;
  room = omega (arith, c.in_ok-machines.ensures.capacity);
}

pub new-requires-clause-frames : goal.new-requires-clause-frames
new-requires-clause-frames g c κs within =
    let free : FrameMap = no_frames c.args.config.now.frames in
    let rest = into_iter_items c.next.new.self in
    let all : c.loop-own.yielded ++ c.in-Some.own ∷ rest ≡ replicate c.args.config.now.machines free = grind (arith, common_steps, c.loop-own.invariant.whole, c.in-Some.ensures.steps) in
    frames_fit c.args.config.now.frames MAX_FRAMES c.in-Some.own (element_is c.loop-own.yielded rest c.in-Some.own c.args.config.now.machines free all) c.requires.limits.frames.0 c.requires.limits.frames.1

pub push_reserved-requires : goal.push_reserved-requires
push_reserved-requires g c =
    let free : FrameMap = no_frames c.args.config.now.frames in
    let rest = into_iter_items c.next.new.self in
    let all : c.loop-own.yielded ++ c.in-Some.own ∷ rest ≡ replicate c.args.config.now.machines free = grind (arith, common_steps, c.loop-own.invariant.whole, c.in-Some.ensures.steps) in
    omega (arith, c.loop-own.invariant.len, c.loop-own.invariant.room, place_within c.loop-own.yielded rest c.in-Some.own c.args.config.now.machines free all)

pub loop-own-preserved : goal.loop-own-preserved
loop-own-preserved g c =
    let so_far = c.loop-own.invariant in
    let free : FrameMap = no_frames c.args.config.now.frames in
    let rest = into_iter_items c.next.new.self in
    let all : c.loop-own.yielded ++ c.in-Some.own ∷ rest ≡ replicate c.args.config.now.machines free = grind (arith, common_steps, so_far.whole, c.in-Some.ensures.steps) in
    let own = element_is c.loop-own.yielded rest c.in-Some.own c.args.config.now.machines free all in
    let size = ap (λ (l : FrameMap). length l) own ∙ length-replicate c.args.config.now.frames None in
    record {
      whole = append_assoc c.loop-own.yielded (c.in-Some.own ∷ []) rest ∙ all;
      made = more_made c.loop-own.machines.items c.push_reserved.new.self.items c.loop-own.yielded c.in-Some.own c.in_ok-new.field-0 c.args.config.now.slots c.args.config.now.frames (length c.in-Some.own) so_far.made c.in_ok-new.ensures size c.push_reserved.ensures.items;
      len = omega (arith, so_far.len, c.push_reserved.ensures.len, length_push c.loop-own.yielded c.in-Some.own);
      room = omega (arith, so_far.room, c.push_reserved.ensures.capacity);
    }

pub returns : goal.returns
returns g c =
    let free : FrameMap = no_frames c.args.config.now.frames in
    let none : into_iter_items c.loop-own.own-iterator ≡ [] = nil_from_length _ (omega (arith, c.in-None.ensures.steps, c.loop-own.own-iterator.rest.ok.0)) in
    let all = sym (append-nil c.loop-own.yielded) ∙ ap (λ (l : List FrameMap). c.loop-own.yielded ++ l) (sym none) ∙ c.loop-own.invariant.whole in
    let size = ap (λ (l : List FrameMap). length l) all ∙ length-replicate c.args.config.now.machines free in
    c.loop-own.invariant.made ∙ ap (λ n. replicate n (empty_machine c.args.config.now.slots c.args.config.now.frames)) size
