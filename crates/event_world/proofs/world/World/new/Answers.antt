use Rattle.std.proofs.Common.{◌≡◌, ℕ, zero, suc, List, [], ◌∷◌, ◌++◌, length, slice_index_or, refl, ap, ◌∙◌, arith, length-append}
use Rattle.page_model.specs.Events as events
use Rattle.page_model.specs.Events.{no_traffic}
use Rattle.event_world.proofs.world.World.new.Goals as goal

-- one more guest without traffic
one_more : (gs : List events.Traffic) (t : events.Traffic) → t ≡ no_traffic → ((i : ℕ) → slice_index_or gs i no_traffic ≡ no_traffic) → (i : ℕ) → slice_index_or (gs ++ t ∷ []) i no_traffic ≡ no_traffic
one_more [] t e h zero = e
one_more [] t e h (suc i) = refl
one_more (x ∷ gs) t e h zero = h zero
one_more (x ∷ gs) t e h (suc i) = one_more gs t e (λ j. h (suc j)) i

pub loop-preserved : goal.loop-preserved
loop-preserved g c = record {
  so_far = omega (arith, ap (λ (xs : List events.Traffic). length xs) c.push_reserved.ensures.items, length-append c.loop.list.items (c.in_ok-new.field-0 ∷ []));
  room = omega arith;
  empty = λ i. ap (λ (xs : List events.Traffic). slice_index_or xs i no_traffic) c.push_reserved.ensures.items ∙ one_more c.loop.list.items c.in_ok-new.field-0 c.in_ok-new.ensures c.loop.invariant.empty i;
}
