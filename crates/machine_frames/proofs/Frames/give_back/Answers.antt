use Rattle.std.proofs.Common.{◌∷◌, arith, heap_items}
use Rattle.std.specs.BinaryHeap.{IsHeap}
use Rattle.std.specs.List.Sorted.{IsPermutation}
use Rattle.std.proofs.lemmas.Result.{IfOk-at_ok}
use Rattle.machine_frames.specs.Places.{lowest_first}
use Rattle.machine_frames.proofs.Places.{known, given_back}
use Rattle.machine_frames.proofs.Frames.give_back.Goals as goal

pub unwrap-requires : goal.unwrap-requires
unwrap-requires g c =
    let i = c.self.inside in
    let k = known (heap_items i.free) i.pages c.args.mpn c.self.invariant.0 (rw c.self.view_is c.requires) in
    c.push.ensures.succeeds (omega (arith, k.room, c.self.invariant.1, i.free.data.ok.0))

pub invariant_of-self : goal.invariant_of-self
invariant_of-self g c =
    let i = c.self.inside in
    let new = heap_items c.push.new.self in
    let pushed : IsPermutation (record { 0 = c.args.mpn } ∷ heap_items i.free) new = IfOk-at_ok (λ _. IsPermutation (record { 0 = c.args.mpn } ∷ heap_items i.free) new) c.unwrap.ensures c.push.ensures.permutation in
    let heap : IsHeap lowest_first new = IfOk-at_ok (λ _. IsHeap lowest_first (heap_items i.free) → IsHeap lowest_first new) c.unwrap.ensures c.push.ensures.heap_order c.self.invariant.0.heap in
    let after = given_back (heap_items i.free) new i.pages c.args.mpn c.self.invariant.0 (rw c.self.view_is c.requires) pushed heap in
    (after.sound, omega (arith, c.self.invariant.1, c.push.ensures.capacity))

pub returns : goal.returns
returns g c =
    let i = c.self.inside in
    let new = heap_items c.push.new.self in
    let pushed : IsPermutation (record { 0 = c.args.mpn } ∷ heap_items i.free) new = IfOk-at_ok (λ _. IsPermutation (record { 0 = c.args.mpn } ∷ heap_items i.free) new) c.unwrap.ensures c.push.ensures.permutation in
    let heap : IsHeap lowest_first new = IfOk-at_ok (λ _. IsHeap lowest_first (heap_items i.free) → IsHeap lowest_first new) c.unwrap.ensures c.push.ensures.heap_order c.self.invariant.0.heap in
    let after = given_back (heap_items i.free) new i.pages c.args.mpn c.self.invariant.0 (rw c.self.view_is c.requires) pushed heap in
    rw (← c.self.view_is) after.is
