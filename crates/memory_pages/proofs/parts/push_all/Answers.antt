use Rattle.std.proofs.Common.{◌≡◌, ◌*◌, ◌≤◌, ◌∷◌, ◌++◌, [], ap, append_assoc, arith, length, refl}
use Rattle.std.proofs.lemmas.Grind.{common_steps}
use Rattle.std.proofs.lemmas.List.{length_push, take_all}
use Rattle.std.specs.Prelude.{IfOk}
use Rattle.std.specs.Vec.Iter.{into_iter_items}
use Rattle.memory_pages.specs.Made.{AreMade, part_of}
use Rattle.memory_pages.proofs.Made.{nothing_read, part_read}
use Rattle.memory_pages.proofs.Splits.{at_next}
use Rattle.memory_pages.proofs.parts.push_all.Goals as goal

pub loop-list-init : goal.loop-list-init
loop-list-init g c = record {
  made = nothing_read (g.S.PageSource.is_steady c.args.source.now) (g.W.PageWork.gives c.args.work.now) (g.S.PageSource.pages c.args.source.now) (c.split_among-split.result.size * 0) _ _ (omega arith) refl;
  capacity = omega arith;
  whole = refl;
}

pub loop-list-preserved : goal.loop-list-preserved
loop-list-preserved g c =
    let so_far = c.loop-list.invariant in
    let steady = g.S.PageSource.is_steady c.args.source.now in
    let pages = g.S.PageSource.pages c.args.source.now in
    let gives = g.W.PageWork.gives c.args.work.now in
    let size = c.split_among-split.result.size in
    let rest = into_iter_items c.next.new.self in
    let all : c.loop-list.yielded ++ c.in-Some.list ∷ rest ≡ c.in_ok-lists.lists.items = grind (arith, common_steps, so_far.whole, c.in-Some.ensures.steps, c.into_iter-list-iterator.ensures.into_iter_gives) in
    let given = at_next (λ n list. IfOk list (λ items. AreMade steady (part_of pages size n) gives [] items.items)) c.loop-list.yielded rest c.in_ok-lists.lists.items c.in-Some.list all
    (λ k d lt. (c.in_ok-lists.ensures.each k d (omega (arith, c.in_ok-lists.ensures.len, c.in_ok-lists.lists.ok.0))).1.met) in
    let part = rw c.in_ok-list.was at given in
    let one = length_push c.loop-list.yielded c.in-Some.list in
    record {
      made = part_read steady gives pages size (length c.loop-list.yielded) _ _ _ _ _ so_far.made part
          (rw c.deref.ensures.value at c.in_ok-append.ensures.items) one;
      capacity = omega (arith, so_far.capacity, c.append.ensures.capacity);
      whole = grind (arith, common_steps, c.in-Some.ensures.steps, append_assoc);
    }

pub returns-clause-made : goal.returns-clause-made
returns-clause-made g c =
    let pages = g.S.PageSource.pages c.args.source.now in
    let split = c.split_among-split.result in
    let all : c.loop-list.yielded ≡ c.in_ok-lists.lists.items = grind (arith, common_steps, c.loop-list.invariant.whole, c.in-None.ensures, c.into_iter-list-iterator.ensures.into_iter_gives) in
    let same = ap length all in
    let parts : length c.loop-list.yielded ≡ split.parts = omega (arith, same, c.in_ok-lists.ensures.len, c.in_ok-lists.lists.ok.0) in
    let covered : length pages ≤ split.size * length c.loop-list.yielded = rw parts (omega (arith, c.split_among-split.ensures.all, c.count-count.ensures)) in
    rw (take_all (split.size * length c.loop-list.yielded) pages covered) at c.loop-list.invariant.made
