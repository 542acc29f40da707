use Rattle.std.proofs.Common.{◌≡◌, ◌*◌, ◌≤◌, ◌++◌, length, take, vec_capacity}
use Rattle.std.specs.Vec.Iter.{into_iter_items}
use Rattle.memory_pages.specs.Made.{AreMade}
use Rattle.memory_pages.proofs.parts.push_all.Given as goal

abbrev pub invariant-loop-list : goal.invariant-loop-list
invariant-loop-list g l = record {
  made : AreMade (g.S.PageSource.is_steady l.source) (take (l.size * length l.yielded) (g.S.PageSource.pages l.source)) (g.W.PageWork.gives l.work) l.initial.items.items l.items.items;
  capacity : vec_capacity l.initial.items ≤ vec_capacity l.items;
  whole : l.yielded ++ into_iter_items l.list-iterator ≡ into_iter_items l.initial.list-iterator;
}
