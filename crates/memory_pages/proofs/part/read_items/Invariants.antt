use Rattle.std.proofs.Common.{◌≡◌, ◌-◌, ◌≤◌, [], take, drop, vec_len}
use Rattle.memory_pages.specs.Made.{AreMade}
use Rattle.memory_pages.proofs.part.read_items.Given as goal

abbrev pub invariant-loop-done : goal.invariant-loop-done
invariant-loop-done g l = record {
  within : l.done ≤ l.count;
  pages : vec_len l.pages ≡ 64;
  made : AreMade (g.S.PageSource.is_steady l.source) (take l.done (drop l.from (g.S.PageSource.pages l.source))) (g.W.PageWork.gives l.work) [] l.items.items;
}

abbrev pub decreases-loop-done : goal.decreases-loop-done
decreases-loop-done g l = l.count - l.done
