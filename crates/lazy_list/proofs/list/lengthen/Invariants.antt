use Rattle.std.proofs.Common.{◌≡◌, ◌++◌, replicate, vec_capacity}
use Rattle.lazy_list.proofs.list.lengthen.Given as goal

abbrev pub invariant-loop : goal.invariant-loop
invariant-loop g l = record {
  items : l.list.items ≡ l.fn.list.items ++ replicate l.counter l.fn.item;
  capacity : vec_capacity l.list ≡ vec_capacity l.fn.list;
}
