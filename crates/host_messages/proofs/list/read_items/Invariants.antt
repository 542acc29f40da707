use Rattle.std.proofs.Common.{◌≡◌, ◌++◌, ◌-◌, ◌*◌, length}
use Rattle.arrayvec.specs.ArrayVec.{array_vec_len}
use Rattle.host_messages.specs.Reading.{items_at}
use Rattle.host_messages.proofs.list.read_items.Given as goal

abbrev pub invariant-loop : goal.invariant-loop
invariant-loop g l = record {
  read : l.items.items ++ items_at g.T.Item.WIDTH g.T.Item.item_at (l.count - l.counter) l.rest ≡ items_at g.T.Item.WIDTH g.T.Item.item_at l.count l.fn.bytes;
  left : length l.rest ≡ (l.count - l.counter) * g.T.Item.WIDTH;
  len : array_vec_len l.items ≡ l.counter;
}
