use Rattle.std.proofs.Common.{◌≡◌, ◌+◌, ◌++◌, ◌*◌, take}
use Rattle.std.specs.List.{flat_map}
use Rattle.arrayvec.specs.ArrayVec.{array_vec_len}
use Rattle.host_messages.proofs.list.put_items.Given as goal

abbrev pub invariant-loop-item : goal.invariant-loop-item
invariant-loop-item g l = record {
  bytes : l.packet.items ≡ l.fn.packet.items ++ flat_map g.T.Item.spelled (take l.item-index l.items);
  len : array_vec_len l.packet ≡ array_vec_len l.fn.packet + l.item-index * g.T.Item.WIDTH;
}
