use Rattle.std.proofs.Common.{length, arith}
use Rattle.std.proofs.lemmas.List.{length-drop}
use Rattle.host_messages.proofs.Items.{reads_on, is_read, less_left}
use Rattle.host_messages.proofs.list.read_items.Goals as goal

pub loop-preserved : goal.loop-preserved
loop-preserved g c = record {
  read = rw (c.push.ensures.items, c.read.ensures, c.split_at.ensures.front, c.split_at.ensures.back, c.WIDTH.ensures)
      (reads_on g.T.Item.WIDTH g.T.Item.item_at c.loop.items.items c.args.count c.loop.counter c.loop.rest.now _ c.loop-test.true c.loop.invariant.read);
  left = rw (c.split_at.ensures.back, c.WIDTH.ensures, length-drop g.T.Item.WIDTH c.loop.rest.now) (less_left g.T.Item.WIDTH c.args.count c.loop.counter (length c.loop.rest.now) c.loop-test.true c.loop.invariant.left);
  len = omega (arith, c.push.ensures.len, c.loop.invariant.len);
}

pub returns : goal.returns
returns g c = is_read g.T.Item.WIDTH g.T.Item.item_at c.loop.items.items c.args.count c.loop.counter c.loop.rest.now _ c.loop-test.false c.loop.invariant.read
