use Rattle.std.proofs.Common.{◌+◌, ◌*◌, ◌<◌, ℕ, length, ap, arith}
use Rattle.machine_frames.specs.PageLists.{PageList}
use Rattle.machine_frames.specs.InBlocks.{block_of}
use Rattle.machine_frames.proofs.InBlocks.{grown, pages_in-none, listed}
use Rattle.machine_frames.proofs.blocks.Blocks.new.Goals as goal

pub loop-number-preserved : goal.loop-number-preserved
loop-number-preserved g c =
    let l = c.loop-number in
    let block = c.in_ok-block.block in
    let roomy : (j : ℕ) → j < 512 → 512 * length l.keys.items + j < c.args.capacity → j < block.room =
    λ j x y. omega (arith, x, y, l.invariant.made, c.min-room.ensures, ap (λ (b : PageList). b.room) c.in_ok-block.ensures) in
    let more = grown l.keys.items l.blocks c.args.capacity c.insert_reserved.result block c.insert_reserved.new.self l.invariant.sound c.insert_reserved.ensures.was_vacant c.insert_reserved.ensures.updates (ap (λ (b : PageList). b.pages) c.in_ok-block.ensures) roomy in
    record {
      sound = rw c.push_reserved.ensures.items more;
      made = omega (arith, c.push_reserved.ensures.len, l.invariant.made, c.push_reserved.new.self.ok.0, l.keys.ok.0);
      stored = omega (arith, c.insert_reserved.ensures.len, l.invariant.stored);
      room = omega (arith, c.insert_reserved.ensures.capacity, l.invariant.room);
      keys = omega (arith, c.push_reserved.ensures.capacity, l.invariant.keys);
    }

pub returns : goal.returns
returns g c = ap (listed c.args.capacity) (pages_in-none (block_of c.loop-number.keys.items c.loop-number.blocks))
