use Rattle.std.proofs.Common.{◌<◌, ap, sym, refl, arith, length}
use Rattle.machine_frames.specs.PageLists.{PageList}
use Rattle.machine_frames.specs.InBlocks.{block_of}
use Rattle.machine_frames.proofs.InBlocks.{length-pages_in, within_keys, has_room, pushed, listed}
use Rattle.machine_frames.proofs.blocks.Blocks.push.Goals as goal

pub index-key-requires : goal.index-key-requires
index-key-requires g c =
    let i = c.self.inside in
    let fits : i.len < i.capacity = omega (arith, c.requires, length-pages_in (block_of i.keys.items i.blocks) i.len, ap (λ (l : PageList). length l.pages) c.self.view_is, ap (λ (l : PageList). l.room) c.self.view_is) in
    omega (arith, within_keys i.len i.capacity (length i.keys.items) fits c.self.invariant.1, i.keys.ok.0)

pub push_at-requires : goal.push_at-requires
push_at-requires g c =
    let i = c.self.inside in
    let fits : i.len < i.capacity = omega (arith, c.requires, length-pages_in (block_of i.keys.items i.blocks) i.len, ap (λ (l : PageList). length l.pages) c.self.view_is, ap (λ (l : PageList). l.room) c.self.view_is) in
    has_room i.keys.items i.blocks i.len i.capacity i.len c.index-key.result.now c.self.invariant.0 c.self.invariant.1 fits c.index-key.ensures refl

pub invariant_of-self : goal.invariant_of-self
invariant_of-self g c =
    let i = c.self.inside in
    let fits : i.len < i.capacity = omega (arith, c.requires, length-pages_in (block_of i.keys.items i.blocks) i.len, ap (λ (l : PageList). length l.pages) c.self.view_is, ap (λ (l : PageList). l.room) c.self.view_is) in
    let after = pushed i.keys.items i.blocks i.len i.capacity i.len c.index-key.result.now c.self.invariant.0 c.self.invariant.1 fits c.index-key.ensures refl c.args.page c.push_at.new.blocks c.push_at.ensures in
    (after.sound, c.self.invariant.1)

pub returns-clause-value : goal.returns-clause-value
returns-clause-value g c = rw (← c.self.view_is) (sym (length-pages_in (block_of c.self.inside.keys.items c.self.inside.blocks) c.self.inside.len))

pub returns-clause-more : goal.returns-clause-more
returns-clause-more g c =
    let i = c.self.inside in
    let fits : i.len < i.capacity = omega (arith, c.requires, length-pages_in (block_of i.keys.items i.blocks) i.len, ap (λ (l : PageList). length l.pages) c.self.view_is, ap (λ (l : PageList). l.room) c.self.view_is) in
    let after = pushed i.keys.items i.blocks i.len i.capacity i.len c.index-key.result.now c.self.invariant.0 c.self.invariant.1 fits c.index-key.ensures refl c.args.page c.push_at.new.blocks c.push_at.ensures in
    rw (← c.self.view_is) (ap (listed i.capacity) after.is)
