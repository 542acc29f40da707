use Rattle.std.proofs.Common.{ap, sym, arith, length}
use Rattle.machine_frames.specs.PageLists.{PageList}
use Rattle.machine_frames.specs.InBlocks.{block_of}
use Rattle.machine_frames.proofs.InBlocks.{number_below, within_keys, has_page, found}
use Rattle.machine_frames.proofs.blocks.Blocks.page.Goals as goal

pub index-key-requires : goal.index-key-requires
index-key-requires g c =
    let i = c.self.inside in
    let below = number_below (block_of i.keys.items i.blocks) i.len c.args.number c.args.self.now (ap (λ (l : PageList). l.pages) c.self.view_is) c.requires in
    omega (arith, within_keys c.args.number i.capacity (length i.keys.items) (omega (arith, below, c.self.invariant.0.holds.few)) c.self.invariant.1, i.keys.ok.0)

pub page_at-requires : goal.page_at-requires
page_at-requires g c =
    let i = c.self.inside in
    let below = number_below (block_of i.keys.items i.blocks) i.len c.args.number c.args.self.now (ap (λ (l : PageList). l.pages) c.self.view_is) c.requires in
    has_page i.keys.items i.blocks i.len i.capacity c.args.number c.index-key.result.now c.self.invariant.0 c.self.invariant.1 (omega (arith, below, c.self.invariant.0.holds.few)) c.index-key.ensures below

pub returns-clause-value : goal.returns-clause-value
returns-clause-value g c =
    let i = c.self.inside in
    let below = number_below (block_of i.keys.items i.blocks) i.len c.args.number c.args.self.now (ap (λ (l : PageList). l.pages) c.self.view_is) c.requires in
    rw (← c.self.view_is) (sym (found i.keys.items i.blocks i.len i.capacity c.args.number c.index-key.result.now c.self.invariant.0 c.self.invariant.1 (omega (arith, below, c.self.invariant.0.holds.few)) c.index-key.ensures below c.page_at.result.now c.page_at.ensures.value))
