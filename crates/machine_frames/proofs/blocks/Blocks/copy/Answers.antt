use Rattle.std.proofs.Common.{ℕ, List, ap, arith, length}
use Rattle.machine_frames.specs.PageLists.{PageList}
use Rattle.machine_frames.specs.InBlocks.{block_of}
use Rattle.machine_frames.proofs.InBlocks.{number_below, within_keys, has_page, rewritten, listed}
use Rattle.machine_frames.proofs.blocks.Blocks.copy.Goals as goal

pub index-key-requires : goal.index-key-requires
index-key-requires g c =
    let i = c.self.inside in
    let below = number_below (block_of i.keys.items i.blocks) i.len c.args.to c.args.self.now (ap (λ (l : PageList). l.pages) c.self.view_is) c.requires.to_page in
    omega (arith, within_keys c.args.to i.capacity (length i.keys.items) (omega (arith, below, c.self.invariant.0.holds.few)) c.self.invariant.1, i.keys.ok.0)

pub set_at-requires : goal.set_at-requires
set_at-requires g c =
    let i = c.self.inside in
    let below = number_below (block_of i.keys.items i.blocks) i.len c.args.to c.args.self.now (ap (λ (l : PageList). l.pages) c.self.view_is) c.requires.to_page in
    has_page i.keys.items i.blocks i.len i.capacity c.args.to c.index-key.result.now c.self.invariant.0 c.self.invariant.1 (omega (arith, below, c.self.invariant.0.holds.few)) c.index-key.ensures below

pub invariant_of-self : goal.invariant_of-self
invariant_of-self g c =
    let i = c.self.inside in
    let below = number_below (block_of i.keys.items i.blocks) i.len c.args.to c.args.self.now (ap (λ (l : PageList). l.pages) c.self.view_is) c.requires.to_page in
    let change : List ℕ → List ℕ = λ page. c.page-page.result.now in
    let after = rewritten i.keys.items i.blocks i.len i.capacity c.args.to c.index-key.result.now c.self.invariant.0 c.self.invariant.1 (omega (arith, below, c.self.invariant.0.holds.few)) c.index-key.ensures below change c.set_at.new.blocks c.set_at.ensures in
    (after.sound, c.self.invariant.1)

pub returns : goal.returns
returns g c =
    let i = c.self.inside in
    let below = number_below (block_of i.keys.items i.blocks) i.len c.args.to c.args.self.now (ap (λ (l : PageList). l.pages) c.self.view_is) c.requires.to_page in
    let change : List ℕ → List ℕ = λ page. c.page-page.result.now in
    let after = rewritten i.keys.items i.blocks i.len i.capacity c.args.to c.index-key.result.now c.self.invariant.0 c.self.invariant.1 (omega (arith, below, c.self.invariant.0.holds.few)) c.index-key.ensures below change c.set_at.new.blocks c.set_at.ensures in
    rw (← c.page-page.ensures.value, ← c.self.view_is) (ap (listed i.capacity) after.is)
