use Rattle.std.proofs.Common.{ℕ, List, ap, arith, length}
use Rattle.page_model.specs.Pages.{written}
use Rattle.machine_frames.specs.PageLists.{PageList}
use Rattle.machine_frames.specs.InBlocks.{block_of}
use Rattle.machine_frames.proofs.InBlocks.{number_below, within_keys, has_page, rewritten, listed}
use Rattle.machine_frames.proofs.blocks.Blocks.write.Goals as goal

pub index-key-requires : goal.index-key-requires
index-key-requires g c =
    let i = c.self.inside in
    let below = number_below (block_of i.keys.items i.blocks) i.len c.args.number c.args.self.now (ap (λ (l : PageList). l.pages) c.self.view_is) c.requires.page in
    omega (arith, within_keys c.args.number i.capacity (length i.keys.items) (omega (arith, below, c.self.invariant.0.holds.few)) c.self.invariant.1, i.keys.ok.0)

pub write_at-requires-clause-page : goal.write_at-requires-clause-page
write_at-requires-clause-page g c =
    let i = c.self.inside in
    let below = number_below (block_of i.keys.items i.blocks) i.len c.args.number c.args.self.now (ap (λ (l : PageList). l.pages) c.self.view_is) c.requires.page in
    has_page i.keys.items i.blocks i.len i.capacity c.args.number c.index-key.result.now c.self.invariant.0 c.self.invariant.1 (omega (arith, below, c.self.invariant.0.holds.few)) c.index-key.ensures below

pub invariant_of-self : goal.invariant_of-self
invariant_of-self g c =
    let i = c.self.inside in
    let below = number_below (block_of i.keys.items i.blocks) i.len c.args.number c.args.self.now (ap (λ (l : PageList). l.pages) c.self.view_is) c.requires.page in
    let change : List ℕ → List ℕ = λ page. written page c.args.at c.args.bytes.now in
    let after = rewritten i.keys.items i.blocks i.len i.capacity c.args.number c.index-key.result.now c.self.invariant.0 c.self.invariant.1 (omega (arith, below, c.self.invariant.0.holds.few)) c.index-key.ensures below change c.write_at.new.blocks c.write_at.ensures in
    (after.sound, c.self.invariant.1)

pub returns : goal.returns
returns g c =
    let i = c.self.inside in
    let below = number_below (block_of i.keys.items i.blocks) i.len c.args.number c.args.self.now (ap (λ (l : PageList). l.pages) c.self.view_is) c.requires.page in
    let change : List ℕ → List ℕ = λ page. written page c.args.at c.args.bytes.now in
    let after = rewritten i.keys.items i.blocks i.len i.capacity c.args.number c.index-key.result.now c.self.invariant.0 c.self.invariant.1 (omega (arith, below, c.self.invariant.0.holds.few)) c.index-key.ensures below change c.write_at.new.blocks c.write_at.ensures in
    rw (← c.self.view_is) (ap (listed i.capacity) after.is)
