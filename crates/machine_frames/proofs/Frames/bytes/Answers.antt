use Rattle.std.proofs.Common.{◌∙◌, ℕ, List, Some, ap, sym, heap_items}
use Rattle.machine_frames.proofs.Places.{known}
use Rattle.machine_frames.proofs.Frames.bytes.Goals as goal

pub page-requires : goal.page-requires
page-requires g c =
    let i = c.self.inside in
    let k = known (heap_items i.free) i.pages c.args.mpn c.self.invariant.0 (rw c.self.view_is c.requires) in
    k.opened

pub returns-clause-value : goal.returns-clause-value
returns-clause-value g c =
    let i = c.self.inside in
    let k = known (heap_items i.free) i.pages c.args.mpn c.self.invariant.0 (rw c.self.view_is c.requires) in
    rw (← c.self.view_is) (k.page ∙ ap (λ (x : List ℕ). Some x) (sym c.page.ensures.value))
