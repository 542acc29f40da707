use Rattle.std.proofs.Common.{List, ℕ, ap, arith, heap_items}
use Rattle.page_model.specs.Pages.{written}
use Rattle.machine_frames.specs.PageLists.{PageList}
use Rattle.machine_frames.proofs.Places.{known, written_at}
use Rattle.machine_frames.proofs.Frames.write.Goals as goal

pub write-requires-clause-page : goal.write-requires-clause-page
write-requires-clause-page g c =
    let i = c.self.inside in
    let k = known (heap_items i.free) i.pages c.args.mpn c.self.invariant.0 (rw c.self.view_is c.requires.taken) in
    k.opened

pub invariant_of-self : goal.invariant_of-self
invariant_of-self g c =
    let i = c.self.inside in
    let change : List ℕ → List ℕ = λ page. written page c.args.at c.args.bytes.now in
    let after = written_at (heap_items i.free) i.pages c.args.mpn change c.write.new.self c.self.invariant.0 (rw c.self.view_is c.requires.taken) c.write.ensures in
    (after.sound, omega (arith, c.self.invariant.1, ap (λ (l : PageList). l.room) c.write.ensures))

pub returns : goal.returns
returns g c =
    let i = c.self.inside in
    let change : List ℕ → List ℕ = λ page. written page c.args.at c.args.bytes.now in
    let after = written_at (heap_items i.free) i.pages c.args.mpn change c.write.new.self c.self.invariant.0 (rw c.self.view_is c.requires.taken) c.write.ensures in
    rw (← c.self.view_is) after.is
