use Rattle.std.proofs.Common.{refl, ap, ◌∙◌, arith, ◌≡◌, Some}
use Rattle.page_model.proofs.Places.{at_same}
use Rattle.merge_core.specs.View.{pmap_of, notes_of}
use Rattle.std.proofs.Common.{ℕ, ◌+◌, ◌-◌, ◌≤◌}
use Rattle.share_table.specs.TableMaps.{shared_at, SharedFrame}
use Rattle.merge_core.proofs.SharedChanges.{left_ties, left_guests, one_less_is}
use Rattle.merge_core.proofs.Limits.{few_after}
use Rattle.merge_core.proofs.moves.leave.Goals as goal

pub leave-requires : goal.leave-requires
leave-requires g c = record { present = rw c.requires.found refl }

pub returns-clause-whole : goal.returns-clause-whole
returns-clause-whole g c =
    let held = c.args.held.now in
    let n : ℕ = c.args.count - 1 in
    let some : 1 ≤ n = omega (arith, c.requires.several) in
    let more : c.args.count ≡ n + 1 = omega (arith, c.requires.several) in
    let found : shared_at held.table c.args.code ≡ Some (record { mpn = c.args.mpn; count = n + 1 }) = c.requires.found ∙ ap (λ (x : ℕ). let f : SharedFrame = record { mpn = c.args.mpn; count = x } in Some f) more in
    record {
      ties =
          rw (c.leave.ensures.left, one_less_is held.table c.args.code c.args.mpn n found some, c.set_page.ensures.pmap)
          (left_ties g.H.HashFunction.hash_of (pmap_of held) held.frames held.table (notes_of held) c.args.page.guest c.args.page.ppn
          c.args.page.salt c.args.mpn c.args.code n c.requires.whole.ties c.requires.page found some);
      few = rw c.set_page.ensures.pmap (few_after _ c.args.page.guest c.args.page.ppn _ c.requires.whole.few);
      total = c.requires.whole.total;
      hints = rw (c.leave.ensures.left, one_less_is held.table c.args.code c.args.mpn n found some) c.requires.whole.hints;
    }

pub returns-clause-page : goal.returns-clause-page
returns-clause-page g c = rw c.set_page.ensures.pmap (at_same (pmap_of c.args.held.now) c.args.page.guest c.args.page.ppn c.args.page.salt _ _ c.requires.page)

pub returns-clause-guests : goal.returns-clause-guests
returns-clause-guests g c =
    let held = c.args.held.now in
    let n : ℕ = c.args.count - 1 in
    let some : 1 ≤ n = omega (arith, c.requires.several) in
    let more : c.args.count ≡ n + 1 = omega (arith, c.requires.several) in
    let found : shared_at held.table c.args.code ≡ Some (record { mpn = c.args.mpn; count = n + 1 }) = c.requires.found ∙ ap (λ (x : ℕ). let f : SharedFrame = record { mpn = c.args.mpn; count = x } in Some f) more in
    rw c.set_page.ensures.pmap (left_guests g.H.HashFunction.hash_of (pmap_of held) held.frames held.table (notes_of held) c.args.page.guest c.args.page.ppn c.args.page.salt c.args.mpn c.args.code n c.requires.whole.ties c.requires.page found some)
