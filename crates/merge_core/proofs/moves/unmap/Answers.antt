use Rattle.std.proofs.Common.{arith}
use Rattle.page_model.proofs.Places.{at_same}
use Rattle.merge_core.specs.View.{pmap_of, notes_of}
use Rattle.merge_core.proofs.Changes.{unmapped_ties, unmapped_guests, less_is_taken}
use Rattle.merge_core.proofs.Limits.{few_after}
use Rattle.std.proofs.lemmas.List.{length-set}
use Rattle.std.proofs.Common.{None}
use Rattle.merge_core.proofs.moves.unmap.Goals as goal

pub give_back-requires : goal.give_back-requires
give_back-requires g c = let held = c.args.held.now in less_is_taken g.H.HashFunction.hash_of (pmap_of held) held.frames held.table (notes_of held) c.args.page.guest c.args.page.ppn c.args.page.salt c.args.mpn c.requires.whole.ties c.requires.page

pub returns-clause-whole : goal.returns-clause-whole
returns-clause-whole g c =
    let held = c.args.held.now in
    record {
      ties =
          rw (c.give_back.ensures, c.set_page.ensures.pmap)
          (unmapped_ties g.H.HashFunction.hash_of (pmap_of held) held.frames held.table (notes_of held) c.args.page.guest c.args.page.ppn
          c.args.page.salt c.args.mpn c.requires.whole.ties c.requires.page);
      few = rw c.set_page.ensures.pmap (few_after _ c.args.page.guest c.args.page.ppn _ c.requires.whole.few);
      total = rw c.give_back.ensures (omega (arith, c.requires.whole.total, length-set held.frames c.args.mpn None));
      hints = c.requires.whole.hints;
    }

pub returns-clause-page : goal.returns-clause-page
returns-clause-page g c = rw c.set_page.ensures.pmap (at_same (pmap_of c.args.held.now) c.args.page.guest c.args.page.ppn c.args.page.salt _ _ c.requires.page)

pub returns-clause-guests : goal.returns-clause-guests
returns-clause-guests g c =
    let held = c.args.held.now in
    rw (c.give_back.ensures, c.set_page.ensures.pmap) (unmapped_guests g.H.HashFunction.hash_of (pmap_of held) held.frames held.table (notes_of held) c.args.page.guest c.args.page.ppn c.args.page.salt c.args.mpn c.requires.whole.ties c.requires.page)
