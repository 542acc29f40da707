use Rattle.std.proofs.Common.{refl}
use Rattle.page_model.proofs.Places.{at_same}
use Rattle.merge_core.specs.View.{pmap_of, notes_of}
use Rattle.merge_core.proofs.SharedChanges.{kept_ties, kept_guests, last_less_is}
use Rattle.merge_core.proofs.Limits.{few_after}
use Rattle.page_model.specs.Pages.{Shared}
use Rattle.merge_core.proofs.Fitting.{page_fits}
use Rattle.merge_core.proofs.moves.keep.Goals as goal

pub leave-requires : goal.leave-requires
leave-requires g c = record { present = rw c.requires.found refl }

pub set_page-requires-clause-fits : goal.set_page-requires-clause-fits
set_page-requires-clause-fits g c = page_fits g.H.HashFunction.hash_of c.args.held.now c.args.page.guest c.args.page.ppn c.args.page.salt c.args.mpn (Shared c.args.mpn) c.requires.whole c.requires.page refl

pub returns-clause-whole : goal.returns-clause-whole
returns-clause-whole g c =
    let held = c.args.held.now in
    record {
      ties =
          rw (c.leave.ensures.left, last_less_is held.table c.args.code c.args.mpn c.requires.found, c.set_page.ensures.pmap)
          (kept_ties g.H.HashFunction.hash_of (pmap_of held) held.frames held.table (notes_of held) c.args.page.guest c.args.page.ppn
          c.args.page.salt c.args.mpn c.args.code c.requires.whole.ties c.requires.page c.requires.found);
      few = rw c.set_page.ensures.pmap (few_after _ c.args.page.guest c.args.page.ppn _ c.requires.whole.few);
      total = c.requires.whole.total;
      hints = rw (c.leave.ensures.left, last_less_is held.table c.args.code c.args.mpn c.requires.found) c.requires.whole.hints;
    }

pub returns-clause-page : goal.returns-clause-page
returns-clause-page g c = rw c.set_page.ensures.pmap (at_same (pmap_of c.args.held.now) c.args.page.guest c.args.page.ppn c.args.page.salt _ _ c.requires.page)

pub returns-clause-guests : goal.returns-clause-guests
returns-clause-guests g c =
    let held = c.args.held.now in
    rw c.set_page.ensures.pmap (kept_guests g.H.HashFunction.hash_of (pmap_of held) held.frames held.table (notes_of held) c.args.page.guest c.args.page.ppn c.args.page.salt c.args.mpn c.args.code c.requires.whole.ties c.requires.page c.requires.found)
