use Rattle.std.proofs.Common.{Some, refl, arith}
use Rattle.page_model.proofs.Places.{at_same}
use Rattle.merge_core.specs.View.{pmap_of, notes_of}
use Rattle.merge_core.proofs.Changes.{dropped_ties, dropped_guests}
use Rattle.merge_core.proofs.Limits.{few_after}
use Rattle.share_table.proofs.Maps.{len_gone}
use Rattle.page_model.specs.Pages.{Private}
use Rattle.merge_core.proofs.Fitting.{page_fits}
use Rattle.merge_core.proofs.moves.drop_hint.Goals as goal

pub drop_hint-requires : goal.drop_hint-requires
drop_hint-requires g c = record { present = rw (c.requires.whole.ties.hinted.there c.args.page.guest c.args.page.ppn c.args.page.salt c.args.mpn c.args.key c.requires.page) refl }

pub set_page-requires-clause-fits : goal.set_page-requires-clause-fits
set_page-requires-clause-fits g c = page_fits g.H.HashFunction.hash_of c.args.held.now c.args.page.guest c.args.page.ppn c.args.page.salt c.args.mpn (Private c.args.mpn (Some c.args.key)) c.requires.whole c.requires.page refl

pub returns-clause-whole : goal.returns-clause-whole
returns-clause-whole g c =
    let held = c.args.held.now in
    record {
      ties =
          rw (c.drop_hint.ensures, c.set_page.ensures.pmap)
          (dropped_ties g.H.HashFunction.hash_of (pmap_of held) held.frames held.table (notes_of held) c.args.page.guest c.args.page.ppn
          c.args.page.salt c.args.mpn c.args.key c.requires.whole.ties c.requires.page);
      few = rw c.set_page.ensures.pmap (few_after _ c.args.page.guest c.args.page.ppn _ c.requires.whole.few);
      total = c.requires.whole.total;
      hints =
          rw c.drop_hint.ensures (omega (
            arith,
            c.requires.whole.hints,
            len_gone held.table.hints c.args.key _
                (c.requires.whole.ties.hinted.there c.args.page.guest c.args.page.ppn c.args.page.salt c.args.mpn c.args.key c.requires.page),
          ));
    }

pub returns-clause-page : goal.returns-clause-page
returns-clause-page g c = rw c.set_page.ensures.pmap (at_same (pmap_of c.args.held.now) c.args.page.guest c.args.page.ppn c.args.page.salt _ _ c.requires.page)

pub returns-clause-guests : goal.returns-clause-guests
returns-clause-guests g c =
    let held = c.args.held.now in
    rw c.set_page.ensures.pmap (dropped_guests g.H.HashFunction.hash_of (pmap_of held) held.frames held.table (notes_of held) c.args.page.guest c.args.page.ppn c.args.page.salt c.args.mpn c.args.key c.requires.whole.ties c.requires.page)

pub overflow_sub-held : goal.overflow_sub-held
overflow_sub-held g c =
    let held = c.args.held.now in
    omega (arith, c.requires.whole.hints, len_gone held.table.hints c.args.key _ (c.requires.whole.ties.hinted.there c.args.page.guest c.args.page.ppn c.args.page.salt c.args.mpn c.args.key c.requires.page))
