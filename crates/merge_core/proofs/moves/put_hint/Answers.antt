use Rattle.std.proofs.Common.{refl, arith}
use Rattle.page_model.proofs.Places.{at_same}
use Rattle.merge_core.specs.View.{pmap_of, notes_of}
use Rattle.std.proofs.Common.{None}
use Rattle.page_model.specs.Pages.{Private}
use Rattle.merge_core.proofs.FrameLemmas.{taken_within}
use Rattle.merge_core.proofs.Holders.{room_for}
use Rattle.merge_core.proofs.Changes.{put_ties, put_guests}
use Rattle.merge_core.proofs.Limits.{few_after, place_few, hints_few}
use Rattle.share_table.proofs.Maps.{len_new}
use Rattle.merge_core.proofs.Fitting.{page_fits}
use Rattle.merge_core.proofs.moves.put_hint.Goals as goal

pub put_hint-requires-clause-room : goal.put_hint-requires-clause-room
put_hint-requires-clause-room g c =
    let held = c.args.held.now in
    room_for g.H.HashFunction.hash_of (pmap_of held) held.frames held.table (notes_of held) c.args.page.guest c.args.page.ppn c.args.page.salt c.args.mpn c.requires.whole.ties c.requires.page

pub put_hint-requires-clause-ppn : goal.put_hint-requires-clause-ppn
put_hint-requires-clause-ppn g c =
    let p = place_few (pmap_of c.args.held.now) c.args.page.guest c.args.page.ppn c.args.page.salt _ c.requires.page in
    omega (arith, p.1, c.requires.whole.few.pages)

pub put_hint-requires-clause-mpn : goal.put_hint-requires-clause-mpn
put_hint-requires-clause-mpn g c =
    let held = c.args.held.now in
    omega (arith, c.requires.whole.total, taken_within held.frames c.args.mpn (c.requires.whole.ties.placed.taken c.args.page.guest c.args.page.ppn c.args.page.salt (Private c.args.mpn None) c.args.mpn c.requires.page refl))

pub set_page-requires-clause-fits : goal.set_page-requires-clause-fits
set_page-requires-clause-fits g c = page_fits g.H.HashFunction.hash_of c.args.held.now c.args.page.guest c.args.page.ppn c.args.page.salt c.args.mpn (Private c.args.mpn None) c.requires.whole c.requires.page refl

pub returns-clause-whole : goal.returns-clause-whole
returns-clause-whole g c =
    let held = c.args.held.now in
    record {
      ties =
          rw (c.put_hint.ensures, c.set_page.ensures.pmap)
          (put_ties g.H.HashFunction.hash_of (pmap_of held) held.frames held.table (notes_of held) c.args.page.guest c.args.page.ppn
          c.args.page.salt c.args.mpn c.args.key c.requires.whole.ties c.requires.page c.requires.absent);
      few = rw c.set_page.ensures.pmap (few_after _ c.args.page.guest c.args.page.ppn _ c.requires.whole.few);
      total = c.requires.whole.total;
      hints =
          rw c.put_hint.ensures (omega (
            arith,
            c.requires.whole.hints,
            len_new held.table.hints c.args.key
                (record { guest = c.args.page.guest; ppn = c.args.page.ppn; mpn = c.args.mpn }) c.requires.absent,
          ));
    }

pub returns-clause-page : goal.returns-clause-page
returns-clause-page g c = rw c.set_page.ensures.pmap (at_same (pmap_of c.args.held.now) c.args.page.guest c.args.page.ppn c.args.page.salt _ _ c.requires.page)

pub returns-clause-guests : goal.returns-clause-guests
returns-clause-guests g c =
    let held = c.args.held.now in
    rw c.set_page.ensures.pmap (put_guests g.H.HashFunction.hash_of (pmap_of held) held.frames held.table (notes_of held) c.args.page.guest c.args.page.ppn c.args.page.salt c.args.mpn c.args.key c.requires.whole.ties c.requires.page c.requires.absent)

pub overflow_cast-page-2 : goal.overflow_cast-page-2
overflow_cast-page-2 g c =
    let p = place_few (pmap_of c.args.held.now) c.args.page.guest c.args.page.ppn c.args.page.salt _ c.requires.page in
    omega (arith, p.1, c.requires.whole.few.pages)

pub overflow_add-held : goal.overflow_add-held
overflow_add-held g c =
    let held = c.args.held.now in
    omega (arith, c.requires.whole.hints, hints_few g.H.HashFunction.hash_of (pmap_of held) held.frames held.table (notes_of held) c.requires.whole.ties c.requires.whole.few)
