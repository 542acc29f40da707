use Rattle.std.proofs.Common.{refl, arith}
use Rattle.merge_core.specs.View.{pmap_of, notes_of}
use Rattle.merge_core.proofs.Holders.{room_for}
use Rattle.std.proofs.Common.{None}
use Rattle.page_model.specs.Pages.{Private}
use Rattle.merge_core.proofs.FrameLemmas.{taken_within}
use Rattle.merge_core.proofs.Limits.{few_after, references_two}
use Rattle.merge_core.proofs.SharedChanges.{paired_ties, paired_guests, still_there}
use Rattle.merge_core.proofs.Fitting.{page_fits}
use Rattle.merge_core.proofs.moves.share.Goals as goal

pub add_shared-requires-clause-room : goal.add_shared-requires-clause-room
add_shared-requires-clause-room g c =
    let held = c.args.held.now in
    room_for g.H.HashFunction.hash_of (pmap_of held) held.frames held.table (notes_of held) c.args.first.guest c.args.first.ppn c.args.first.salt c.args.mpn c.requires.whole.ties c.requires.first

pub add_shared-requires-clause-references : goal.add_shared-requires-clause-references
add_shared-requires-clause-references g c =
    let held = c.args.held.now in
    references_two g.H.HashFunction.hash_of (pmap_of held) held.frames held.table (notes_of held) c.requires.whole.ties c.requires.whole.few c.args.first.guest c.args.first.ppn c.args.second.guest c.args.second.ppn c.args.first.salt c.args.first.salt c.args.mpn c.requires.first c.requires.second

pub add_shared-requires-clause-mpn : goal.add_shared-requires-clause-mpn
add_shared-requires-clause-mpn g c =
    let held = c.args.held.now in
    omega (arith, c.requires.whole.total, taken_within held.frames c.args.mpn (c.requires.whole.ties.placed.taken c.args.first.guest c.args.first.ppn c.args.first.salt (Private c.args.mpn None) c.args.mpn c.requires.first refl))

pub set_page-requires-clause-there : goal.set_page-requires-clause-there
set_page-requires-clause-there g c = rw c.requires.first refl

pub set_page-requires-clause-fits : goal.set_page-requires-clause-fits
set_page-requires-clause-fits g c = page_fits g.H.HashFunction.hash_of c.args.held.now c.args.first.guest c.args.first.ppn c.args.first.salt c.args.mpn (Private c.args.mpn None) c.requires.whole c.requires.first refl

pub set_page-requires-2-clause-there : goal.set_page-requires-2-clause-there
set_page-requires-2-clause-there g c =
    let held = c.args.held.now in
    let still =
    still_there g.H.HashFunction.hash_of (pmap_of held) held.frames held.table (notes_of held) c.args.first.guest c.args.first.ppn
    c.args.first.salt c.args.mpn c.args.second.guest c.args.second.ppn c.args.code c.requires.whole.ties c.requires.first
    c.requires.second c.requires.absent c.requires.code in
    rw (c.set_page.ensures.pmap, still) refl

pub set_page-requires-2-clause-fits : goal.set_page-requires-2-clause-fits
set_page-requires-2-clause-fits g c = page_fits g.H.HashFunction.hash_of c.args.held.now c.args.first.guest c.args.first.ppn c.args.first.salt c.args.mpn (Private c.args.mpn None) c.requires.whole c.requires.first refl

pub returns-clause-whole : goal.returns-clause-whole
returns-clause-whole g c =
    let held = c.args.held.now in
    record {
      ties =
          rw (c.add_shared.ensures, c.set_page-2.ensures.pmap, c.set_page.ensures.pmap)
          (paired_ties g.H.HashFunction.hash_of (pmap_of held) held.frames held.table (notes_of held) c.args.first.guest c.args.first.ppn
          c.args.first.salt c.args.mpn c.args.second.guest c.args.second.ppn c.args.code c.requires.whole.ties c.requires.first
          c.requires.second c.requires.absent c.requires.code);
      few = rw (c.set_page-2.ensures.pmap, c.set_page.ensures.pmap) (few_after _ c.args.second.guest c.args.second.ppn _ (few_after _ c.args.first.guest c.args.first.ppn _ c.requires.whole.few));
      total = c.requires.whole.total;
      hints = rw c.add_shared.ensures c.requires.whole.hints;
    }

pub returns-clause-guests : goal.returns-clause-guests
returns-clause-guests g c =
    let held = c.args.held.now in
    rw (c.set_page-2.ensures.pmap, c.set_page.ensures.pmap)
    (paired_guests g.H.HashFunction.hash_of (pmap_of held) held.frames held.table (notes_of held) c.args.first.guest c.args.first.ppn
    c.args.first.salt c.args.mpn c.args.second.guest c.args.second.ppn c.args.code c.requires.whole.ties c.requires.first
    c.requires.second c.requires.absent c.requires.code)
