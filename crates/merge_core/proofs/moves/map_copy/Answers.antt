use Rattle.std.proofs.Common.{arith}
use Rattle.page_model.proofs.Places.{at_same}
use Rattle.merge_core.specs.Pmap.{bytes_in}
use Rattle.merge_core.specs.View.{pmap_of, notes_of}
use Rattle.merge_core.proofs.FrameLemmas.{bytes_same, bytes_are}
use Rattle.merge_core.proofs.Changes.{mapped_ties, mapped_guests}
use Rattle.merge_core.proofs.Limits.{few_after}
use Rattle.std.proofs.lemmas.List.{length-set}
use Rattle.machine_frames.specs.FrameMap.{frame}
use Rattle.merge_core.proofs.moves.map_copy.Goals as goal

pub forget-requires : goal.forget-requires
forget-requires g c = record { mpn = omega (arith, c.requires.whole.ties.noted.len, c.new_copy-mpn.ensures.within) }

pub set_page-requires-clause-fits : goal.set_page-requires-clause-fits
set_page-requires-clause-fits g c = omega (arith, c.new_copy-mpn.ensures.within, c.requires.whole.total)

pub returns-clause-whole : goal.returns-clause-whole
returns-clause-whole g c =
    let held = c.args.held.now in
    let e = c.new_copy-mpn.ensures in
    record {
      ties =
          rw (e.taken, bytes_are held.frames c.args.from c.requires.from, c.forget.ensures.notes, c.set_page.ensures.pmap)
          (mapped_ties g.H.HashFunction.hash_of (pmap_of held) held.frames held.table (notes_of held) c.args.page.guest c.args.page.ppn
          c.args.page.salt c.new_copy-mpn.result (bytes_in held.frames c.args.from) c.requires.whole.ties c.requires.page e.within e.free);
      few = rw c.set_page.ensures.pmap (few_after _ c.args.page.guest c.args.page.ppn _ c.requires.whole.few);
      total =
          rw e.taken (omega (arith, c.requires.whole.total, length-set held.frames c.new_copy-mpn.result (frame held.frames c.args.from)));
      hints = c.requires.whole.hints;
    }

pub returns-clause-bytes : goal.returns-clause-bytes
returns-clause-bytes g c =
    let held = c.args.held.now in
    rw (c.new_copy-mpn.ensures.taken, bytes_are held.frames c.args.from c.requires.from) (bytes_same held.frames c.new_copy-mpn.result (bytes_in held.frames c.args.from) c.new_copy-mpn.ensures.within)

pub returns-clause-page : goal.returns-clause-page
returns-clause-page g c = rw c.set_page.ensures.pmap (at_same (pmap_of c.args.held.now) c.args.page.guest c.args.page.ppn c.args.page.salt _ _ c.requires.page)

pub returns-clause-guests : goal.returns-clause-guests
returns-clause-guests g c =
    let held = c.args.held.now in
    let e = c.new_copy-mpn.ensures in
    rw (e.taken, bytes_are held.frames c.args.from c.requires.from, c.set_page.ensures.pmap)
    (mapped_guests g.H.HashFunction.hash_of (pmap_of held) held.frames held.table (notes_of held) c.args.page.guest c.args.page.ppn
    c.args.page.salt c.new_copy-mpn.result (bytes_in held.frames c.args.from) c.requires.whole.ties c.requires.page e.within e.free)
