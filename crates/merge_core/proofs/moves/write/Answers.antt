use Rattle.std.proofs.Common.{refl, arith, Some}
use Rattle.page_model.specs.Pages.{written}
use Rattle.merge_core.specs.Pmap.{bytes_in}
use Rattle.merge_core.specs.View.{pmap_of, notes_of}
use Rattle.merge_core.proofs.FrameLemmas.{bytes_are, bytes_same, taken_within}
use Rattle.merge_core.proofs.Changes.{written_ties, written_guests, write_within}
use Rattle.std.proofs.lemmas.List.{length-set}
use Rattle.merge_core.proofs.moves.write.Goals as goal

pub forget-requires : goal.forget-requires
forget-requires g c =
    let held = c.args.held.now in
    let within = write_within g.H.HashFunction.hash_of (pmap_of held) held.frames held.table (notes_of held) c.args.page.guest c.args.page.ppn c.args.page.salt c.args.mpn c.args.hint (bytes_in held.frames c.args.mpn) c.requires.whole.ties c.requires.page in
    record { mpn = omega (arith, c.requires.whole.ties.noted.len, within) }

pub returns-clause-whole : goal.returns-clause-whole
returns-clause-whole g c =
    let held = c.args.held.now in
    let now = bytes_are held.frames c.args.mpn (c.requires.whole.ties.placed.taken _ _ _ _ c.args.mpn c.requires.page refl) in
    record {
      ties =
          rw (c.write.ensures, now, c.forget.ensures.notes)
          (written_ties g.H.HashFunction.hash_of (pmap_of held) held.frames held.table (notes_of held) c.args.page.guest c.args.page.ppn
          c.args.page.salt c.args.mpn c.args.hint (written (bytes_in held.frames c.args.mpn) c.args.at c.args.bytes.now)
          c.requires.whole.ties c.requires.page);
      few = c.requires.whole.few;
      total =
          rw (c.write.ensures, now) (omega (
            arith,
            c.requires.whole.total,
            length-set held.frames c.args.mpn
                (Some (written (bytes_in held.frames c.args.mpn) c.args.at c.args.bytes.now)),
          ));
      hints = c.requires.whole.hints;
    }

pub returns-clause-guests : goal.returns-clause-guests
returns-clause-guests g c =
    let held = c.args.held.now in
    let now = bytes_are held.frames c.args.mpn (c.requires.whole.ties.placed.taken _ _ _ _ c.args.mpn c.requires.page refl) in
    rw (c.write.ensures, now) (written_guests g.H.HashFunction.hash_of (pmap_of held) held.frames held.table (notes_of held)
    c.args.page.guest c.args.page.ppn c.args.page.salt c.args.mpn c.args.hint
    (written (bytes_in held.frames c.args.mpn) c.args.at c.args.bytes.now) c.requires.whole.ties c.requires.page)

pub returns-clause-bytes : goal.returns-clause-bytes
returns-clause-bytes g c =
    let held = c.args.held.now in
    let taken = c.requires.whole.ties.placed.taken _ _ _ _ c.args.mpn c.requires.page refl in
    rw (c.write.ensures, bytes_are held.frames c.args.mpn taken) (bytes_same held.frames c.args.mpn (written (bytes_in held.frames c.args.mpn) c.args.at c.args.bytes.now) (taken_within held.frames c.args.mpn taken))
