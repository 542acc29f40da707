use Rattle.merge_core.proofs.FrameLemmas.{known_same, taken_within}
use Rattle.std.proofs.Common.{◌<◌, length, Some, refl, arith}
use Rattle.merge_core.specs.View.{pmap_of, notes_of}
use Rattle.merge_core.proofs.Changes.{learnt_ties}
use Rattle.merge_core.proofs.hashing.learn.Goals as goal

pub returns-clause-kept : goal.returns-clause-kept
returns-clause-kept g c =
    let held = c.args.held.now in
    let hash = g.H.HashFunction.hash_of in
    let ties =
    learnt_ties
    hash
    (pmap_of held)
    held.frames
    held.table
    (notes_of held)
    c.args.mpn
    c.args.salt
    c.args.code
    c.requires.whole.ties
    c.requires.taken
    c.requires.salt
    c.requires.code in
    record {
      whole = record {
        ties = rw c.learn.ensures.notes ties;
        few = c.requires.whole.few;
        total = c.requires.whole.total;
        hints = c.requires.whole.hints;
      };
      frames = refl;
      table = refl;
      pmap = refl;
    }

pub returns-clause-known : goal.returns-clause-known
returns-clause-known g c =
    let held = c.args.held.now in
    let within : c.args.mpn < length (notes_of held) = omega (arith, c.requires.whole.ties.noted.len, taken_within held.frames c.args.mpn c.requires.taken) in
    rw c.learn.ensures.notes (known_same (notes_of held) c.args.mpn (record { salt = c.args.salt; hash = Some c.args.code }) within)
