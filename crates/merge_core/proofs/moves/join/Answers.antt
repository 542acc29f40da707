use Rattle.std.proofs.Common.{ℕ, ◌+◌}
use Rattle.share_table.specs.TableMaps.{count_at}
use Rattle.merge_core.specs.View.{pmap_of, notes_of}
use Rattle.merge_core.proofs.Limits.{few_after, references_few}
use Rattle.merge_core.proofs.SharedChanges.{joined_ties, joined_guests, joined_peers, with_count_is}
use Rattle.merge_core.proofs.Fitting.{shared_fits}
use Rattle.merge_core.proofs.moves.join.Goals as goal

pub join-count-requires-clause-references : goal.join-count-requires-clause-references
join-count-requires-clause-references g c =
    let held = c.args.held.now in
    references_few g.H.HashFunction.hash_of (pmap_of held) held.frames held.table (notes_of held) c.requires.whole.ties c.requires.whole.few c.args.page.guest c.args.page.ppn c.args.page.salt c.requires.page

pub set_page-requires-clause-fits : goal.set_page-requires-clause-fits
set_page-requires-clause-fits g c = shared_fits g.H.HashFunction.hash_of c.args.held.now c.args.code (record { mpn = c.args.mpn; count = count_at c.args.held.now.table c.args.code }) c.requires.whole c.requires.found

pub returns-clause-whole : goal.returns-clause-whole
returns-clause-whole g c =
    let held = c.args.held.now in
    let n : ℕ = count_at held.table c.args.code in
    record {
      ties =
          rw (
            c.join-count.ensures.joined,
            with_count_is held.table c.args.code c.args.mpn n (n + 1) c.requires.found,
            c.set_page.ensures.pmap,
          ) (joined_ties g.H.HashFunction.hash_of (pmap_of held) held.frames held.table (notes_of held)
          c.args.page.guest c.args.page.ppn c.args.page.salt c.args.mpn c.args.code n c.requires.whole.ties c.requires.page c.requires.found
          c.requires.salt);
      few = rw c.set_page.ensures.pmap (few_after _ c.args.page.guest c.args.page.ppn _ c.requires.whole.few);
      total = c.requires.whole.total;
      hints = rw c.join-count.ensures.joined c.requires.whole.hints;
    }

pub returns-clause-count : goal.returns-clause-count
returns-clause-count g c =
    let held = c.args.held.now in
    rw (c.join-count.ensures.count, c.set_page.ensures.pmap)
    (joined_peers g.H.HashFunction.hash_of (pmap_of held) held.frames held.table (notes_of held) c.args.page.guest c.args.page.ppn
    c.args.page.salt c.args.mpn c.args.code (count_at held.table c.args.code) c.requires.whole.ties c.requires.page c.requires.found
    c.requires.salt)

pub returns-clause-guests : goal.returns-clause-guests
returns-clause-guests g c =
    let held = c.args.held.now in
    rw c.set_page.ensures.pmap
    (joined_guests g.H.HashFunction.hash_of (pmap_of held) held.frames held.table (notes_of held) c.args.page.guest c.args.page.ppn
    c.args.page.salt c.args.mpn c.args.code (count_at held.table c.args.code) c.requires.whole.ties c.requires.page c.requires.found
    c.requires.salt)
