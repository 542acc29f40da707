use Rattle.merge_core.specs.View.{pmap_of, notes_of}
use Rattle.merge_core.proofs.Facts.{table_of_pages}
use Rattle.merge_core.proofs.machine.Core.table.Goals as goal

pub returns-clause-pages : goal.returns-clause-pages
returns-clause-pages g c =
    let held = c.self.inside.held in
    rw (← c.self.view_is) (table_of_pages g.H.HashFunction.hash_of c.self.inside.entries (pmap_of held) held.frames held.table (notes_of held) c.self.invariant.ties)
