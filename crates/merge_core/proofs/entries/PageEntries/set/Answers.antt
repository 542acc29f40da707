use Rattle.std.proofs.Common.{◌∙◌, set, ap}
use Rattle.std.proofs.lemmas.List.{map-set}
use Rattle.merge_core.specs.declared.held.PageEntry.{PageEntry}
use Rattle.merge_core.specs.PackedPages.{unpacked, entries_in}
use Rattle.merge_core.proofs.entries.PageEntries.set.Goals as goal

pub returns : goal.returns
returns g c =
    let pages = c.self.inside.pages in
    let n = c.args.ppn in
    rw (← c.self.view_is, c.set.ensures) (map-set unpacked pages n c.of.result ∙ ap (λ (e : PageEntry). set (entries_in pages) n e) c.of.ensures)
