use Rattle.std.proofs.Common.{◌∙◌, ap}
use Rattle.merge_core.specs.PackedPages.{unpacked, entries_in}
use Rattle.merge_core.proofs.Repeated.{map_equal}
use Rattle.merge_core.proofs.entries.PageEntries.new.Goals as goal

pub returns : goal.returns
returns g c = ap entries_in c.in_ok-pages.ensures ∙ map_equal unpacked c.args.pages (record { word = 0; hint = 0 })
