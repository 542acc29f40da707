use Rattle.std.proofs.Common.{sym, ◌∙◌, ap}
use Rattle.std.proofs.lemmas.List.{length-map}
use Rattle.std.specs.FinMap.{len}
use Rattle.share_table.specs.Stored.{wide_pair}
use Rattle.share_table.proofs.Pairs.{len-from_entries}
use Rattle.share_table.proofs.wide.WideCounts.len.Goals as goal

pub returns-clause-value : goal.returns-clause-value
returns-clause-value c =
    c.len.ensures.value ∙ sym (ap len (sym c.self.view_is) ∙ len-from_entries _ c.self.invariant ∙ length-map c.self.inside.entries.items wide_pair)
