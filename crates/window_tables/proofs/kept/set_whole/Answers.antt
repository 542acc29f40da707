use Rattle.std.proofs.Common.{rules, ◌≡◌, ◌∙◌, true, ap}
use Rattle.window_tables.specs.Mappings.{kept_then, mappings_at}
use Rattle.window_tables.proofs.kept.set_whole.Goals as goal

pub set_at-requires-clause-fits : goal.set_at-requires-clause-fits
set_at-requires-clause-fits c = let can : c.is_part-can.result ≡ true = search rules in c.is_part-can.ensures.fits can

pub set_at-requires-clause-within : goal.set_at-requires-clause-within
set_at-requires-clause-within c = let can : c.is_part-can.result ≡ true = search rules in c.is_part-can.ensures.within can

pub returns-clause-mappings : goal.returns-clause-mappings
returns-clause-mappings c = λ h.
    c.kept_then.ensures
    ∙ (ap (λ n. kept_then c.args.mappings.now n c.mappings_at-after.result) c.mappings_at-before.ensures.value
    ∙ ap (λ n. kept_then c.args.mappings.now (mappings_at c.args.lead c.args.wholes.now c.args.pages.now c.args.first 512) n) c.mappings_at-after.ensures.value)
