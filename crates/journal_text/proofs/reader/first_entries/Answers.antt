use Rattle.std.proofs.Common.{false}
use Rattle.std.proofs.lemmas.List.{take-replicate}
use Rattle.page_model.specs.declared.limits.TheConstants.{MAX_GUESTS}
use Rattle.journal_text.proofs.reader.first_entries.Goals as goal

pub returns-clause-value : goal.returns-clause-value
returns-clause-value g c = rw (take-replicate c.args.guests MAX_GUESTS false c.requires.guests) at c.entries.ensures.value
