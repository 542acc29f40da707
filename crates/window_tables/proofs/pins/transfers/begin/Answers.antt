use Rattle.std.proofs.Common.{◌∙◌, sym}
use Rattle.window_tables.proofs.PinPlaces.{none_free}
use Rattle.window_tables.proofs.pins.transfers.begin.Goals as goal

pub returns-in-None-clause-place : goal.returns-in-None-clause-place
returns-in-None-clause-place c = none_free c.args.table.now (sym c.first_free.ensures ∙ c.in-None.is)
