use Rattle.window_tables.proofs.Pinned.{pins_counted}
use Rattle.window_tables.proofs.pins.laws.pin_law.Goals as goal

pub returns : goal.returns
returns c = pins_counted
