use Rattle.std.proofs.Common.{arith}
use Rattle.window_tables.proofs.Behind.{none_begins_at}
use Rattle.window_tables.proofs.changes.begin_at.Goals as goal

pub returns-else-place-pages : goal.returns-else-place-pages
returns-else-place-pages c = none_begins_at c.args.place c.args.pages.now (omega (arith, c.if-place-pages.false))
