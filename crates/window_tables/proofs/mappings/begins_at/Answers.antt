use Rattle.std.proofs.Common.{arith}
use Rattle.window_tables.proofs.Differences.{begins_behind}
use Rattle.window_tables.proofs.mappings.begins_at.Goals as goal

pub returns : goal.returns
returns c =
    begins_behind c.args.lead c.args.parts.now c.args.pages.now c.args.place _ _ _ _ (omega (arith, c.if-place-pages.false)) c.if-place-eq0.false c.is_whole.ensures c.is_whole-2.ensures c.is_one-is_one.ensures
