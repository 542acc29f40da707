use Rattle.std.proofs.Common.{arith}
use Rattle.memory_pages.proofs.Splits.{parts_hold, part_has}
use Rattle.memory_pages.proofs.split.split_among.Goals as goal

pub returns-clause-all : goal.returns-clause-all
returns-clause-all c = parts_hold c.args.count c.max-size.result _ (omega (arith, c.max-size.ensures)) c.div_ceil-parts.ensures

pub returns-clause-begins : goal.returns-clause-begins
returns-clause-begins c = λ n lt. part_has c.args.count c.max-size.result _ n (omega (arith, c.max-size.ensures)) c.div_ceil-parts.ensures lt
