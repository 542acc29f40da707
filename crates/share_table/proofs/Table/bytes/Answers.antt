use Rattle.std.proofs.Common.{arith}
use Rattle.share_table.proofs.Table.bytes.Goals as goal

pub returns-clause-exact : goal.returns-clause-exact
returns-clause-exact g c = rw (← c.self.view_is) (record { heads = _; buckets = c.self.invariant.filed.buckets; is = c.bytes.ensures })

pub returns-clause-most : goal.returns-clause-most
returns-clause-most g c = rw (← c.self.view_is) (omega (arith, c.bytes.ensures, c.self.invariant.filed.buckets.within))
