use Rattle.merge_core.proofs.Lends.{known_under}
use Rattle.merge_core.proofs.lending.lend.Goals as goal

pub lend_unmapped-requires-clause-known : goal.lend_unmapped-requires-clause-known
lend_unmapped-requires-clause-known g c κs live = known_under g.H.HashFunction.hash_of c.args.bytes.now _ c.args.known c.under_salt-known.result c.under_salt-known.ensures c.requires.known

pub lend_private-requires-clause-known : goal.lend_private-requires-clause-known
lend_private-requires-clause-known g c κs live = known_under g.H.HashFunction.hash_of c.args.bytes.now _ c.args.known c.under_salt-known.result c.under_salt-known.ensures c.requires.known

pub lend_shared-requires-clause-known : goal.lend_shared-requires-clause-known
lend_shared-requires-clause-known g c κs live = known_under g.H.HashFunction.hash_of c.args.bytes.now _ c.args.known c.under_salt-known.result c.under_salt-known.ensures c.requires.known
