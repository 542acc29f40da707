use Rattle.std.proofs.Common.{sym}
use Rattle.packed_entries.specs.declared.key.Key.TheVariants as keys
use Rattle.packed_entries.specs.Entries.{chain_of}
use Rattle.share_table.proofs.Chained.{shared_value}
use Rattle.share_table.proofs.searches.shared_entry.Goals as goal

pub returns-in-Some-clause-found : goal.returns-in-Some-clause-found
returns-in-Some-clause-found g c =
    shared_value c.args.hash (chain_of c.args.chains.now (keys.Shared c.args.hash)) c.in-Some.mpn c.in-Some.field (sym c.in-Some.ensures.found)
