use Rattle.std.proofs.Common.{refl}
use Rattle.process_lender.proofs.Wholes.{sets_whole}
use Rattle.process_lender.proofs.tables.WindowTables.set_whole.Goals as goal

pub returns : goal.returns
returns g c =
    sets_whole c.args.first c.args.is_whole c.set_in-is_set.result c.args.mappings.now c.set_in-is_set.new.mappings c.keep.new.mappings _ c.args.self.now _ c.deref.result.now c.self.view_is c.deref.ensures.value
    c.set_in-is_set.ensures c.keep.ensures refl
