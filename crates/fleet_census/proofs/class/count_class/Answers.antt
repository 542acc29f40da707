use Rattle.std.proofs.Common.{arith, refl}
use Rattle.fleet_census.proofs.Classed.{classes_more}
use Rattle.fleet_census.proofs.class.count_class.Goals as goal

pub returns : goal.returns
returns c some number within =
    classes_more c.args.content.now c.args.classes.now c.class_of.result _ some (c.class_of.ensures.is some) (omega (arith, c.requires, c.class_of.ensures.within)) (rw (c.add.ensures, c.add-2.ensures, c.is_zeros-is_zeros.ensures) refl) number
