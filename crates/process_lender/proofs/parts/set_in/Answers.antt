use Rattle.std.proofs.Common.{◌≡◌, arith, length, refl}
use Rattle.std.proofs.lemmas.List.{with_items_is}
use Rattle.process_lender.proofs.Wholes.{sets_part}
use Rattle.process_lender.proofs.parts.set_in.Goals as goal

pub returns : goal.returns
returns g c =
    let long : length c.set_whole.new.wholes ≡ c.args.parts.now.len = omega (arith, c.set_whole.auto.wholes, c.deref_mut.ensures.len) in
    sets_part 512 c.args.first c.args.is_whole c.set_whole.result c.args.lead c.args.mappings.now c.set_whole.new.mappings c.args.pages.now c.deref_mut.result.now c.args.parts.now.items c.set_whole.new.wholes _
    refl c.deref_mut.ensures.value (with_items_is c.args.parts.now c.set_whole.new.wholes long) c.set_whole.ensures.set c.set_whole.ensures.whole c.set_whole.ensures.mappings c.set_whole.ensures.same_parts c.set_whole.ensures.same
