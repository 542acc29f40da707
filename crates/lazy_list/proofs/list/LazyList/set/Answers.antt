use Rattle.lazy_list.proofs.Padded.{set_reached}
use Rattle.lazy_list.proofs.list.LazyList.set.Goals as goal

pub returns : goal.returns
returns g c =
    let inside = c.self.inside in
    rw (← c.self.view_is) (set_reached inside.len inside.reached.items c.lengthen.new.list.items c.args.index inside.rest c.args.item c.self.invariant.0 (rw (← c.self.view_is) at c.requires) c.lengthen.ensures.items)
