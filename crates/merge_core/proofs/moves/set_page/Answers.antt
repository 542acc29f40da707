use Rattle.merge_core.proofs.ViewLemmas.{set_guest_read}
use Rattle.merge_core.proofs.moves.set_page.Goals as goal

pub returns : goal.returns
returns g c = record { pmap = rw c.set.ensures (set_guest_read c.args.guests.now.items c.args.page.guest c.args.page.ppn c.args.entry c.index_mut-g.result.now c.index_mut-g.ensures.value) }
