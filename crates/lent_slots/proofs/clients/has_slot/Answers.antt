use Rattle.std.proofs.Common.{sym}
use Rattle.std.proofs.lemmas.Option.{get_or_from_slice_get}
use Rattle.lent_slots.proofs.Tags.{not_of}
use Rattle.lent_slots.proofs.clients.has_slot.Goals as goal

pub returns-then-get-client : goal.returns-then-get-client
returns-then-get-client g c =
    not_of c.args.core.now.pmap c.args.tags.now c.args.ppn c.get.result c.args.client c.requires.within
    (sym (get_or_from_slice_get c.args.tags.now c.args.ppn c.get.result 0 c.get.ensures)) c.if-get-client.true
