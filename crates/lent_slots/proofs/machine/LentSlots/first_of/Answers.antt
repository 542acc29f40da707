use Rattle.std.proofs.Common.{◌≡◌, Some, None, sym, ◌∙◌}
use Rattle.std.specs.Prelude.{position}
use Rattle.lent_slots.specs.Slots.{is_of}
use Rattle.lent_slots.specs.Noted.{first_from}
use Rattle.lent_slots.specs.Tags.{slots_of}
use Rattle.lent_slots.proofs.Noted.{first_is, found_within, noted_start, place_none, place_some}
use Rattle.lent_slots.proofs.machine.LentSlots.first_of.Goals as goal

pub invariant_of-self : goal.invariant_of-self
invariant_of-self g c =
    let m = c.self.inside in
    let from : c.find_from.result ≡ first_from c.args.client c.in-Some.start (slots_of m.core.pmap m.tags) = c.find_from.ensures in
    let found : position (is_of c.args.client) (slots_of m.core.pmap m.tags) ≡ Some c.in-Some-find_from.ppn =
    first_is c.args.client c.in-Some.start (slots_of m.core.pmap m.tags) (place_some (slots_of m.core.pmap m.tags) m.clients.items c.args.client c.in-Some.start c.self.invariant.1 (sym c.place_of.ensures ∙ c.in-Some.is))
    ∙ sym from ∙ c.in-Some-find_from.is in
    rw c.note_start.ensures (c.self.invariant.0, noted_start (slots_of m.core.pmap m.tags) m.clients.items c.args.client c.in-Some-find_from.ppn c.self.invariant.1 found)

pub returns-in-None-clause-slot : goal.returns-in-None-clause-slot
returns-in-None-clause-slot g c =
    let m = c.self.inside in
    rw (← c.self.view_is) (sym (place_none (slots_of m.core.pmap m.tags) m.clients.items c.args.client c.self.invariant.1 (sym c.place_of.ensures ∙ c.in-None.is)))

pub returns-in-None-find_from-clause-slot : goal.returns-in-None-find_from-clause-slot
returns-in-None-find_from-clause-slot g c =
    let m = c.self.inside in
    let from : c.find_from.result ≡ first_from c.args.client c.in-Some.start (slots_of m.core.pmap m.tags) = c.find_from.ensures in
    let found : position (is_of c.args.client) (slots_of m.core.pmap m.tags) ≡ None =
    first_is c.args.client c.in-Some.start (slots_of m.core.pmap m.tags) (place_some (slots_of m.core.pmap m.tags) m.clients.items c.args.client c.in-Some.start c.self.invariant.1 (sym c.place_of.ensures ∙ c.in-Some.is))
    ∙ sym from ∙ c.in-None-find_from.is in
    rw (← c.self.view_is) (sym found)

pub returns-in-Some-find_from-clause-slot : goal.returns-in-Some-find_from-clause-slot
returns-in-Some-find_from-clause-slot g c =
    let m = c.self.inside in
    let from : c.find_from.result ≡ first_from c.args.client c.in-Some.start (slots_of m.core.pmap m.tags) = c.find_from.ensures in
    let found : position (is_of c.args.client) (slots_of m.core.pmap m.tags) ≡ Some c.in-Some-find_from.ppn =
    first_is c.args.client c.in-Some.start (slots_of m.core.pmap m.tags) (place_some (slots_of m.core.pmap m.tags) m.clients.items c.args.client c.in-Some.start c.self.invariant.1 (sym c.place_of.ensures ∙ c.in-Some.is))
    ∙ sym from ∙ c.in-Some-find_from.is in
    rw (← c.self.view_is) (sym found)

pub returns-in-Some-find_from-clause-within : goal.returns-in-Some-find_from-clause-within
returns-in-Some-find_from-clause-within g c =
    let m = c.self.inside in
    let found : position (is_of c.args.client) (slots_of m.core.pmap m.tags) ≡ Some c.in-Some-find_from.ppn =
    first_is c.args.client c.in-Some.start (slots_of m.core.pmap m.tags) (place_some (slots_of m.core.pmap m.tags) m.clients.items c.args.client c.in-Some.start c.self.invariant.1 (sym c.place_of.ensures ∙ c.in-Some.is))
    ∙ sym c.find_from.ensures ∙ c.in-Some-find_from.is in
    rw (← c.self.view_is) (found_within c.args.client c.in-Some-find_from.ppn (slots_of m.core.pmap m.tags) found)
