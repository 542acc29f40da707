use Rattle.lent_slots.specs.Tags.{slots_of}
use Rattle.lent_slots.proofs.Owned.{taken_shared, shared_taken}
use Rattle.lent_slots.proofs.machine.LentSlots.frames.Goals as goal

pub returns-clause-slots : goal.returns-clause-slots
returns-clause-slots g c =
    rw (← c.self.view_is)
    (λ mpn. (
      λ taken. taken_shared c.self.inside.core (slots_of c.self.inside.core.pmap c.self.inside.tags) mpn c.self.invariant.0.fits c.frames.ensures.pages taken,
      λ some. shared_taken c.self.inside.core (slots_of c.self.inside.core.pmap c.self.inside.tags) mpn c.self.invariant.0.fits c.frames.ensures.pages some,
    ))
