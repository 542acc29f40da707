use Rattle.lending_laws.proofs.Slots.{no_slot_is_lost, none_is_released_shown}
use Rattle.lending_laws.proofs.one_slot_law.Goals as goal

pub returns-clause-ones : goal.returns-clause-ones
returns-clause-ones c = no_slot_is_lost

pub returns-clause-unshown : goal.returns-clause-unshown
returns-clause-unshown c = none_is_released_shown
