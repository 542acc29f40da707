use Rattle.window_tables.proofs.PinPlaces.{begun_meets, begun_nowhere, ended_meets, stays_under_way}
use Rattle.window_tables.proofs.pins.laws.transfer_law.Goals as goal

pub returns-clause-stays : goal.returns-clause-stays
returns-clause-stays c = stays_under_way

pub returns-clause-begun : goal.returns-clause-begun
returns-clause-begun c = begun_meets

pub returns-clause-nowhere : goal.returns-clause-nowhere
returns-clause-nowhere c = begun_nowhere

pub returns-clause-ended : goal.returns-clause-ended
returns-clause-ended c = ended_meets
