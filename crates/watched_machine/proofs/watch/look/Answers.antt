use Rattle.watched_machine.proofs.Showing.{looks}
use Rattle.watched_machine.proofs.watch.look.Goals as goal

pub enter_as-requires : goal.enter_as-requires
enter_as-requires g c = looks _ _
