use Rattle.look_tasks.proofs.Ended.{releases_come_first, stands_until_its_end}
use Rattle.look_tasks.proofs.laws.end_law.Goals as goal

pub returns-clause-stands : goal.returns-clause-stands
returns-clause-stands c = stands_until_its_end

pub returns-clause-releases : goal.returns-clause-releases
returns-clause-releases c = releases_come_first
