-- The types of what the handles hold.
use denote.RattleType.{RattleType}
use Rattle.pageshare_c.specs.contracts.hashed_core.HashedCore as core
use Rattle.pageshare_c.specs.contracts.hosted.Hosted as hosted

abbrev pub core_row : RattleType
core_row = core.the_row

abbrev pub hosted_row : RattleType
hosted_row = hosted.the_row
