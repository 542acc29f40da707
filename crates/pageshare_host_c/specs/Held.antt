-- The type of what the handle holds.
use denote.RattleType.{RattleType}
use Rattle.pageshare_host_c.specs.contracts.hosted.Hosted as hosted

abbrev pub hosted_row : RattleType
hosted_row = hosted.the_row
