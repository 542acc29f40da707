-- The type of what a process's handle holds.
use denote.RattleType.{RattleType}
use Rattle.pageshare_window_c.specs.contracts.process.held.HeldProcess as held

abbrev pub lender_row : RattleType
lender_row = held.the_row
