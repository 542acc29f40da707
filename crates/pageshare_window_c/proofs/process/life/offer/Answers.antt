use Rattle.std.proofs.Common.{true}
use Rattle.pageshare_window_c.proofs.process.life.offer.Goals as goal

pub returns-in-Ok : goal.returns-in-Ok
returns-in-Ok c = record { is_offered = true; found = c.in-Ok.ensures.place; now = c.in-Ok.ensures.offered }
