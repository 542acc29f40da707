use Rattle.session_laws.proofs.Kept.{always_sound}
use Rattle.session_laws.proofs.sound_law.Goals as goal

pub returns : goal.returns
returns c = always_sound
