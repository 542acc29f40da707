use Rattle.page_model.proofs.Contents.{needs_a_frame_each, sharing_all_is_least}
use Rattle.page_model.proofs.laws.least_frames_law.Goals as goal

pub returns-clause-least : goal.returns-clause-least
returns-clause-least c = needs_a_frame_each

pub returns-clause-exact : goal.returns-clause-exact
returns-clause-exact c = sharing_all_is_least
