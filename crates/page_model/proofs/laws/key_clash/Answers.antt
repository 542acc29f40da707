use Rattle.std.proofs.Common.{refl}
use Rattle.page_model.specs.Pages.{blank}
use Rattle.page_model.specs.Steps.{stored, proposed, matched, offered, by_hint, weighed, answered, step}
use Rattle.page_model.specs.Replay.{verdicts_of}
use Rattle.page_model.proofs.laws.key_clash.Goals as goal

pub returns : goal.returns
unfolding verdicts_of step answered stored proposed matched offered by_hint weighed blank
returns c = refl
