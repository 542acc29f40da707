use Rattle.std.proofs.Common.{refl}
use Rattle.page_model.specs.Pages.{blank}
use Rattle.page_model.specs.Steps.{stored, answered, step}
use Rattle.page_model.specs.Replay.{verdicts_of}
use Rattle.salt_laws.specs.Apart.{keys_proposed}
use Rattle.salt_laws.proofs.want_across_salts.Goals as goal

pub returns-clause-keys : goal.returns-clause-keys
unfolding keys_proposed step answered stored blank
returns-clause-keys c = refl

pub returns-clause-whole : goal.returns-clause-whole
unfolding verdicts_of step answered stored blank
returns-clause-whole c = refl

pub returns-clause-apart : goal.returns-clause-apart
unfolding verdicts_of step answered stored blank
returns-clause-apart c = refl
