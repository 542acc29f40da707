use Rattle.page_model.specs.Pages.{blank}
use Rattle.guest_digests.proofs.sampling.zeros_digest.Goals as goal

pub returns : goal.returns
unfolding blank
returns c = c.digest_content.ensures
