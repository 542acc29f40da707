use Rattle.std.proofs.Common.{ap, ◌∙◌, take}
use Rattle.std.specs.Int.{w128, from_be_bytes}
use Rattle.page_digest.specs.Hashes.{content_digest}
use Rattle.page_digest.proofs.content.digest_content.Goals as goal

pub returns : goal.returns
unfolding content_digest
returns c = c.leading_digest.ensures ∙ ap (λ bytes. from_be_bytes w128 (take 16 bytes)) c.digest.ensures
