use Rattle.std.proofs.Common.{ap, ◌∙◌, take}
use Rattle.std.specs.Int.{w64, from_be_bytes}
use Rattle.page_digest.specs.Hashes.{sha256_hash}
use Rattle.page_digest.proofs.sha256.Sha256HashPageHash.hash.Goals as goal

pub returns : goal.returns
unfolding sha256_hash
returns c = c.leading_number.ensures ∙ ap (λ bytes. from_be_bytes w64 (take 8 bytes)) c.digest.ensures
