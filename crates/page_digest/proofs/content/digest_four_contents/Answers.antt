use Rattle.std.proofs.Common.{◌∙◌, refl}
use Rattle.page_digest.proofs.Padding.{digest_is_of_content}
use Rattle.page_digest.proofs.content.digest_four_contents.Goals as goal

pub returns : goal.returns
returns c =
    let salt = c.args.salt in
    c.digest_four.ensures
    ∙ rw (
      digest_is_of_content salt c.args.a.now _ c.padded.ensures.value,
      digest_is_of_content salt c.args.b.now _ c.padded-2.ensures.value,
      digest_is_of_content salt c.args.c.now _ c.padded-3.ensures.value,
      digest_is_of_content salt c.args.d.now _ c.padded-4.ensures.value,
    ) refl
