use Rattle.std.proofs.Common.{◌∙◌, refl, slice_index}
use Rattle.page_digest.proofs.Padding.{number_is_hash}
use Rattle.page_digest.proofs.sha256.Sha256HashPageHash.hash_four.Goals as goal

pub returns : goal.returns
returns c =
    let salts = c.args.salts in
    c.hash_four.ensures
    ∙ rw (
      number_is_hash (slice_index salts 0) c.args.a.now _ c.padded.ensures.value,
      number_is_hash (slice_index salts 1) c.args.b.now _ c.padded-2.ensures.value,
      number_is_hash (slice_index salts 2) c.args.c.now _ c.padded-3.ensures.value,
      number_is_hash (slice_index salts 3) c.args.d.now _ c.padded-4.ensures.value,
    ) refl
