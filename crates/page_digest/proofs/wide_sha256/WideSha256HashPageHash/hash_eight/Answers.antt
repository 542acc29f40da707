use Rattle.std.proofs.Common.{ℕ, List, [], ap, map, refl, slice_index, slice_index_or, ◌∙◌}
use Rattle.sha2.specs.Sha256.{padded_message}
use Rattle.page_digest.specs.Hashes.{salted}
use Rattle.page_digest.proofs.Eights.{page_at}
use Rattle.page_digest.proofs.Padding.{number_is_hash}
use Rattle.page_digest.proofs.wide_sha256.WideSha256HashPageHash.hash_eight.Goals as goal

pub returns : goal.returns
returns c =
    let salts = c.args.salts in
    let pages = c.args.pages in
    let bytes = map (λ page. page.now) pages in
    let message = λ (n : ℕ) (page : List ℕ). padded_message (salted (slice_index salts n) page) in
    rw (
      c.hash_eight.ensures,
      number_is_hash (slice_index salts 0) (slice_index_or bytes 0 []) _ (c.padded.ensures.value ∙ ap (message 0) (page_at pages 0)),
      number_is_hash (slice_index salts 1) (slice_index_or bytes 1 []) _ (c.padded-2.ensures.value ∙ ap (message 1) (page_at pages 1)),
      number_is_hash (slice_index salts 2) (slice_index_or bytes 2 []) _ (c.padded-3.ensures.value ∙ ap (message 2) (page_at pages 2)),
      number_is_hash (slice_index salts 3) (slice_index_or bytes 3 []) _ (c.padded-4.ensures.value ∙ ap (message 3) (page_at pages 3)),
      number_is_hash (slice_index salts 4) (slice_index_or bytes 4 []) _ (c.padded-5.ensures.value ∙ ap (message 4) (page_at pages 4)),
      number_is_hash (slice_index salts 5) (slice_index_or bytes 5 []) _ (c.padded-6.ensures.value ∙ ap (message 5) (page_at pages 5)),
      number_is_hash (slice_index salts 6) (slice_index_or bytes 6 []) _ (c.padded-7.ensures.value ∙ ap (message 6) (page_at pages 6)),
      number_is_hash (slice_index salts 7) (slice_index_or bytes 7 []) _ (c.padded-8.ensures.value ∙ ap (message 7) (page_at pages 7)),
    ) refl
