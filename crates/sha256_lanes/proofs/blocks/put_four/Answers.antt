use Rattle.std.proofs.Common.{◌≡◌, ℕ, ◌+◌, ◌<◌, ◌∙◌, ap, arith, slice_index, slice_index_or, sym}
use Rattle.sha2.specs.Sha256.{schedule}
use Rattle.sha256_lanes.specs.Lanes.{lane}
use Rattle.sha256_lanes.proofs.Lanes.{lane_set, length-lane, word_of}
use Rattle.sha256_lanes.proofs.Words.{four_put, own_word}
use Rattle.sha256_lanes.proofs.blocks.put_four.Goals as goal

pub returns : goal.returns
returns g c j lt block so_far given =
    let word = g.V.Vector.word in
    let t = c.args.t in
    let four = c.args.four.now in
    let words = c.args.words.now in
    let own : (k : ℕ) → k < 4 → slice_index (lane word j four) k ≡ slice_index (schedule block 48) (t + k) =
    λ k within. own_word block (t + k) _ (omega (arith, c.requires)) (given k within) in
    let first : t + 0 ≡ t = omega arith in
    rw (
      lane_set word j (t + 3) _ (slice_index_or four 3 c.index-four-3.result),
      lane_set word j (t + 2) _ (slice_index_or four 2 c.index-four-2.result),
      lane_set word j (t + 1) _ (slice_index_or four 1 c.index-four-1.result),
      lane_set word j t words (slice_index_or four 0 c.index-four-0.result),
    )
    (four_put (lane word j words) block t _ _ _ _ (omega (arith, length-lane word j words, c.told-words, c.requires)) so_far
    (sym (word_of word j 0 four _ (omega (arith, c.type_inv.four))) ∙ own 0 (omega arith) ∙ ap (slice_index (schedule block 48)) first)
    (sym (word_of word j 1 four _ (omega (arith, c.type_inv.four))) ∙ own 1 (omega arith))
    (sym (word_of word j 2 four _ (omega (arith, c.type_inv.four))) ∙ own 2 (omega arith))
    (sym (word_of word j 3 four _ (omega (arith, c.type_inv.four))) ∙ own 3 (omega arith)))
