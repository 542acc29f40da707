use Rattle.std.proofs.Common.{◌≡◌, ℕ, ◌+◌, ◌-◌, ◌*◌, ◌<◌, ◌∙◌, [], ap, arith, inl, inr, slice_index, slice_index_or}
use Rattle.std.proofs.lemmas.Bool.{cases_lt}
use Rattle.sha2.specs.Sha256.{word_at}
use Rattle.sha256_lanes.specs.Hashes.{block_at}
use Rattle.sha256_lanes.specs.Lanes.{lane, one_of}
use Rattle.sha256_lanes.proofs.Lanes.{in_each}
use Rattle.sha256_lanes.proofs.Messages.{blocks_from}
use Rattle.sha256_lanes.proofs.blocks.begin_eight.Goals as goal

pub loop-turn-preserved : goal.loop-turn-preserved
loop-turn-preserved c j ltj t ltt =
    let messages = c.args.messages.now in
    let turn = c.loop-turn.turn in
    let four = c.transposed_halves-four.result in
    let block = λ (i : ℕ). block_at (slice_index_or messages i []) c.args.n in
    let there : (k : ℕ) → 16 * turn + 4 * k ≡ 4 * (4 * turn + k) = λ k. omega arith in
    let low : (i k : ℕ) → i < 4 → k < 4 → slice_index (lane slice_index i four) k ≡ word_at (block i) (4 * (4 * turn + k)) =
    λ i k lt within.
    let same : 0 + i ≡ i = omega arith in
    c.transposed_halves-four.ensures.low i k lt within
    ∙ in_each (λ n. slice_index (one_of n c.words_of_two.result c.words_of_two-in-loop-turn.result c.words_of_two-in-loop-turn-2.result c.words_of_two-in-loop-turn-3.result) k
    ≡ word_at (one_of n c.block-a.result.now c.block-b.result.now c.block-c.result.now c.block-d.result.now) (16 * turn + 4 * k))
    (c.words_of_two.ensures.low k within) (c.words_of_two-in-loop-turn.ensures.low k within) (c.words_of_two-in-loop-turn-2.ensures.low k within) (c.words_of_two-in-loop-turn-3.ensures.low k within) i lt
    ∙ ap (word_at _) (there k)
    ∙ ap (λ b. word_at b (4 * (4 * turn + k))) (blocks_from messages c.args.n 0 _ _ _ _ _ _ _ _ (omega (arith, c.type_inv.messages))
    c.block-a.ensures.value c.block-b.ensures.value c.block-c.ensures.value c.block-d.ensures.value i lt)
    ∙ ap (λ at. word_at (block at) (4 * (4 * turn + k))) same in
    let high : (i k : ℕ) → i < 4 → k < 4 → slice_index (lane slice_index (4 + i) four) k ≡ word_at (block (4 + i)) (4 * (4 * turn + k)) =
    λ i k lt within.
    c.transposed_halves-four.ensures.high i k lt within
    ∙ in_each (λ n. slice_index (one_of n c.words_of_two.result c.words_of_two-in-loop-turn.result c.words_of_two-in-loop-turn-2.result c.words_of_two-in-loop-turn-3.result) (4 + k)
    ≡ word_at (one_of n c.block-e.result.now c.block-f.result.now c.block-g.result.now c.block-h.result.now) (16 * turn + 4 * k))
    (c.words_of_two.ensures.high k within) (c.words_of_two-in-loop-turn.ensures.high k within) (c.words_of_two-in-loop-turn-2.ensures.high k within) (c.words_of_two-in-loop-turn-3.ensures.high k within) i lt
    ∙ ap (word_at _) (there k)
    ∙ ap (λ b. word_at b (4 * (4 * turn + k))) (blocks_from messages c.args.n 4 _ _ _ _ _ _ _ _ (omega (arith, c.type_inv.messages))
    c.block-e.ensures.value c.block-f.ensures.value c.block-g.ensures.value c.block-h.ensures.value i lt) in
    let read : (k : ℕ) → k < 4 → slice_index (lane slice_index j four) k ≡ word_at (block j) (4 * (4 * turn + k)) =
    λ k within. elim (cases_lt j 4) [
      | inl first ↦ low j k first within
      | inr last ↦
          let at : j ≡ 4 + (j - 4) = omega arith in
          rw at (high (j - 4) k (omega arith) within)
    ] in
    c.put_four.ensures j ltj (block j) (c.loop-turn.invariant j ltj) read t (omega arith)
