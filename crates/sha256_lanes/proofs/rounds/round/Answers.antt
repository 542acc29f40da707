use Rattle.std.proofs.Common.{arith, refl, slice_index_or}
use Rattle.sha2.specs.Sha256.{big_sigma1, ch}
use Rattle.sha256_lanes.proofs.Lanes.{word_of}
use Rattle.sha256_lanes.proofs.Words.{first_sum}
use Rattle.sha256_lanes.proofs.rounds.round.Goals as goal

pub returns : goal.returns
returns g c j lt =
    let state = c.args.state.now in
    let word = g.V.Vector.word in
    let e = word (slice_index_or state 4 c.index-state-4.result) j in
    let f = word (slice_index_or state 5 c.index-state-5.result) j in
    let seventh = word (slice_index_or state 6 c.index-state-6.result) j in
    let h = word (slice_index_or state 7 c.index-state-7.result) j in
    rw (
      c.add-4.ensures j lt,
      c.add-3.ensures j lt,
      c.add-second.ensures j lt,
      c.add-first.ensures j lt,
      c.add-2.ensures j lt,
      c.add-known.ensures j lt,
      c.add.ensures j lt,
      c.big_sigma1.ensures j lt,
      c.choose.ensures j lt,
      c.big_sigma0.ensures j lt,
      c.majority.ensures j lt,
      word_of word j 0 state c.index-state-0.result (omega (arith, c.type_inv.state)),
      word_of word j 1 state c.index-state-1.result (omega (arith, c.type_inv.state)),
      word_of word j 2 state c.index-state-2.result (omega (arith, c.type_inv.state)),
      word_of word j 3 state c.index-state-3.result (omega (arith, c.type_inv.state)),
      word_of word j 4 state c.index-state-4.result (omega (arith, c.type_inv.state)),
      word_of word j 5 state c.index-state-5.result (omega (arith, c.type_inv.state)),
      word_of word j 6 state c.index-state-6.result (omega (arith, c.type_inv.state)),
      word_of word j 7 state c.index-state-7.result (omega (arith, c.type_inv.state)),
      first_sum h (big_sigma1 e) (ch e f seventh) (word c.args.constant j) (word c.args.word j),
    ) refl
