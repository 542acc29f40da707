use Rattle.std.proofs.Common.{[], ◌<◌, ◌∙◌, arith, slice_index_or, sym}
use Rattle.sha256_lanes.specs.Hashes.{leading_number}
use Rattle.sha256_lanes.proofs.Messages.{all_of, number_is}
use Rattle.sha256_lanes.proofs.hashing.hash_eight.Goals as goal

pub returns : goal.returns
returns c =
    let messages = c.args.messages.now in
    let count = c.state_of_eight.ensures.count in
    all_of leading_number messages c.eight_leading_numbers.result (c.eight_leading_numbers.ensures.len ∙ sym count)
    (λ j lt.
    let below : j < 8 = omega (arith, lt, count) in
    number_is (slice_index_or messages j []) _ _ (omega (arith, c.state_of_eight.ensures.some, c.requires j [] lt))
    (c.state_of_eight.ensures.each j below) (c.eight_leading_numbers.ensures.each j below))
