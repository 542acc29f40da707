use Rattle.std.proofs.Common.{◌∙◌, ap}
use Rattle.sha2.specs.Sha256.{add_state}
use Rattle.sha256_lanes.specs.Lanes.{lane}
use Rattle.sha256_lanes.proofs.Words.{whole_block}
use Rattle.sha256_lanes.proofs.hashing.absorb.Goals as goal

pub returns : goal.returns
returns g c j lt block begun =
    let start = lane g.V.Vector.word j c.args.state.now in
    whole_block start (lane g.V.Vector.word j c.extend.new.words) block _
    (c.extend.ensures j lt block begun)
    (c.sum.ensures j lt ∙ ap (add_state start) (c.all_rounds-after.ensures j lt))
