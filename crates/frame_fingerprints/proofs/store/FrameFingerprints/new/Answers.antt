use Rattle.std.proofs.Common.{refl}
use Rattle.frame_fingerprints.proofs.Changes.{free_kept, map_free}
use Rattle.frame_fingerprints.proofs.store.FrameFingerprints.new.Goals as goal

pub invariant_of-result : goal.invariant_of-result
invariant_of-result g c =
    rw (c.in_ok-nodes.ensures, c.in_ok-heads.ensures)
    (free_kept c.args.frames c.bucket_count-count.result.0 _ c.bucket_count-count.result.1 c.requires.limit c.bucket_count-count.ensures.count c.bucket_count-count.ensures.shift c.bucket_count-count.ensures.all)

pub returns : goal.returns
returns g c = rw (c.in_ok-nodes.ensures, map_free c.args.frames) refl
