use Rattle.std.proofs.Common.{sym, ap, ◌∙◌, List, ℕ, get_or}
use Rattle.machine_frames.specs.FrameMap.{FrameMap}
use Rattle.merge_core.specs.Pmap.{bytes_in}
use Rattle.merge_core.proofs.Hashings.{hash_at}
use Rattle.merge_core.proofs.by_workers.note_frames.Goals as goal

pub note_frame-requires-clause-code : goal.note_frame-requires-clause-code
note_frame-requires-clause-code g c κs live =
    let hash = g.H.HashFunction.hash_of in let pairs = c.args.pairs.now in let n = c.loop-n.n in let p = get_or pairs n (0, 0) in
    ap (λ (hashes : List ℕ). get_or hashes n 0) c.requires.hashes ∙ (hash_at hash c.args.held.now.frames pairs n c.loop-n-test.true ∙ ap (λ (frames : FrameMap). hash p.0 (bytes_in frames p.1)) (sym c.loop-n.invariant.kept.frames))
