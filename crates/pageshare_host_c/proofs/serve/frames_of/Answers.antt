use Rattle.std.proofs.Common.{refl, arith}
use Rattle.pageshare_host_c.specs.Serving.{frames_of}
use Rattle.pageshare_host_c.proofs.Loaned.{frame_more, all_frames}
use Rattle.pageshare_host_c.proofs.serve.frames_of.Goals as goal

pub loop-lent-preserved : goal.loop-lent-preserved
loop-lent-preserved c =
    let l = c.loop-lent in
    record {
      frames = rw c.push.ensures.items (frame_more c.args.loans.now l.lent-index _ _ l.frames.items (frames_of c.args.loans.now) c.loop-lent-test.true refl l.invariant.frames);
      len = omega (arith, c.push.ensures.len, l.invariant.len);
    }

pub returns : goal.returns
returns c =
    let l = c.loop-lent in
    all_frames c.args.loans.now l.lent-index l.frames.items (frames_of c.args.loans.now) c.loop-lent-test.false l.invariant.frames
