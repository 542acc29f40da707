use Rattle.merge_core.proofs.Staying.{keep_then}
use Rattle.std.proofs.Common.{ap, sym, ◌∙◌, length}
use Rattle.merge_core.specs.Pmap.{bytes_in}
use Rattle.merge_core.specs.View.{guests_of, pmap_of}
use Rattle.merge_core.proofs.Arms.{proposed_matched}
use Rattle.merge_core.proofs.offer.propose_private.Goals as goal

pub returns-clause-step : goal.returns-clause-step
returns-clause-step g c =
    let held = c.args.held.now in
    let e = rw (c.settle_hint-kept.ensures.guests, c.settle_hint-kept.ensures.frames, c.settle_hint-kept.ensures.kept, c.key_of.ensures, c.hash_frame-code.ensures.shown, c.hash_frame-code.ensures.kept.frames) at c.find_match.ensures.step in
    e ∙ sym (proposed_matched g.H.HashFunction.hash_of (guests_of held) c.args.page.guest c.args.page.ppn c.args.page.salt (bytes_in held.frames c.args.mpn) c.hash_frame-code.result c.args.hint c.hash_frame-code.ensures.hash)

pub returns-clause-served : goal.returns-clause-served
returns-clause-served g c =
    let held = c.args.held.now in
    let kept = rw c.hash_frame-code.ensures.kept.pmap at c.settle_hint-kept.ensures.stay in
    let rest = rw (c.settle_hint-kept.ensures.frames, c.hash_frame-code.ensures.kept.frames) at c.find_match.ensures.served.stay in
    record {
      whole = c.find_match.ensures.served.whole;
      total = c.find_match.ensures.served.total ∙ ap length (c.settle_hint-kept.ensures.frames ∙ c.hash_frame-code.ensures.kept.frames);
      stay = keep_then held.frames c.args.page.guest c.args.page.ppn _ (pmap_of held) _ _ kept rest;
    }
