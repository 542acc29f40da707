use Rattle.std.proofs.Common.{ℕ, ◌∙◌}
use Rattle.page_model.specs.Pages.{Unmapped, Shared}
use Rattle.share_table.specs.TableMaps.{SharedFrame, count_at}
use Rattle.merge_core.specs.View.{pmap_of, guests_of, notes_of}
use Rattle.merge_core.proofs.Lends.{joins_fresh, apart_from}
use Rattle.merge_core.proofs.Matches.{same_any}
use Rattle.merge_core.proofs.Staying.{one_moves, frame_is}
use Rattle.merge_core.proofs.Views.{page_in_is}
use Rattle.merge_core.proofs.lending.lend_new.Goals as goal

pub returns-in-Some-clause-step : goal.returns-in-Some-clause-step
returns-in-Some-clause-step g c =
    let held = c.args.held.now in
    let a : ℕ = c.args.page.guest in
    let b : ℕ = c.args.page.ppn in
    let f : SharedFrame = record { mpn = c.in-Some.theirs; count = count_at held.table c.hash_bytes-code.result } in
    let found = rw c.in-Some.is at c.shared_as.ensures.found in
    let salt = rw c.in-Some.is at c.shared_as.ensures.salt in
    let bytes = rw c.in-Some.is at c.shared_as.ensures.bytes in
    let any = rw (salt, bytes) at (same_any g.H.HashFunction.hash_of (pmap_of held) held.frames (notes_of held) held.table.shared c.hash_bytes-code.result f c.requires.whole.ties.shares found) in
    joins_fresh g.H.HashFunction.hash_of (guests_of held) a b c.args.page.salt c.args.bytes.now c.join-peers.result
    (guests_of c.join-peers.new.held) (page_in_is held.frames (pmap_of held) a b c.args.page.salt Unmapped c.requires.page) any
    (rw bytes at c.join-peers.ensures.guests) (rw bytes at c.join-peers.ensures.count)

pub returns-in-Some-clause-stay : goal.returns-in-Some-clause-stay
returns-in-Some-clause-stay g c =
    let held = c.args.held.now in
    let a : ℕ = c.args.page.guest in
    let b : ℕ = c.args.page.ppn in
    let t = c.requires.whole.ties in
    let f : SharedFrame = record { mpn = c.in-Some.theirs; count = count_at held.table c.hash_bytes-code.result } in
    let found = rw c.in-Some.is at c.shared_as.ensures.found in
    let o = t.owned c.in-Some.theirs (t.shares.well c.hash_bytes-code.result f found).taken in
    let theirs = frame_is (pmap_of held) o.guest o.ppn o.salt o.slot o.at ∙ o.frame in
    let one = one_moves (pmap_of held) a b c.args.page.salt Unmapped (Shared c.in-Some.theirs) c.requires.page in
    rw c.join-peers.ensures.pmap (record {
      named = record { other = o.guest; place = o.ppn; mpn = c.in-Some.theirs; apart = apart_from (pmap_of held) a b c.args.page.salt c.in-Some.theirs o.guest o.ppn c.requires.page theirs; theirs = theirs; has = one.named };
      others = one.others;
    })
