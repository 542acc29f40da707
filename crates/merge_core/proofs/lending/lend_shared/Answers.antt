use Rattle.std.proofs.Common.{◌≡◌, ℕ, List, length, None, refl, ap, sym, ◌∙◌}
use Rattle.page_model.specs.Pages.{Unmapped, Private, Shared, written, with_slot}
use Rattle.page_model.specs.declared.verdict.Verdict.TheVariants as v
use Rattle.page_model.proofs.Places.{again}
use Rattle.merge_core.specs.Lending.{own_freed}
use Rattle.merge_core.specs.Pmap.{bytes_in}
use Rattle.merge_core.specs.View.{pmap_of, guests_of}
use Rattle.merge_core.proofs.Arms.{stored_taken, stored_full, stored_copied}
use Rattle.merge_core.proofs.Lends.{lends_done, lends_nothing, is_offer, then_offered}
use Rattle.merge_core.proofs.Staying.{all_stay, one_keeps, takes_free, moved_twice, frame_is}
use Rattle.merge_core.proofs.Views.{page_in_is}
use Rattle.merge_core.proofs.lending.lend_shared.Goals as goal

pub returns-then-count-eq1-clause-lends : goal.returns-then-count-eq1-clause-lends
returns-then-count-eq1-clause-lends g c =
    let held = c.args.held.now in
    let a : ℕ = c.args.page.guest in
    let b : ℕ = c.args.page.ppn in
    let salt : ℕ = c.args.page.salt in
    let page : List ℕ = c.args.bytes.now in
    let old : List ℕ = bytes_in held.frames c.args.mpn in
    let p = rw (c.hash_frame-code.ensures.shown, c.hash_frame-code.ensures.kept.frames) at c.peers_of-count.ensures.peers in
    let bytes : bytes_in c.write_whole.new.held.frames c.args.mpn ≡ written old 0 page = rw (c.keep.ensures.frames, c.hash_frame-code.ensures.kept.frames) at c.write_whole.ensures.bytes in
    let guests : guests_of c.write_whole.new.held ≡ with_slot (guests_of held) a b (Private (written old 0 page) None) =
    (rw (c.keep.ensures.guests, c.keep.ensures.frames, c.hash_frame-code.ensures.shown, c.hash_frame-code.ensures.kept.frames) at c.write_whole.ensures.guests) ∙ again (guests_of held) a b _ _ in
    let step = rw (bytes, guests) at c.propose_own.ensures.step in
    let offer = is_offer g.H.HashFunction.hash_of _ _ a b salt _ c.propose_own.result.verdict step in
    let first = all_stay held.frames a b v.Taken (pmap_of held) (with_slot (pmap_of held) a b (Private c.args.mpn None)) refl (one_keeps (pmap_of held) a b salt (Shared c.args.mpn) (Private c.args.mpn None) c.requires.page refl) in
    let second = rw (c.write_whole.ensures.pmap, c.keep.ensures.pmap, c.hash_frame-code.ensures.kept.pmap) at c.propose_own.ensures.served.stay in
    let own = frame_is (pmap_of held) a b salt (Shared c.args.mpn) c.requires.page in
    let total = rw (c.keep.ensures.frames, c.hash_frame-code.ensures.kept.frames) at c.write_whole.ensures.total in
    lends_done g.H.HashFunction.hash_of a b salt page held c.propose_own.new.held (Shared old) (page_in_is held.frames (pmap_of held) a b salt (Shared c.args.mpn) c.requires.page) (written old 0 page) None v.Taken c.propose_own.result
    (stored_taken _ (guests_of held) a b 0 page salt old (sym p ∙ c.if-count-eq1.true)) refl (c.propose_own.ensures.served.total ∙ total) step
    (then_offered held.frames _ a b v.Taken c.propose_own.result.verdict (pmap_of held) _ _ offer first second)
    (c.propose_own.ensures.freed ∙ sym (ap (own_freed v.Taken c.propose_own.result.verdict) own)) c.propose_own.ensures.free

pub returns-then-is_full-clause-lends : goal.returns-then-is_full-clause-lends
returns-then-is_full-clause-lends g c =
    let held = c.args.held.now in
    let a : ℕ = c.args.page.guest in
    let b : ℕ = c.args.page.ppn in
    let salt : ℕ = c.args.page.salt in
    let old : List ℕ = bytes_in held.frames c.args.mpn in
    let p = rw (c.hash_frame-code.ensures.shown, c.hash_frame-code.ensures.kept.frames) at c.peers_of-count.ensures.peers in
    let full = rw (c.if-is_full.true, c.hash_frame-code.ensures.shown, c.hash_frame-code.ensures.kept.frames) at c.is_full.ensures.full in
    lends_nothing g.H.HashFunction.hash_of a b salt c.args.bytes.now held c.hash_frame-code.new.held (Shared old) (page_in_is held.frames (pmap_of held) a b salt (Shared c.args.mpn) c.requires.page) v.NoFrame
    (stored_full _ (guests_of held) a b 0 c.args.bytes.now salt old (λ e. c.if-count-eq1.false (p ∙ e)) (sym full)) refl refl refl
    (ap length c.hash_frame-code.ensures.kept.frames) c.hash_frame-code.ensures.shown c.hash_frame-code.ensures.kept.pmap

pub returns-clause-lends : goal.returns-clause-lends
returns-clause-lends g c =
    let held = c.args.held.now in
    let a : ℕ = c.args.page.guest in
    let b : ℕ = c.args.page.ppn in
    let salt : ℕ = c.args.page.salt in
    let page : List ℕ = c.args.bytes.now in
    let old : List ℕ = bytes_in held.frames c.args.mpn in
    let copy = c.map_copy-copy.result in
    let p = rw (c.hash_frame-code.ensures.shown, c.hash_frame-code.ensures.kept.frames) at c.peers_of-count.ensures.peers in
    let room = rw (c.if-is_full.false, c.hash_frame-code.ensures.shown, c.hash_frame-code.ensures.kept.frames) at c.is_full.ensures.full in
    let bytes : bytes_in c.write_whole-2.new.held.frames copy ≡ written old 0 page = rw (c.map_copy-copy.ensures.bytes, c.leave.ensures.frames, c.hash_frame-code.ensures.kept.frames) at c.write_whole-2.ensures.bytes in
    let guests : guests_of c.write_whole-2.new.held ≡ with_slot (guests_of held) a b (Private (written old 0 page) None) =
    (rw (c.map_copy-copy.ensures.guests, c.map_copy-copy.ensures.bytes, c.leave.ensures.guests, c.leave.ensures.frames, c.hash_frame-code.ensures.shown, c.hash_frame-code.ensures.kept.frames) at c.write_whole-2.ensures.guests)
    ∙ again (with_slot (guests_of held) a b Unmapped) a b _ _ ∙ again (guests_of held) a b _ _ in
    let step = rw (bytes, guests) at c.propose_private-verdict.ensures.step in
    let offer = is_offer g.H.HashFunction.hash_of _ _ a b salt _ c.propose_private-verdict.result step in
    let free = rw (c.leave.ensures.frames, c.hash_frame-code.ensures.kept.frames) at c.map_copy-copy.ensures.free in
    let first = takes_free held.frames a b copy v.Copied (pmap_of held) (with_slot (with_slot (pmap_of held) a b Unmapped) a b (Private copy None)) refl free (moved_twice (pmap_of held) a b salt (Shared c.args.mpn) Unmapped (Private copy None) c.requires.page) in
    let second = rw (c.write_whole-2.ensures.pmap, c.map_copy-copy.ensures.pmap, c.leave.ensures.pmap, c.hash_frame-code.ensures.kept.pmap) at c.propose_private-verdict.ensures.served.stay in
    let total = rw (c.map_copy-copy.ensures.total, c.leave.ensures.frames, c.hash_frame-code.ensures.kept.frames) at c.write_whole-2.ensures.total in
    lends_done g.H.HashFunction.hash_of a b salt page held c.propose_private-verdict.new.held (Shared old) (page_in_is held.frames (pmap_of held) a b salt (Shared c.args.mpn) c.requires.page) (written old 0 page) None v.Copied (record { verdict = c.propose_private-verdict.result; freed = None })
    (stored_copied _ (guests_of held) a b 0 page salt old (λ e. c.if-count-eq1.false (p ∙ e)) (sym room)) refl (c.propose_private-verdict.ensures.served.total ∙ total) step
    (then_offered held.frames _ a b v.Copied c.propose_private-verdict.result (pmap_of held) _ _ offer first second) refl (record {})
