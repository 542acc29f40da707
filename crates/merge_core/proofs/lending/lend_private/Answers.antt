use Rattle.std.proofs.Common.{ℕ, List, refl, ap, sym, ◌∙◌}
use Rattle.page_model.specs.Pages.{Private, written}
use Rattle.page_model.specs.declared.verdict.Verdict.TheVariants as v
use Rattle.merge_core.specs.Lending.{own_freed}
use Rattle.merge_core.specs.Pmap.{bytes_in}
use Rattle.merge_core.specs.View.{pmap_of, guests_of}
use Rattle.merge_core.proofs.Lends.{lends_done, stored_in_place, is_offer, then_offered}
use Rattle.merge_core.proofs.Staying.{all_stay, all_same, frame_is}
use Rattle.merge_core.proofs.Views.{page_in_is}
use Rattle.merge_core.proofs.lending.lend_private.Goals as goal

pub returns-clause-lends : goal.returns-clause-lends
returns-clause-lends g c =
    let held = c.args.held.now in
    let a : ℕ = c.args.page.guest in
    let b : ℕ = c.args.page.ppn in
    let page : List ℕ = c.args.bytes.now in
    let old : List ℕ = bytes_in held.frames c.args.mpn in
    let step = rw (c.write_whole.ensures.bytes, c.write_whole.ensures.guests) at c.propose_own.ensures.step in
    let offer = is_offer g.H.HashFunction.hash_of _ _ a b c.args.page.salt _ c.propose_own.result.verdict step in
    let first = all_stay held.frames a b v.Stored (pmap_of held) (pmap_of held) refl (all_same (pmap_of held) (pmap_of held) refl) in
    let second = rw c.write_whole.ensures.pmap at c.propose_own.ensures.served.stay in
    let own = frame_is (pmap_of held) a b c.args.page.salt (Private c.args.mpn c.args.hint) c.requires.page in
    lends_done g.H.HashFunction.hash_of a b c.args.page.salt page held c.propose_own.new.held (Private old c.args.hint) (page_in_is held.frames (pmap_of held) a b c.args.page.salt (Private c.args.mpn c.args.hint) c.requires.page) (written old 0 page) c.args.hint v.Stored c.propose_own.result
    (stored_in_place _ (guests_of held) a b 0 page c.args.page.salt old c.args.hint) refl (c.propose_own.ensures.served.total ∙ c.write_whole.ensures.total) step
    (then_offered held.frames _ a b v.Stored c.propose_own.result.verdict (pmap_of held) (pmap_of held) _ offer first second)
    (c.propose_own.ensures.freed ∙ sym (ap (own_freed v.Stored c.propose_own.result.verdict) own)) c.propose_own.ensures.free
