use Rattle.std.proofs.Common.{◌≡◌, ℕ, List, None, refl, ap, sym, ◌∙◌}
use Rattle.page_model.specs.Pages.{Private, blank, written, with_slot}
use Rattle.page_model.specs.declared.verdict.Verdict.TheVariants as v
use Rattle.page_model.proofs.Places.{again}
use Rattle.merge_core.specs.Pmap.{bytes_in}
use Rattle.merge_core.specs.View.{pmap_of, guests_of}
use Rattle.merge_core.proofs.Lends.{is_offer, then_offered, over_zeros}
use Rattle.merge_core.proofs.Staying.{moved_to, takes_free}
use Rattle.merge_core.proofs.lending.lend_written.Goals as goal

pub learn-requires-clause-code : goal.learn-requires-clause-code
learn-requires-clause-code g c κs live =
    c.requires.code ∙ sym (ap (g.H.HashFunction.hash_of c.args.page.salt) (c.write.ensures.bytes ∙ ap (λ (x : List ℕ). written x 0 c.args.bytes.now) c.map_zeroed-mpn.ensures.bytes ∙ over_zeros c.args.bytes.now c.told-bytes))

pub returns-clause-step : goal.returns-clause-step
returns-clause-step g c =
    let held = c.args.held.now in
    let a : ℕ = c.args.page.guest in
    let b : ℕ = c.args.page.ppn in
    let page : List ℕ = c.args.bytes.now in
    let same : bytes_in c.write.new.held.frames c.map_zeroed-mpn.result ≡ page = c.write.ensures.bytes ∙ ap (λ (x : List ℕ). written x 0 page) c.map_zeroed-mpn.ensures.bytes ∙ over_zeros page c.told-bytes in
    let guests : guests_of c.write.new.held ≡ with_slot (guests_of held) a b (Private page None) =
    (rw (c.map_zeroed-mpn.ensures.guests, c.map_zeroed-mpn.ensures.bytes, over_zeros page c.told-bytes) at c.write.ensures.guests) ∙ again (guests_of held) a b (Private blank None) (Private page None) in
    (rw (c.learn.ensures.shown, c.learn.ensures.kept.frames, same, guests) at c.propose_private.ensures.step)

pub returns-clause-stay : goal.returns-clause-stay
returns-clause-stay g c =
    let held = c.args.held.now in
    let a : ℕ = c.args.page.guest in
    let b : ℕ = c.args.page.ppn in
    let mpn = c.map_zeroed-mpn.result in
    let offer = is_offer g.H.HashFunction.hash_of _ _ a b c.args.page.salt _ c.propose_private.result c.propose_private.ensures.step in
    let first = takes_free held.frames a b mpn v.Mapped (pmap_of held) _ refl c.map_zeroed-mpn.ensures.free (moved_to (pmap_of held) _ a b c.args.page.salt (Private mpn None) c.map_zeroed-mpn.ensures.pmap c.map_zeroed-mpn.ensures.page) in
    let second = rw (c.learn.ensures.kept.pmap, c.write.ensures.pmap) at c.propose_private.ensures.served.stay in
    then_offered held.frames _ a b v.Mapped c.propose_private.result (pmap_of held) _ _ offer first second
