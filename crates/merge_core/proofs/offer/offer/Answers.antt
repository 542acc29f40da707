use Rattle.merge_core.proofs.Staying.{moved_to, moves_nowhere, all_stay, frame_is}
use Rattle.page_model.specs.Pages.{Private}
use Rattle.std.proofs.Common.{ℕ, ap, sym, ◌∙◌, refl, length, Some}
use Rattle.page_model.specs.Steps.{key_of}
use Rattle.page_model.specs.declared.verdict.Verdict.TheVariants as v
use Rattle.merge_core.specs.Pmap.{bytes_in}
use Rattle.merge_core.specs.View.{pmap_of, guests_of}
use Rattle.merge_core.proofs.Holders.{found_is, found_none, kept_own}
use Rattle.merge_core.proofs.Arms.{offered_hinted, offered_kept, outcome}
use Rattle.merge_core.proofs.offer.offer.Goals as goal

pub returns-in-Some-clause-step : goal.returns-in-Some-clause-step
returns-in-Some-clause-step g c =
    let held = c.args.held.now in
    let key : ℕ = key_of c.args.code in
    let fits = rw c.in-Some.is at c.requires.fits in
    let own = kept_own key c.in-Some.field-0 fits in
    let page = rw (c.in-Some.is, own) at c.requires.page in
    let t = c.requires.whole.ties.hinted in
    sym (offered_kept g.H.HashFunction.hash_of (guests_of held) c.args.page.guest c.args.page.ppn c.args.page.salt
    (bytes_in held.frames c.args.mpn) key
    (found_is (pmap_of held) held.frames held.table.hints key t
    (record { guest = c.args.page.guest; ppn = c.args.page.ppn; mpn = c.args.mpn })
    (t.there c.args.page.guest c.args.page.ppn c.args.page.salt c.args.mpn key page)))

pub returns-in-None-find_hint-clause-step : goal.returns-in-None-find_hint-clause-step
returns-in-None-find_hint-clause-step g c =
    let held = c.args.held.now in
    let key : ℕ = key_of c.args.code in
    let none = sym (rw (c.in-None-find_hint.is, c.key_of-key.ensures) at c.find_hint.ensures) in
    let guests = rw c.key_of-key.ensures at c.put_hint.ensures.guests in
    outcome v.Hinted _ _ guests ∙ sym (offered_hinted g.H.HashFunction.hash_of (guests_of held) c.args.page.guest c.args.page.ppn c.args.page.salt (bytes_in held.frames c.args.mpn) key (found_none (pmap_of held) held.frames held.table.hints key c.requires.whole.ties.hinted none))

pub returns-in-None-find_hint-clause-served : goal.returns-in-None-find_hint-clause-served
returns-in-None-find_hint-clause-served g c =
    let held = c.args.held.now in
    let one = moved_to (pmap_of held) _ c.args.page.guest c.args.page.ppn c.args.page.salt (Private c.args.mpn (Some c.key_of-key.result)) c.put_hint.ensures.pmap c.put_hint.ensures.page in
    record {
      whole = c.put_hint.ensures.whole;
      total = ap length c.put_hint.ensures.frames;
      stay =
          all_stay held.frames c.args.page.guest c.args.page.ppn v.Hinted (pmap_of held) _ refl
          (moves_nowhere c.args.page.guest c.args.page.ppn (Some c.args.mpn) (pmap_of held) _ one
          (frame_is (pmap_of held) c.args.page.guest c.args.page.ppn c.args.page.salt (Private c.args.mpn c.args.kept) c.requires.page));
    }
