use Rattle.merge_core.proofs.Staying.{one_keeps, one_moves, keep_move, move_move, move_keep, joins_another, frame_is}
use Rattle.page_model.specs.declared.verdict.Verdict.TheVariants as v
use Rattle.merge_core.specs.Stays.{AllKeep}
use Rattle.std.proofs.Common.{◌≡◌, ◌≢◌, None, ap, sym, ◌∙◌, ℕ, refl, length, Some}
use Rattle.page_model.specs.Pages.{Private, Shared, Slot, with_slot, page_at, Unmapped}
use Rattle.page_model.proofs.Places.{at_other, at_same}
use Rattle.page_model.specs.Steps.{key_of}
use Rattle.merge_core.specs.Pmap.{bytes_in, Pmap}
use Rattle.merge_core.specs.View.{pmap_of, guests_of}
use Rattle.merge_core.proofs.FrameLemmas.{bytes_other}
use Rattle.merge_core.proofs.Hints.{hint_apart, hint_frame_apart, changed_twice}
use Rattle.merge_core.proofs.offer.pair.Goals as goal

pub unmap-requires-clause-page : goal.unmap-requires-clause-page
unmap-requires-clause-page g c κs live =
    let held = c.args.held.now in
    let apart : c.args.page.guest ≡ c.args.first.guest → c.args.page.ppn ≡ c.args.first.ppn → ⊥ =
    hint_apart (pmap_of held) c.args.page.guest c.args.page.ppn c.args.first.guest c.args.first.ppn c.args.page.salt c.args.first.salt
    c.args.mpn c.args.theirs (key_of c.args.code) c.requires.page c.requires.first in
    rw c.drop_hint.ensures.pmap (at_other (pmap_of held) c.args.first.guest c.args.first.ppn (Private c.args.theirs None) c.args.page.guest c.args.page.ppn apart ∙ c.requires.page)

pub learn-requires-clause-code : goal.learn-requires-clause-code
learn-requires-clause-code g c κs live =
    let held = c.args.held.now in
    let differ : c.args.theirs ≢ c.args.mpn =
    hint_frame_apart (pmap_of held) held.frames c.args.page.guest c.args.page.ppn c.args.first.guest c.args.first.ppn c.args.page.salt
    c.args.first.salt c.args.mpn c.args.theirs (key_of c.args.code) c.requires.whole.ties.placed c.requires.page c.requires.first in
    rw (c.unmap.ensures.frames, c.drop_hint.ensures.frames, bytes_other held.frames c.args.mpn c.args.theirs None differ, c.requires.bytes) c.requires.code

pub share-requires-clause-first : goal.share-requires-clause-first
share-requires-clause-first g c κs live =
    let held = c.args.held.now in
    let apart : c.args.page.guest ≡ c.args.first.guest → c.args.page.ppn ≡ c.args.first.ppn → ⊥ =
    hint_apart (pmap_of held) c.args.page.guest c.args.page.ppn c.args.first.guest c.args.first.ppn c.args.page.salt c.args.first.salt
    c.args.mpn c.args.theirs (key_of c.args.code) c.requires.page c.requires.first in
    rw (c.learn.ensures.kept.pmap, c.unmap.ensures.pmap) (at_other _ c.args.page.guest c.args.page.ppn _ c.args.first.guest c.args.first.ppn (λ e f. apart (sym e) (sym f)) ∙ c.drop_hint.ensures.page)

pub share-requires-clause-code : goal.share-requires-clause-code
share-requires-clause-code g c κs live =
    let held = c.args.held.now in
    let differ : c.args.theirs ≢ c.args.mpn =
    hint_frame_apart (pmap_of held) held.frames c.args.page.guest c.args.page.ppn c.args.first.guest c.args.first.ppn c.args.page.salt
    c.args.first.salt c.args.mpn c.args.theirs (key_of c.args.code) c.requires.whole.ties.placed c.requires.page c.requires.first in
    rw (c.learn.ensures.kept.frames, c.unmap.ensures.frames, c.drop_hint.ensures.frames, bytes_other held.frames c.args.mpn c.args.theirs None differ, c.requires.bytes, c.requires.salt) (sym c.requires.code)

pub returns-clause-guests : goal.returns-clause-guests
returns-clause-guests g c =
    let held = c.args.held.now in
    let differ : c.args.theirs ≢ c.args.mpn =
    hint_frame_apart (pmap_of held) held.frames c.args.page.guest c.args.page.ppn c.args.first.guest c.args.first.ppn c.args.page.salt
    c.args.first.salt c.args.mpn c.args.theirs (key_of c.args.code) c.requires.whole.ties.placed c.requires.page c.requires.first in
    let apart : c.args.page.guest ≡ c.args.first.guest → c.args.page.ppn ≡ c.args.first.ppn → ⊥ =
    hint_apart (pmap_of held) c.args.page.guest c.args.page.ppn c.args.first.guest c.args.first.ppn c.args.page.salt c.args.first.salt
    c.args.mpn c.args.theirs (key_of c.args.code) c.requires.page c.requires.first in
    let e = rw (c.learn.ensures.shown, c.unmap.ensures.guests, c.drop_hint.ensures.guests, c.learn.ensures.kept.frames, c.unmap.ensures.frames, c.drop_hint.ensures.frames, bytes_other held.frames c.args.mpn c.args.theirs None differ) at c.share.ensures.guests in
    e ∙ changed_twice (guests_of held) c.args.first.guest c.args.first.ppn c.args.page.guest c.args.page.ppn _ _ (Shared (bytes_in held.frames c.args.theirs)) (Shared (bytes_in held.frames c.args.theirs)) apart
    ∙ ap (λ (x : Slot). with_slot (with_slot (guests_of held) c.args.first.guest c.args.first.ppn (Shared (bytes_in held.frames c.args.theirs))) c.args.page.guest c.args.page.ppn x) (ap Shared c.requires.bytes)

pub returns-clause-served : goal.returns-clause-served
returns-clause-served g c =
    let held = c.args.held.now in
    let a : ℕ = c.args.page.guest in
    let b : ℕ = c.args.page.ppn in
    let x : ℕ = c.args.first.guest in
    let y : ℕ = c.args.first.ppn in
    let m : ℕ = c.args.theirs in
    let apart : a ≡ x → b ≡ y → ⊥ = hint_apart (pmap_of held) a b x y c.args.page.salt c.args.first.salt c.args.mpn m (key_of c.args.code) c.requires.page c.requires.first in
    let back : x ≡ a → y ≡ b → ⊥ = λ e f. apart (sym e) (sym f) in
    let dropped : Pmap = with_slot (pmap_of held) x y (Private m None) in
    let gone : Pmap = with_slot dropped a b Unmapped in
    let shared : Pmap = with_slot gone x y (Shared m) in
    let keeps : AllKeep (pmap_of held) dropped = one_keeps (pmap_of held) x y c.args.first.salt (Private m (Some (key_of c.args.code))) (Private m None) c.requires.first refl in
    let mine : page_at dropped a b ≡ Some (c.args.page.salt, Private c.args.mpn None) = at_other (pmap_of held) x y (Private m None) a b apart ∙ c.requires.page in
    let theirs : page_at gone x y ≡ Some (c.args.first.salt, Private m None) = at_other dropped a b Unmapped x y back ∙ at_same (pmap_of held) x y c.args.first.salt (Private m (Some (key_of c.args.code))) (Private m None) c.requires.first in
    let empty : page_at shared a b ≡ Some (c.args.page.salt, Unmapped) = at_other gone x y (Shared m) a b apart ∙ at_same dropped a b c.args.page.salt (Private c.args.mpn None) Unmapped mine in
    let leaves = one_moves dropped a b c.args.page.salt (Private c.args.mpn None) Unmapped mine in
    let shares = one_keeps gone x y c.args.first.salt (Private m None) (Shared m) theirs refl in
    let joins = one_moves shared a b c.args.page.salt Unmapped (Shared m) empty in
    let all = keep_move a b (Some m) (pmap_of held) dropped (with_slot shared a b (Shared m)) keeps (move_move a b None (Some m) dropped shared (with_slot shared a b (Shared m)) (move_keep a b None dropped gone shared leaves shares) joins) in
    record {
      whole = c.share.ensures.whole;
      total = ap length (c.share.ensures.frames ∙ c.learn.ensures.kept.frames) ∙ c.unmap.ensures.total ∙ ap length c.drop_hint.ensures.frames;
      stay =
          rw (c.share.ensures.pmap, c.learn.ensures.kept.pmap, c.unmap.ensures.pmap, c.drop_hint.ensures.pmap)
          (joins_another held.frames a b x y m v.Paired (pmap_of held) (with_slot shared a b (Shared m)) refl back
          (frame_is (pmap_of held) x y c.args.first.salt (Private m (Some (key_of c.args.code))) c.requires.first) all);
    }
