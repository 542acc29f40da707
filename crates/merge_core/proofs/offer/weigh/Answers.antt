use Rattle.std.proofs.lemmas.Bool.{eqb-true, eqb-false}
use Rattle.merge_core.proofs.Staying.{moved_to, moves_nowhere, all_stay, none_moves, frame_is, one_keeps, keep_keep}
use Rattle.merge_core.specs.Stays.{AllKeep}
use Rattle.std.proofs.Common.{◌≡◌, ℕ, Some, None, ap, sym, ◌∙◌, refl, length}
use Rattle.page_model.specs.Pages.{Private, page_at, with_slot}
use Rattle.page_model.specs.Steps.{key_of}
use Rattle.page_model.specs.declared.verdict.Verdict.TheVariants as v
use Rattle.page_model.proofs.Places.{at_other}
use Rattle.share_table.proofs.Maps.{gone_same}
use Rattle.merge_core.specs.Pmap.{bytes_in, slot_in, Pmap}
use Rattle.merge_core.specs.View.{pmap_of, guests_of, notes_of}
use Rattle.merge_core.proofs.Views.{page_in_is}
use Rattle.merge_core.proofs.Holders.{found_is}
use Rattle.merge_core.proofs.Hints.{hint_taken, hint_within, hint_page, hint_apart, alike}
use Rattle.merge_core.proofs.Arms.{offered_other, weighed_replaced, weighed_paired, weighed_ineligible, outcome}
use Rattle.merge_core.proofs.offer.weigh.Goals as goal

pub salt-salt-requires : goal.salt-salt-requires
salt-salt-requires g c =
    let held = c.args.held.now in
    record { mpn = hint_within g.H.HashFunction.hash_of (pmap_of held) held.frames held.table (notes_of held) (key_of c.args.code) c.args.hint.guest c.args.hint.ppn c.args.hint.mpn c.requires.whole.ties c.requires.hint }

pub same_content-requires-clause-theirs : goal.same_content-requires-clause-theirs
same_content-requires-clause-theirs g c κs live =
    let held = c.args.held.now in
    hint_taken g.H.HashFunction.hash_of (pmap_of held) held.frames held.table (notes_of held) (key_of c.args.code) c.args.hint.guest c.args.hint.ppn c.args.hint.mpn c.requires.whole.ties c.requires.hint

pub pair-requires-clause-first : goal.pair-requires-clause-first
pair-requires-clause-first g c κs live =
    let held = c.args.held.now in
    hint_page g.H.HashFunction.hash_of (pmap_of held) held.frames held.table (notes_of held) (key_of c.args.code) c.args.hint.guest c.args.hint.ppn c.args.hint.mpn c.requires.whole.ties c.requires.hint c.salt-salt.result c.salt-salt.ensures.salt

pub returns-then-same_content-clause-step : goal.returns-then-same_content-clause-step
returns-then-same_content-clause-step g c =
    let held = c.args.held.now in
    let key : ℕ = key_of c.args.code in
    let theirs : page_at (pmap_of held) c.args.hint.guest c.args.hint.ppn ≡ Some (c.salt-salt.result, Private c.args.hint.mpn (Some key)) =
    hint_page g.H.HashFunction.hash_of (pmap_of held) held.frames held.table (notes_of held) key c.args.hint.guest c.args.hint.ppn
    c.args.hint.mpn c.requires.whole.ties c.requires.hint c.salt-salt.result c.salt-salt.ensures.salt in
    let apart : c.args.page.guest ≡ c.args.hint.guest → c.args.page.ppn ≡ c.args.hint.ppn → ⊥ = hint_apart (pmap_of held) c.args.page.guest c.args.page.ppn c.args.hint.guest c.args.hint.ppn c.args.page.salt c.salt-salt.result c.args.mpn c.args.hint.mpn key c.requires.page theirs in
    let found = found_is (pmap_of held) held.frames held.table.hints key c.requires.whole.ties.hinted c.args.hint c.requires.hint in
    let equal = rw (← c.salt-salt.ensures.salt, c.if-same_content.true) at c.same_content.ensures in
    let same = alike c.salt-salt.result c.args.page.salt (bytes_in held.frames c.args.hint.mpn) (bytes_in held.frames c.args.mpn) (sym equal) in
    let keys : key_of (g.H.HashFunction.hash_of c.salt-salt.result (bytes_in held.frames c.args.hint.mpn)) ≡ key = ap key_of (ap (λ (x : ℕ). g.H.HashFunction.hash_of x (bytes_in held.frames c.args.hint.mpn)) same.0 ∙ ap (g.H.HashFunction.hash_of c.args.page.salt) same.1 ∙ sym c.requires.code) in
    outcome v.Paired _ _ c.pair.ensures.guests
    ∙ sym (offered_other g.H.HashFunction.hash_of (guests_of held) c.args.page.guest c.args.page.ppn c.args.page.salt
    (bytes_in held.frames c.args.mpn) key c.args.hint.guest c.args.hint.ppn c.salt-salt.result
    (slot_in held.frames (Private c.args.hint.mpn (Some key))) found (λ p q. apart (sym p) (sym q))
    (page_in_is held.frames (pmap_of held) c.args.hint.guest c.args.hint.ppn c.salt-salt.result (Private c.args.hint.mpn (Some key))
    theirs)
    ∙ weighed_paired g.H.HashFunction.hash_of (guests_of held) c.args.page.guest c.args.page.ppn c.args.page.salt (bytes_in held.frames c.args.mpn) key c.args.hint.guest c.args.hint.ppn c.salt-salt.result (bytes_in held.frames c.args.hint.mpn) keys (sym equal))

pub has_key-requires-clause-taken : goal.has_key-requires-clause-taken
has_key-requires-clause-taken g c κs live =
    let held = c.args.held.now in
    hint_taken g.H.HashFunction.hash_of (pmap_of held) held.frames held.table (notes_of held) (key_of c.args.code) c.args.hint.guest c.args.hint.ppn c.args.hint.mpn c.requires.whole.ties c.requires.hint

pub drop_hint-requires-clause-page : goal.drop_hint-requires-clause-page
drop_hint-requires-clause-page g c κs live =
    let held = c.args.held.now in
    rw (c.has_key.ensures.kept.pmap, c.key_of-key.ensures)
    (hint_page g.H.HashFunction.hash_of (pmap_of held) held.frames held.table (notes_of held) (key_of c.args.code) c.args.hint.guest
    c.args.hint.ppn c.args.hint.mpn c.requires.whole.ties c.requires.hint c.salt-salt.result c.salt-salt.ensures.salt)

pub put_hint-requires-clause-page : goal.put_hint-requires-clause-page
put_hint-requires-clause-page g c κs live =
    let held = c.args.held.now in
    let key : ℕ = key_of c.args.code in
    let theirs : page_at (pmap_of held) c.args.hint.guest c.args.hint.ppn ≡ Some (c.salt-salt.result, Private c.args.hint.mpn (Some key)) =
    hint_page g.H.HashFunction.hash_of (pmap_of held) held.frames held.table (notes_of held) key c.args.hint.guest c.args.hint.ppn
    c.args.hint.mpn c.requires.whole.ties c.requires.hint c.salt-salt.result c.salt-salt.ensures.salt in
    let apart : c.args.page.guest ≡ c.args.hint.guest → c.args.page.ppn ≡ c.args.hint.ppn → ⊥ = hint_apart (pmap_of held) c.args.page.guest c.args.page.ppn c.args.hint.guest c.args.hint.ppn c.args.page.salt c.salt-salt.result c.args.mpn c.args.hint.mpn key c.requires.page theirs in
    rw (c.drop_hint.ensures.pmap, c.has_key.ensures.kept.pmap) (at_other (pmap_of held) c.args.hint.guest c.args.hint.ppn (Private c.args.hint.mpn None) c.args.page.guest c.args.page.ppn apart ∙ c.requires.page)

pub put_hint-requires-clause-absent : goal.put_hint-requires-clause-absent
put_hint-requires-clause-absent g c κs live = rw c.drop_hint.ensures.table (gone_same _ c.key_of-key.result)

pub returns-clause-step : goal.returns-clause-step
returns-clause-step g c =
    let held = c.args.held.now in
    let key : ℕ = key_of c.args.code in
    let theirs : page_at (pmap_of held) c.args.hint.guest c.args.hint.ppn ≡ Some (c.salt-salt.result, Private c.args.hint.mpn (Some key)) =
    hint_page g.H.HashFunction.hash_of (pmap_of held) held.frames held.table (notes_of held) key c.args.hint.guest c.args.hint.ppn
    c.args.hint.mpn c.requires.whole.ties c.requires.hint c.salt-salt.result c.salt-salt.ensures.salt in
    let apart : c.args.page.guest ≡ c.args.hint.guest → c.args.page.ppn ≡ c.args.hint.ppn → ⊥ = hint_apart (pmap_of held) c.args.page.guest c.args.page.ppn c.args.hint.guest c.args.hint.ppn c.args.page.salt c.salt-salt.result c.args.mpn c.args.hint.mpn key c.requires.page theirs in
    let e = rw (c.drop_hint.ensures.guests, c.drop_hint.ensures.frames, c.has_key.ensures.shown, c.has_key.ensures.kept.frames, c.key_of-key.ensures) at c.put_hint.ensures.guests in
    let found = found_is (pmap_of held) held.frames held.table.hints key c.requires.whole.ties.hinted c.args.hint c.requires.hint in
    outcome v.Replaced _ _ e
    ∙ sym (offered_other g.H.HashFunction.hash_of (guests_of held) c.args.page.guest c.args.page.ppn c.args.page.salt
    (bytes_in held.frames c.args.mpn) key c.args.hint.guest c.args.hint.ppn c.salt-salt.result
    (slot_in held.frames (Private c.args.hint.mpn (Some key))) found (λ p q. apart (sym p) (sym q))
    (page_in_is held.frames (pmap_of held) c.args.hint.guest c.args.hint.ppn c.salt-salt.result (Private c.args.hint.mpn (Some key))
    theirs)
    ∙ weighed_replaced g.H.HashFunction.hash_of (guests_of held) c.args.page.guest c.args.page.ppn c.args.page.salt
    (bytes_in held.frames c.args.mpn) key c.args.hint.guest c.args.hint.ppn c.salt-salt.result (bytes_in held.frames c.args.hint.mpn)
    (λ q. eqb-false _ _ (sym c.has_key.ensures.key ∙ c.if-has_key.false) (q ∙ sym c.key_of-key.ensures)))

pub returns-then-has_key-clause-step : goal.returns-then-has_key-clause-step
returns-then-has_key-clause-step g c =
    let held = c.args.held.now in
    let key : ℕ = key_of c.args.code in
    let theirs : page_at (pmap_of held) c.args.hint.guest c.args.hint.ppn ≡ Some (c.salt-salt.result, Private c.args.hint.mpn (Some key)) =
    hint_page g.H.HashFunction.hash_of (pmap_of held) held.frames held.table (notes_of held) key c.args.hint.guest c.args.hint.ppn
    c.args.hint.mpn c.requires.whole.ties c.requires.hint c.salt-salt.result c.salt-salt.ensures.salt in
    let apart : c.args.page.guest ≡ c.args.hint.guest → c.args.page.ppn ≡ c.args.hint.ppn → ⊥ = hint_apart (pmap_of held) c.args.page.guest c.args.page.ppn c.args.hint.guest c.args.hint.ppn c.args.page.salt c.salt-salt.result c.args.mpn c.args.hint.mpn key c.requires.page theirs in
    let found = found_is (pmap_of held) held.frames held.table.hints key c.requires.whole.ties.hinted c.args.hint c.requires.hint in
    let differ = rw (← c.salt-salt.ensures.salt, c.if-same_content.false) at c.same_content.ensures in
    let keys : key_of (g.H.HashFunction.hash_of c.salt-salt.result (bytes_in held.frames c.args.hint.mpn)) ≡ key = eqb-true _ _ (sym c.has_key.ensures.key ∙ c.if-has_key.true) ∙ c.key_of-key.ensures in
    outcome v.Ineligible _ _ c.has_key.ensures.shown
    ∙ sym (offered_other g.H.HashFunction.hash_of (guests_of held) c.args.page.guest c.args.page.ppn c.args.page.salt
    (bytes_in held.frames c.args.mpn) key c.args.hint.guest c.args.hint.ppn c.salt-salt.result
    (slot_in held.frames (Private c.args.hint.mpn (Some key))) found (λ p q. apart (sym p) (sym q))
    (page_in_is held.frames (pmap_of held) c.args.hint.guest c.args.hint.ppn c.salt-salt.result (Private c.args.hint.mpn (Some key))
    theirs)
    ∙ weighed_ineligible g.H.HashFunction.hash_of (guests_of held) c.args.page.guest c.args.page.ppn c.args.page.salt (bytes_in held.frames c.args.mpn) key c.args.hint.guest c.args.hint.ppn c.salt-salt.result (bytes_in held.frames c.args.hint.mpn) keys (sym differ))

pub returns-clause-served : goal.returns-clause-served
returns-clause-served g c =
    let held = c.args.held.now in
    let key : ℕ = c.key_of-key.result in
    let mine = c.args.page in
    let theirs : page_at (pmap_of held) c.args.hint.guest c.args.hint.ppn
    ≡ Some (c.salt-salt.result, Private c.args.hint.mpn (Some (key_of c.args.code))) =
    hint_page g.H.HashFunction.hash_of (pmap_of held) held.frames held.table (notes_of held) (key_of c.args.code) c.args.hint.guest
    c.args.hint.ppn c.args.hint.mpn c.requires.whole.ties c.requires.hint c.salt-salt.result c.salt-salt.ensures.salt in
    let dropped : Pmap = with_slot (pmap_of held) c.args.hint.guest c.args.hint.ppn (Private c.args.hint.mpn None) in
    let first : AllKeep (pmap_of held) dropped = one_keeps (pmap_of held) c.args.hint.guest c.args.hint.ppn c.salt-salt.result (Private c.args.hint.mpn (Some (key_of c.args.code))) (Private c.args.hint.mpn None) theirs refl in
    let pmap = rw (c.drop_hint.ensures.pmap, c.has_key.ensures.kept.pmap) at c.put_hint.ensures.pmap in
    let one = moved_to dropped _ mine.guest mine.ppn mine.salt (Private c.args.mpn (Some key)) pmap c.put_hint.ensures.page in
    let second = moves_nowhere mine.guest mine.ppn (Some c.args.mpn) dropped _ one (first.keeps mine.guest mine.ppn ∙ frame_is (pmap_of held) mine.guest mine.ppn mine.salt (Private c.args.mpn None) c.requires.page) in
    record {
      whole = c.put_hint.ensures.whole;
      total = ap length (c.put_hint.ensures.frames ∙ c.drop_hint.ensures.frames ∙ c.has_key.ensures.kept.frames);
      stay = all_stay held.frames mine.guest mine.ppn v.Replaced (pmap_of held) _ refl (keep_keep (pmap_of held) dropped _ first second);
    }

pub returns-then-has_key-clause-served : goal.returns-then-has_key-clause-served
returns-then-has_key-clause-served g c =
    let held = c.args.held.now in
    record {
      whole = c.has_key.ensures.kept.whole;
      total = ap length c.has_key.ensures.kept.frames;
      stay = rw c.has_key.ensures.kept.pmap (none_moves held.frames c.args.page.guest c.args.page.ppn v.Ineligible (pmap_of held) refl);
    }
