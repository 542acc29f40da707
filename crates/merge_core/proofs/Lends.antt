-- Pages that are lent: what their stores and their proposal do together.
use Rattle.std.proofs.Common.{◌≡◌, ℕ, ◌≤◌, Bool, true, false, cond, List, length, Option, Some, None, Ok, Err, IfSome, refl, ap, sym, ◌∙◌, inl, inr, arith}
use Rattle.std.specs.Prelude.{◌==◌, ◌&&◌, replicate}
use Rattle.std.specs.Str.{bytes_eq}
use Rattle.std.proofs.lemmas.List.{length-replicate}
use Rattle.page_model.specs.Pages.{Slot, Unmapped, Private, Shared, Guest, blank, bytes_of, written, used, peers, page_at, with_slot, is_shared_as, is_shared_under, any_page, find_page, has_hint}
use Rattle.page_model.specs.Steps.{Outcome, stays, sets, stored, weighed, by_hint, offered, matched, proposed, on_page, at_page, key_of, kept_hint}
use Rattle.page_model.specs.Stored.{is_done}
use Rattle.page_model.specs.declared.verdict.Verdict.{Verdict}
use Rattle.page_model.specs.declared.verdict.Verdict.TheVariants as v
use Rattle.page_model.proofs.Anys.{AnyIsCount, any_is_count}
use Rattle.page_model.proofs.Places.{at_same, again}
use Rattle.page_model.proofs.Used.{pages_counted}
use Rattle.machine_frames.specs.FrameMap.{FrameMap, frame}
use Rattle.merge_core.specs.Pmap.{Pmap}
use Rattle.merge_core.specs.Lending.{keeps_own, LendKeeps, page_outcome, own_freed, LendsPage}
use Rattle.merge_core.specs.Stays.{frame_at, Change, Keeps, TakesFree, JoinsAnother, GivesUp, change_at, HasTheirs, NamedFrame, OthersKeep}
use Rattle.merge_core.specs.View.{pmap_of, guests_of}
use Rattle.merge_core.specs.declared.held.Held.{Held}
use Rattle.merge_core.specs.declared.lent.Lent.{Lent}
use Rattle.merge_core.specs.declared.lent.SaltedHash.{SaltedHash}
use Rattle.merge_core.proofs.Arms.{matched_joined, proposed_matched, joined_outcome}
use Rattle.page_lending.proofs.Written.{all_written}
use Rattle.merge_core.proofs.Matches.{some_any}
use Rattle.merge_core.proofs.Staying.{frame_is}

-- what a proposal's verdict may say of the page's frame: that it stays, or that it is another page's
pub data IsOffer (verdict : Verdict) : Type 0 where
  stays_put : change_at verdict ≡ Keeps → IsOffer verdict
  joins : change_at verdict ≡ JoinsAnother → IsOffer verdict

pub record Offers (o : Outcome) : Type 0 where
  pub says : IsOffer o.verdict

choose : (t : Bool) (x y : Outcome) → Offers x → Offers y → Offers (cond t x y)
choose true x y h k = h
choose false x y h k = k

calm : (gs : List Guest) (verdict : Verdict) → change_at verdict ≡ Keeps → Offers (stays gs verdict)
calm gs verdict e = record { says = stays_put e }

moves : (gs : List Guest) (verdict : Verdict) → change_at verdict ≡ JoinsAnother → Offers (stays gs verdict)
moves gs verdict e = record { says = joins e }

module _ (hash : ℕ → List ℕ → ℕ) (gs : List Guest) (guest ppn salt : ℕ) (bytes : List ℕ) where
  weighed_offers : (key other place other_salt : ℕ) (others : List ℕ) → Offers (weighed hash gs guest ppn salt bytes key other place other_salt others)
  unfolding weighed
  weighed_offers key other place other_salt others =
      let pair : List Guest = with_slot (with_slot gs other place (Shared others)) guest ppn (Shared bytes) in
      let replace : List Guest = with_slot (with_slot gs other place (Private others None)) guest ppn (Private bytes (Some key)) in
      choose (key_of (hash other_salt others) == key) (cond (other_salt == salt && bytes_eq others bytes) (stays pair v.Paired) (stays gs v.Ineligible)) (stays replace v.Replaced)
      (choose (other_salt == salt && bytes_eq others bytes) (stays pair v.Paired) (stays gs v.Ineligible) (moves pair v.Paired refl) (calm gs v.Ineligible refl))
      (calm replace v.Replaced refl)

  on_page_offers : (f : ℕ → Slot → Outcome) (o : Option (ℕ × Slot)) → ((s : ℕ) (slot : Slot) → Offers (f s slot)) → Offers (on_page gs f o)
  on_page_offers f None h = calm gs v.NoPage refl
  on_page_offers f (Some (s, slot)) h = h s slot

  held_offers : (key : ℕ) (o : Option (ℕ × ℕ)) → Offers (by_hint hash gs guest ppn salt bytes key o)
  unfolding by_hint
  held_offers key None = calm (with_slot gs guest ppn (Private bytes (Some key))) v.Hinted refl
  held_offers key (Some (other, place)) =
      let weigh : ℕ → Slot → Outcome = λ s slot. weighed hash gs guest ppn salt bytes key other place s (bytes_of slot) in
      choose (other == guest && place == ppn) (stays gs v.Kept) (at_page gs other place weigh) (calm gs v.Kept refl)
      (on_page_offers weigh (page_at gs other place) (λ s slot. weighed_offers key other place s (bytes_of slot)))

  matched_offers : (code : ℕ) → Offers (matched hash gs guest ppn salt bytes code)
  unfolding matched offered
  matched_offers code =
      let joined : List Guest = with_slot gs guest ppn (Shared bytes) in
      let join : Outcome = stays joined (v.Joined (peers salt bytes joined)) in
      let offer : Outcome = by_hint hash gs guest ppn salt bytes (key_of code) (find_page (has_hint (key_of code)) gs) in
      choose (any_page (is_shared_as salt bytes) gs) join (cond (any_page (is_shared_under hash code) gs) (stays gs v.Ineligible) offer) (moves joined (v.Joined (peers salt bytes joined)) refl)
      (choose (any_page (is_shared_under hash code) gs) (stays gs v.Ineligible) offer (calm gs v.Ineligible refl) (held_offers (key_of code) (find_page (has_hint (key_of code)) gs)))

pub proposed_offers : (hash : ℕ → List ℕ → ℕ) (gs : List Guest) (guest ppn salt : ℕ) (slot : Slot) → Offers (proposed hash gs guest ppn salt slot)
unfolding proposed
proposed_offers hash gs guest ppn salt Unmapped = calm gs v.Unmapped refl
proposed_offers hash gs guest ppn salt (Shared bytes) = calm gs v.Already refl
proposed_offers hash gs guest ppn salt (Private bytes hint) =
    matched_offers hash (with_slot gs guest ppn (Private bytes (kept_hint (key_of (hash salt bytes)) hint))) guest ppn salt bytes (hash salt bytes)

-- the verdict of a proposal
pub is_offer : (hash : ℕ → List ℕ → ℕ) (gs new : List Guest) (guest ppn salt : ℕ) (slot : Slot) (verdict : Verdict) → stays new verdict ≡ proposed hash gs guest ppn salt slot → IsOffer verdict
is_offer hash gs new guest ppn salt slot verdict e = moved (proposed_offers hash gs guest ppn salt slot).says where
  moved : IsOffer (proposed hash gs guest ppn salt slot).verdict → IsOffer verdict
  moved (stays_put h) = stays_put (ap (λ (o : Outcome). change_at o.verdict) e ∙ h)
  moved (joins h) = joins (ap (λ (o : Outcome). change_at o.verdict) e ∙ h)

named_kept : (c : Change) (free : FrameMap) (a b : ℕ) (one two three : Pmap) → frame_at three a b ≡ frame_at two a b → NamedFrame c free a b one two → NamedFrame c free a b one three
named_kept Keeps free a b one two three e n = e ∙ n
named_kept TakesFree free a b one two three e n = record { mpn = n.mpn; has = e ∙ n.has; was_free = n.was_free }
named_kept JoinsAnother free a b one two three e n = record { other = n.other; place = n.place; mpn = n.mpn; apart = n.apart; theirs = n.theirs; has = e ∙ n.has }
named_kept GivesUp free a b one two three e n = e ∙ n

-- a page's frame after its stores, and then its proposal
pub then_offered : (free later : FrameMap) (a b : ℕ) (first_verdict verdict : Verdict) (one two three : Pmap) → IsOffer verdict → OthersKeep free a b first_verdict one two → OthersKeep later a b verdict two three → LendKeeps free a b first_verdict verdict one three
then_offered free later a b first_verdict verdict one two three (stays_put e) first second =
    let same : frame_at three a b ≡ frame_at two a b = rw e at second.named in
    record { named = rw e (named_kept (change_at first_verdict) free a b one two three same first.named); others = λ x y apart. second.others x y apart ∙ first.others x y apart }
then_offered free later a b first_verdict verdict one two three (joins e) first second =
    let n : HasTheirs a b two three = rw e at second.named in
    let theirs : HasTheirs a b one three = record { other = n.other; place = n.place; mpn = n.mpn; apart = n.apart; theirs = sym (first.others n.other n.place n.apart) ∙ n.theirs; has = n.has } in
    record { named = rw e theirs; others = λ x y apart. second.others x y apart ∙ first.others x y apart }

count_some : (t : Bool) (n : ℕ) → AnyIsCount t n → t ≡ true → 1 ≤ n
count_some t n (inl h) is = h.1
count_some t n (inr h) is = absurd (cc (h.0, is))

-- some page still passes a test after a page changed that didn't pass it
any_after : (p : ℕ → Slot → Bool) (gs : List Guest) (a b salt : ℕ) (old new : Slot) → page_at gs a b ≡ Some (salt, old) → p salt old ≡ false → any_page p gs ≡ true → any_page p (with_slot gs a b new) ≡ true
any_after p gs a b salt old new at calm any =
    let e = rw calm at (pages_counted p gs a b salt old new at) in
    some_any _ _ (any_is_count p (with_slot gs a b new)) (omega (arith, e, count_some _ _ (any_is_count p gs) any))

-- a page without a frame joins its equals as it would have after its stores
pub joins_fresh : (hash : ℕ → List ℕ → ℕ) (gs : List Guest) (a b salt : ℕ) (bytes : List ℕ) (n : ℕ) (new : List Guest) →
    page_at gs a b ≡ Some (salt, Unmapped) → any_page (is_shared_as salt bytes) gs ≡ true → new ≡ with_slot gs a b (Shared bytes) →
    n ≡ peers salt bytes new → stays new (v.Joined n) ≡ proposed hash (with_slot gs a b (Private bytes None)) a b salt (Private bytes None)
joins_fresh hash gs a b salt bytes n new at any is count =
    let own : Slot = Private bytes None in
    let mid : List Guest = with_slot gs a b own in
    let twice : with_slot mid a b own ≡ mid = again gs a b own own in
    let still : any_page (is_shared_as salt bytes) (with_slot mid a b own) ≡ true = ap (any_page (is_shared_as salt bytes)) twice ∙ any_after (is_shared_as salt bytes) gs a b salt Unmapped own at refl any in
    let same : new ≡ with_slot (with_slot mid a b own) a b (Shared bytes) = is ∙ sym (ap (λ (x : List Guest). with_slot x a b (Shared bytes)) twice ∙ again gs a b own (Shared bytes)) in
    joined_outcome n salt bytes new _ same count
    ∙ sym (proposed_matched hash mid a b salt bytes (hash salt bytes) None refl ∙ matched_joined hash (with_slot mid a b own) a b salt bytes (hash salt bytes) still)

-- what the proposal does after these stores
abbrev proposed_after : (ℕ → List ℕ → ℕ) → ℕ → ℕ → Outcome → Outcome
proposed_after hash guest ppn o = cond (is_done o.verdict) (at_page o.guests guest ppn (λ salt slot. proposed hash o.guests guest ppn salt slot)) o

module _ {H A : Type 0} (hash : ℕ → List ℕ → ℕ) (guest ppn salt : ℕ) (page : List ℕ) (old new : Held H A) (slot : Slot) (at : page_at (guests_of old) guest ppn ≡ Some (salt, slot)) where
  abbrev gs : List Guest
  gs = guests_of old

  abbrev store : ℕ → Slot → Outcome
  store s x = stored (length old.frames) gs guest ppn 0 page s x

  -- the stores were done, and then the page was proposed
  pub lends_done : (bytes : List ℕ) (hint : Option ℕ) (verdict : Verdict) (lent : Lent) →
      store salt slot ≡ sets gs guest ppn (Private bytes hint) verdict → is_done verdict ≡ true → length new.frames ≡ length old.frames →
      record { guests = guests_of new; verdict = lent.verdict }
      ≡ proposed hash (with_slot gs guest ppn (Private bytes hint)) guest ppn salt (Private bytes hint) →
      LendKeeps old.frames guest ppn verdict lent.verdict (pmap_of old) (pmap_of new) →
      lent.freed ≡ own_freed verdict lent.verdict (frame_at (pmap_of old) guest ppn) →
      IfSome lent.freed (λ mpn. frame new.frames mpn ≡ None) → LendsPage hash guest ppn page (Ok lent) old new
  lends_done bytes hint verdict lent is did total step stay freed free =
      let own : Slot = Private bytes hint in
      let outcome : page_outcome (length old.frames) gs guest ppn page ≡ sets gs guest ppn own verdict = ap (on_page gs store) at ∙ is in
      let same_verdict : (page_outcome (length old.frames) gs guest ppn page).verdict ≡ verdict = ap (λ (o : Outcome). o.verdict) outcome in
      let there : page_at (with_slot gs guest ppn own) guest ppn ≡ Some (salt, own) = at_same gs guest ppn salt slot own at in
      let then : proposed_after hash guest ppn (sets gs guest ppn own verdict) ≡ proposed hash (with_slot gs guest ppn own) guest ppn salt own =
      rw did (ap (on_page (with_slot gs guest ppn own) (λ s x. proposed hash (with_slot gs guest ppn own) guest ppn s x)) there) in
      record {
        total = total;
        step = step ∙ sym (ap (proposed_after hash guest ppn) outcome ∙ then);
        done = sym (ap is_done same_verdict ∙ did);
        stay = rw same_verdict stay;
        freed = rw same_verdict freed;
        free = free;
      }

  -- the stores were refused
  pub lends_nothing : (verdict : Verdict) → store salt slot ≡ stays gs verdict → is_done verdict ≡ false → change_at verdict ≡ Keeps →
      keeps_own verdict ≡ false → length new.frames ≡ length old.frames → guests_of new ≡ gs → pmap_of new ≡ pmap_of old →
      LendsPage hash guest ppn page (Err verdict) old new
  lends_nothing verdict is undone calm other total same pmap =
      let outcome : page_outcome (length old.frames) gs guest ppn page ≡ stays gs verdict = ap (on_page gs store) at ∙ is in
      let same_verdict : (page_outcome (length old.frames) gs guest ppn page).verdict ≡ verdict = ap (λ (o : Outcome). o.verdict) outcome in
      record {
        total = total;
        step = ap (λ (x : List Guest). stays x verdict) same ∙ sym (ap (proposed_after hash guest ppn) outcome ∙ rw undone refl);
        done = sym (ap is_done same_verdict ∙ undone);
        stay = record { named = rw (same_verdict, calm) (ap (λ (x : Pmap). frame_at x guest ppn) pmap); others = λ x y _. ap (λ (n : Pmap). frame_at n x y) pmap };
        freed = rw (same_verdict, other) refl;
        free = record {};
      }

-- the arms of a store to a page without a frame
pub stored_nowhere : (total : ℕ) (gs : List Guest) (a b at : ℕ) (new : List ℕ) (salt : ℕ) → (used gs == total) ≡ true → stored total gs a b at new salt Unmapped ≡ stays gs v.NoFrame
unfolding stored
stored_nowhere total gs a b at new salt full = rw full refl

pub stored_anew : (total : ℕ) (gs : List Guest) (a b at : ℕ) (new : List ℕ) (salt : ℕ) → (used gs == total) ≡ false → stored total gs a b at new salt Unmapped ≡ sets gs a b (Private (written blank at new) None) v.Mapped
unfolding stored
stored_anew total gs a b at new salt room = rw room refl

pub stored_in_place : (total : ℕ) (gs : List Guest) (a b at : ℕ) (new : List ℕ) (salt : ℕ) (old : List ℕ) (hint : Option ℕ) → stored total gs a b at new salt (Private old hint) ≡ sets gs a b (Private (written old at new) hint) v.Stored
unfolding stored
stored_in_place total _ a b at new salt old hint = refl

-- a page without a frame has none of another's
pub apart_from : (pmap : Pmap) (a b salt m : ℕ) (x y : ℕ) → page_at pmap a b ≡ Some (salt, Unmapped) → frame_at pmap x y ≡ Some m → x ≡ a → y ≡ b → ⊥
apart_from pmap a b salt m x y here theirs p q = none (sym (frame_is pmap a b salt Unmapped here) ∙ sym (ap (λ (i : ℕ). frame_at pmap i y) p ∙ ap (λ (i : ℕ). frame_at pmap a i) q) ∙ theirs) where
  none : None ≡ Some m → ⊥
  none e = cc

-- a whole page over zeros
pub over_zeros : (page : List ℕ) → length page ≡ 4096 → written blank 0 page ≡ page
unfolding blank
over_zeros page size = all_written (replicate 4096 0) page (omega (arith, length-replicate {A = ℕ} 4096 0, size))

-- a hash that was made under a page's salt is the page's
pub known_under : (hash : ℕ → List ℕ → ℕ) (page : List ℕ) (salt : ℕ) (known : Option SaltedHash) (code : Option ℕ) → IfSome code (λ h. known ≡ Some (record { salt = salt; hash = h })) → IfSome known (λ k. k.hash ≡ hash k.salt page) → IfSome code (λ h. h ≡ hash salt page)
known_under hash page salt known None e k = record {}
known_under hash page salt known (Some h) e k = rw e at k
