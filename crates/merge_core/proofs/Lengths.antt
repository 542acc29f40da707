-- No request changes the number of guests.
use Rattle.std.proofs.Common.{◌≡◌, ℕ, Bool, true, false, cond, List, length, Option, Some, None, refl, ◌∙◌}
use Rattle.std.specs.Prelude.{◌==◌, ◌&&◌}
use Rattle.std.specs.Str.{bytes_eq}
use Rattle.page_model.specs.Pages.{Slot, Unmapped, Private, Shared, Guest, blank, bytes_of, written, used, peers, any_page, is_shared_as, is_shared_under, page_at, with_slot, find_page, has_hint}
use Rattle.page_model.specs.Steps.{Outcome, stays, sets, key_of, kept_hint, stored, weighed, on_page, at_page, by_hint, offered, matched, proposed, released}
use Rattle.page_model.specs.declared.verdict.Verdict.TheVariants as v
use Rattle.merge_core.proofs.Limits.{length_after}

either : (t : Bool) (x y : Outcome) (n : ℕ) → length x.guests ≡ n → length y.guests ≡ n → length (cond t x y).guests ≡ n
either true x y n p q = p
either false x y n p q = q

on_page_len : (gs : List Guest) (f : ℕ → Slot → Outcome) (o : Option (ℕ × Slot)) → ((salt : ℕ) (slot : Slot) → length (f salt slot).guests ≡ length gs) → length (on_page gs f o).guests ≡ length gs
on_page_len gs f None h = refl
on_page_len gs f (Some (salt, slot)) h = h salt slot

pub at_page_len : (gs : List Guest) (a b : ℕ) (f : ℕ → Slot → Outcome) → ((salt : ℕ) (slot : Slot) → length (f salt slot).guests ≡ length gs) → length (at_page gs a b f).guests ≡ length gs
at_page_len gs a b f h = on_page_len gs f (page_at gs a b) h

pub stored_len : (total : ℕ) (gs : List Guest) (a b at : ℕ) (bytes : List ℕ) (salt : ℕ) (slot : Slot) → length (stored total gs a b at bytes salt slot).guests ≡ length gs
unfolding stored
stored_len total gs a b at bytes salt Unmapped =
    either (used gs == total) (stays gs v.NoFrame) (sets gs a b (Private (written blank at bytes) None) v.Mapped) (length gs) refl (length_after gs a b (Private (written blank at bytes) None))
stored_len total gs a b at bytes salt (Private old hint) = length_after gs a b (Private (written old at bytes) hint)
stored_len total gs a b at bytes salt (Shared old) =
    let new : Slot = Private (written old at bytes) None in
    either (peers salt old gs == 1) (sets gs a b new v.Taken) (cond (used gs == total) (stays gs v.NoFrame) (sets gs a b new v.Copied)) (length gs) (length_after gs a b new)
    (either (used gs == total) (stays gs v.NoFrame) (sets gs a b new v.Copied) (length gs) refl (length_after gs a b new))

pub released_len : (gs : List Guest) (a b salt : ℕ) (slot : Slot) → length (released gs a b salt slot).guests ≡ length gs
unfolding released
released_len gs a b salt Unmapped = refl
released_len gs a b salt (Private old hint) = length_after gs a b Unmapped
released_len gs a b salt (Shared old) = length_after gs a b Unmapped

module _ (hash : ℕ → List ℕ → ℕ) (guest ppn salt : ℕ) (bytes : List ℕ) where
  twice_after : (gs : List Guest) (a b c d : ℕ) (x y : Slot) → length (with_slot (with_slot gs a b x) c d y) ≡ length gs
  twice_after gs a b c d x y = rw (length_after (with_slot gs a b x) c d y) (length_after gs a b x)

  weighed_len : (gs : List Guest) (key other place other_salt : ℕ) (others : List ℕ) → length (weighed hash gs guest ppn salt bytes key other place other_salt others).guests ≡ length gs
  unfolding weighed
  weighed_len gs key other place other_salt others =
      let pair : Outcome = sets (with_slot gs other place (Shared others)) guest ppn (Shared bytes) v.Paired in
      let replace : Outcome = sets (with_slot gs other place (Private others None)) guest ppn (Private bytes (Some key)) v.Replaced in
      either (key_of (hash other_salt others) == key) (cond (other_salt == salt && bytes_eq others bytes) pair (stays gs v.Ineligible)) replace (length gs)
      (either (other_salt == salt && bytes_eq others bytes) pair (stays gs v.Ineligible) (length gs) (twice_after gs other place guest ppn (Shared others) (Shared bytes)) refl)
      (twice_after gs other place guest ppn (Private others None) (Private bytes (Some key)))

  held_len : (gs : List Guest) (key : ℕ) (o : Option (ℕ × ℕ)) → length (by_hint hash gs guest ppn salt bytes key o).guests ≡ length gs
  unfolding by_hint
  held_len gs key None = length_after gs guest ppn (Private bytes (Some key))
  held_len gs key (Some (other, place)) =
      let weigh : ℕ → Slot → Outcome = λ other_salt slot. weighed hash gs guest ppn salt bytes key other place other_salt (bytes_of slot) in
      either (other == guest && place == ppn) (stays gs v.Kept) (at_page gs other place weigh) (length gs) refl
      (at_page_len gs other place weigh (λ other_salt slot. weighed_len gs key other place other_salt (bytes_of slot)))

  matched_len : (gs : List Guest) (code : ℕ) → length (matched hash gs guest ppn salt bytes code).guests ≡ length gs
  unfolding matched offered
  matched_len gs code =
      let joined : List Guest = with_slot gs guest ppn (Shared bytes) in
      let join : Outcome = stays joined (v.Joined (peers salt bytes joined)) in
      let offer : Outcome = by_hint hash gs guest ppn salt bytes (key_of code) (find_page (has_hint (key_of code)) gs) in
      either (any_page (is_shared_as salt bytes) gs) join (cond (any_page (is_shared_under hash code) gs) (stays gs v.Ineligible) offer) (length gs) (length_after gs guest ppn (Shared bytes))
      (either (any_page (is_shared_under hash code) gs) (stays gs v.Ineligible) offer (length gs) refl (held_len gs (key_of code) (find_page (has_hint (key_of code)) gs)))

pub proposed_len : (hash : ℕ → List ℕ → ℕ) (gs : List Guest) (guest ppn salt : ℕ) (slot : Slot) → length (proposed hash gs guest ppn salt slot).guests ≡ length gs
unfolding proposed
proposed_len hash gs guest ppn salt Unmapped = refl
proposed_len hash gs guest ppn salt (Private bytes hint) =
    let code : ℕ = hash salt bytes in
    let now : Slot = Private bytes (kept_hint (key_of code) hint) in
    matched_len hash guest ppn salt bytes (with_slot gs guest ppn now) code ∙ length_after gs guest ppn now
proposed_len hash gs guest ppn salt (Shared bytes) = refl
