-- Lists of slots beside pages, and the events of those that are lost.
use Rattle.std.proofs.Common.{◌≡◌, ◌∙◌, ℕ, zero, suc, ◌+◌, ◌<◌, Bool, true, false, cond, List, [], ◌∷◌, length, map, Option, Some, None, refl, ap, sym, subst, arith}
use Rattle.std.specs.Prelude.{slice_get, slice_set, slice_index_or}
use Rattle.share_domain.specs.declared.holding.Slot.{Slot}
use Rattle.share_domain.specs.Domains.{DomainView}
use Rattle.window_events.specs.declared.event.Event.{Event}
use Rattle.window_events.specs.declared.event.Event.TheVariants.{Release}
use Rattle.window_events.specs.declared.page.Page.{Page}
use Rattle.window_domains.specs.Agreement.{frame_by, HasHeld}
use Rattle.window_domains.specs.Calls.{is_lost, left, releases}
use Rattle.lender_domains.specs.Owned.{release_of}

pub held_at : (d : DomainView) (slots : List (Option Slot)) (pages : List Page) (p : ℕ) (page : Page) (held : Option Slot) →
    map (λ (x : Page). x.held) pages ≡ map (frame_by d) slots → slice_get pages p ≡ Some page → slice_get slots p ≡ Some held → page.held ≡ frame_by d held
held_at d [] pages p page held e f g = cc
held_at d (s ∷ slots) [] p page held e f g = cc
held_at d (s ∷ slots) (x ∷ pages) zero page held e f g =
    let first : x.held ≡ frame_by d s = cc in
    let is_page : x ≡ page = cc in
    let is_slot : s ≡ held = cc in
    ap (λ (y : Page). y.held) (sym is_page) ∙ first ∙ ap (λ (y : Option Slot). frame_by d y) is_slot
held_at d (s ∷ slots) (x ∷ pages) (suc p) page held e f g =
    let rest : map (λ (y : Page). y.held) pages ≡ map (frame_by d) slots = cc in
    held_at d slots pages p page held rest f g

pub has_at : (d : DomainView) (slots : List (Option Slot)) (p : ℕ) (held : Option Slot) → ((k : ℕ) (x : Option Slot) → k < length slots → HasHeld d (slice_index_or slots k x)) →
    slice_get slots p ≡ Some held → HasHeld d held
has_at d [] p held h e = cc
has_at d (s ∷ slots) zero held h e = let is : s ≡ held = cc in subst (λ o. HasHeld d o) is (h 0 s (omega arith))
has_at d (s ∷ slots) (suc p) held h e = has_at d slots p held (λ k x l. h (suc k) x (omega arith)) e

-- no slot but that of place p is lost
pub record LosesOnly (new : DomainView) (slots : List (Option Slot)) (p : ℕ) : Type 0 where
  pub other : (q : ℕ) (slot : Slot) → slice_get slots q ≡ Some (Some slot) → (q ≡ p → ⊥) → is_lost new (Some slot) ≡ false
  pub own : (slot : Slot) → slice_get slots p ≡ Some (Some slot) → is_lost new (Some slot) ≡ true

abbrev kept_if : Bool → Slot → Option Slot
kept_if b slot = cond b None (Some slot)

abbrev Keeps : DomainView → List (Option Slot) → Type 0
Keeps new slots = (q : ℕ) (slot : Slot) → slice_get slots q ≡ Some (Some slot) → is_lost new (Some slot) ≡ false

keeps_more : (new : DomainView) (s : Option Slot) (slots : List (Option Slot)) → Keeps new (s ∷ slots) → Keeps new slots
keeps_more new s slots k q slot e = k (suc q) slot e

none_lost : (new : DomainView) (slots : List (Option Slot)) (k : ℕ) → Keeps new slots → releases new k slots ≡ []
none_lost new [] k h = refl
none_lost new (None ∷ slots) k h = none_lost new slots (k + 1) (keeps_more new None slots h)
none_lost new (Some slot ∷ slots) k h =
    ap (λ (b : Bool). cond b (Release k ∷ releases new (k + 1) slots) (releases new (k + 1) slots)) (h 0 slot refl) ∙ none_lost new slots (k + 1) (keeps_more new (Some slot) slots h)

all_left : (new : DomainView) (slots : List (Option Slot)) → Keeps new slots → map (left new) slots ≡ slots
all_left new [] h = refl
all_left new (None ∷ slots) h = ap (λ (r : List (Option Slot)). None ∷ r) (all_left new slots (keeps_more new None slots h))
all_left new (Some slot ∷ slots) h =
    ap (λ (b : Bool). kept_if b slot ∷ map (left new) slots) (h 0 slot refl) ∙ ap (λ (r : List (Option Slot)). Some slot ∷ r) (all_left new slots (keeps_more new (Some slot) slots h))

after_first : (new : DomainView) (s : Option Slot) (slots : List (Option Slot)) → LosesOnly new (s ∷ slots) 0 → Keeps new slots
after_first new s slots l q slot e = l.other (suc q) slot e (λ k. absurd (omega arith))

further : (new : DomainView) (s : Option Slot) (slots : List (Option Slot)) (p : ℕ) → LosesOnly new (s ∷ slots) (suc p) → LosesOnly new slots p
further new s slots p l = record { other = λ q slot e ne. l.other (suc q) slot e (λ k. ne (omega arith)); own = λ slot e. l.own slot e }

moved : (k p : ℕ) (o : Option (Option Slot)) → release_of (k + 1 + p) o ≡ release_of (k + suc p) o
moved k p o = let e : k + 1 + p ≡ k + suc p = omega arith in ap (λ (i : ℕ). release_of i o) e

pub only_releases : (new : DomainView) (slots : List (Option Slot)) (k p : ℕ) → LosesOnly new slots p → releases new k slots ≡ release_of (k + p) (slice_get slots p)
only_releases new [] k p l = refl
only_releases new (None ∷ slots) k zero l = none_lost new slots (k + 1) (after_first new None slots l)
only_releases new (Some slot ∷ slots) k zero l =
    let e : k ≡ k + 0 = omega arith in
    ap (λ (b : Bool). cond b (Release k ∷ releases new (k + 1) slots) (releases new (k + 1) slots)) (l.own slot refl)
    ∙ ap (λ (r : List Event). Release k ∷ r) (none_lost new slots (k + 1) (after_first new (Some slot) slots l))
    ∙ ap (λ (i : ℕ). Release i ∷ []) e
only_releases new (None ∷ slots) k (suc p) l = only_releases new slots (k + 1) p (further new None slots p l) ∙ moved k p (slice_get slots p)
only_releases new (Some slot ∷ slots) k (suc p) l =
    ap (λ (b : Bool). cond b (Release k ∷ releases new (k + 1) slots) (releases new (k + 1) slots)) (l.other 0 slot refl (λ e. absurd (omega arith)))
    ∙ only_releases new slots (k + 1) p (further new (Some slot) slots p l) ∙ moved k p (slice_get slots p)

pub only_left : (new : DomainView) (slots : List (Option Slot)) (p : ℕ) → LosesOnly new slots p → map (left new) slots ≡ slice_set slots p None
only_left new [] p l = refl
only_left new (None ∷ slots) zero l = ap (λ (r : List (Option Slot)). None ∷ r) (all_left new slots (after_first new None slots l))
only_left new (Some slot ∷ slots) zero l =
    ap (λ (b : Bool). kept_if b slot ∷ map (left new) slots) (l.own slot refl) ∙ ap (λ (r : List (Option Slot)). None ∷ r) (all_left new slots (after_first new (Some slot) slots l))
only_left new (None ∷ slots) (suc p) l = ap (λ (r : List (Option Slot)). None ∷ r) (only_left new slots p (further new None slots p l))
only_left new (Some slot ∷ slots) (suc p) l =
    ap (λ (b : Bool). kept_if b slot ∷ map (left new) slots) (l.other 0 slot refl (λ e. absurd (omega arith))) ∙ ap (λ (r : List (Option Slot)). Some slot ∷ r) (only_left new slots p (further new (Some slot) slots p l))
