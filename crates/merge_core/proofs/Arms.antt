-- The arms of a store and of a release, by what decides them.
use Rattle.std.proofs.Common.{◌≡◌, ℕ, List, true, false, refl, ap, arith, ◌⊎◌, inl, inr}
use Rattle.std.specs.Prelude.{◌==◌, ◌&&◌, Option, Some, None}
use Rattle.std.proofs.lemmas.Bool.{cases_eq, eq-eqb, ne_eqb, and_left, and_right}
use Rattle.std.proofs.lemmas.Bool.Decides.{nat_tests}
use Rattle.page_model.specs.Pages.{Slot, Unmapped, Private, Shared, Guest, written, peers, used, page_at, with_slot, bytes_of, find_page, has_hint, any_page, is_shared_as, is_shared_under}
use Rattle.page_model.specs.Steps.{stored, released, matched, offered, by_hint, weighed, key_of, kept_hint, proposed, sets, stays}
use Rattle.std.specs.Str.{bytes_eq}
use Rattle.page_model.specs.declared.verdict.Verdict.{Verdict}
use Rattle.page_model.specs.declared.verdict.Verdict.TheVariants as v

not_eq : (n m : ℕ) → (n ≡ m → ⊥) → (n == m) ≡ false
not_eq n m h = grind (arith, nat_tests)

pub stored_taken : (total : ℕ) (gs : List Guest) (a b at : ℕ) (new : List ℕ) (salt : ℕ) (old : List ℕ) → peers salt old gs ≡ 1 → stored total gs a b at new salt (Shared old) ≡ sets gs a b (Private (written old at new) None) v.Taken
unfolding stored
stored_taken total gs a b at new salt old h = rw h refl

pub stored_full : (total : ℕ) (gs : List Guest) (a b at : ℕ) (new : List ℕ) (salt : ℕ) (old : List ℕ) → (peers salt old gs ≡ 1 → ⊥) → (used gs == total) ≡ true → stored total gs a b at new salt (Shared old) ≡ stays gs v.NoFrame
unfolding stored
stored_full total gs a b at new salt old h full = rw (not_eq (peers salt old gs) 1 h, full) refl

pub stored_copied : (total : ℕ) (gs : List Guest) (a b at : ℕ) (new : List ℕ) (salt : ℕ) (old : List ℕ) → (peers salt old gs ≡ 1 → ⊥) → (used gs == total) ≡ false → stored total gs a b at new salt (Shared old) ≡ sets gs a b (Private (written old at new) None) v.Copied
unfolding stored
stored_copied total gs a b at new salt old h room = rw (not_eq (peers salt old gs) 1 h, room) refl

pub released_last : (gs : List Guest) (a b salt : ℕ) (old : List ℕ) → peers salt old gs ≡ 1 → released gs a b salt (Shared old) ≡ sets gs a b Unmapped (v.Released true)
unfolding released
released_last gs a b salt old h = rw h refl

pub released_more : (gs : List Guest) (a b salt : ℕ) (old : List ℕ) → (peers salt old gs ≡ 1 → ⊥) → released gs a b salt (Shared old) ≡ sets gs a b Unmapped (v.Released false)
unfolding released
released_more gs a b salt old h = rw (not_eq (peers salt old gs) 1 h) refl

-- the arms of an offer
module _ (hash : ℕ → List ℕ → ℕ) (gs : List Guest) (guest ppn salt : ℕ) (bytes : List ℕ) (key : ℕ) where
  pub offered_hinted : find_page (has_hint key) gs ≡ None → offered hash gs guest ppn salt bytes key ≡ sets gs guest ppn (Private bytes (Some key)) v.Hinted
  unfolding offered by_hint
  offered_hinted h = rw h refl

  pub offered_kept : find_page (has_hint key) gs ≡ Some (guest, ppn) → offered hash gs guest ppn salt bytes key ≡ stays gs v.Kept
  unfolding offered by_hint
  offered_kept h = rw (h, eq-eqb guest guest refl, eq-eqb ppn ppn refl) refl

  not_both : (x y : ℕ) → (x ≡ guest → y ≡ ppn → ⊥) → (x == guest && y == ppn) ≡ false
  not_both x y n = pick (cases_eq x guest) where
    pick : ((x ≡ guest) ⊎ (x ≡ guest → ⊥)) → (x == guest && y == ppn) ≡ false
    pick (inl e) = and_right (x == guest) (y == ppn) (ne_eqb y ppn (n e))
    pick (inr e) = and_left (x == guest) (y == ppn) (ne_eqb x guest e)

  pub offered_other : (x y other_salt : ℕ) (slot : Slot) → find_page (has_hint key) gs ≡ Some (x, y) → (x ≡ guest → y ≡ ppn → ⊥) → page_at gs x y ≡ Some (other_salt, slot) → offered hash gs guest ppn salt bytes key ≡ weighed hash gs guest ppn salt bytes key x y other_salt (bytes_of slot)
  unfolding offered by_hint
  offered_other x y other_salt slot h n at = rw (h, not_both x y n, at) refl

  pub weighed_replaced : (x y other_salt : ℕ) (others : List ℕ) → (key_of (hash other_salt others) ≡ key → ⊥) → weighed hash gs guest ppn salt bytes key x y other_salt others ≡ sets (with_slot gs x y (Private others None)) guest ppn (Private bytes (Some key)) v.Replaced
  unfolding weighed
  weighed_replaced x y other_salt others h = rw (not_eq (key_of (hash other_salt others)) key h) refl

  pub weighed_paired : (x y other_salt : ℕ) (others : List ℕ) → key_of (hash other_salt others) ≡ key → (other_salt == salt && bytes_eq others bytes) ≡ true → weighed hash gs guest ppn salt bytes key x y other_salt others ≡ sets (with_slot gs x y (Shared others)) guest ppn (Shared bytes) v.Paired
  unfolding weighed
  weighed_paired x y other_salt others h same = rw (eq-eqb (key_of (hash other_salt others)) key h, same) refl

  pub weighed_ineligible : (x y other_salt : ℕ) (others : List ℕ) → key_of (hash other_salt others) ≡ key → (other_salt == salt && bytes_eq others bytes) ≡ false → weighed hash gs guest ppn salt bytes key x y other_salt others ≡ stays gs v.Ineligible
  unfolding weighed
  weighed_ineligible x y other_salt others h same = rw (eq-eqb (key_of (hash other_salt others)) key h, same) refl

-- the arms of a match
module _ (hash : ℕ → List ℕ → ℕ) (gs : List Guest) (guest ppn salt : ℕ) (bytes : List ℕ) (code : ℕ) where
  abbrev joined : List Guest
  joined = with_slot gs guest ppn (Shared bytes)

  pub matched_joined : any_page (is_shared_as salt bytes) gs ≡ true → matched hash gs guest ppn salt bytes code ≡ stays joined (v.Joined (peers salt bytes joined))
  unfolding matched
  matched_joined h = rw h refl

  pub matched_ineligible : any_page (is_shared_as salt bytes) gs ≡ false → any_page (is_shared_under hash code) gs ≡ true → matched hash gs guest ppn salt bytes code ≡ stays gs v.Ineligible
  unfolding matched
  matched_ineligible h k = rw (h, k) refl

  pub matched_offered : any_page (is_shared_as salt bytes) gs ≡ false → any_page (is_shared_under hash code) gs ≡ false → matched hash gs guest ppn salt bytes code ≡ offered hash gs guest ppn salt bytes (key_of code)
  unfolding matched
  matched_offered h k = rw (h, k) refl

  pub proposed_matched : (hint : Option ℕ) → code ≡ hash salt bytes → proposed hash gs guest ppn salt (Private bytes hint) ≡ matched hash (with_slot gs guest ppn (Private bytes (kept_hint (key_of code) hint))) guest ppn salt bytes code
  unfolding proposed
  proposed_matched hint e = rw e refl

-- the verdict of a page that joined
pub joined_outcome : (n salt : ℕ) (bytes : List ℕ) (x y : List Guest) → x ≡ y → n ≡ peers salt bytes x → stays x (v.Joined n) ≡ stays y (v.Joined (peers salt bytes y))
joined_outcome n salt bytes x y e count = rw (count, e) refl

-- the same verdict, and the same guests
pub outcome : (verdict : Verdict) (x y : List Guest) → x ≡ y → stays x verdict ≡ stays y verdict
outcome verdict x y e = ap (λ (z : List Guest). stays z verdict) e
