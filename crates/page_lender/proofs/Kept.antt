-- Whatever a page's guest does, and whatever others do, what is believed of the page stays right.
use Rattle.std.proofs.Common.{◌≡◌, ℕ, zero, suc, Bool, true, false, cond, not, ◌&&◌, ◌||◌, List, [], ◌∷◌, length, Some, None, Option, refl, ap, sym, ◌∙◌, subst}
use Rattle.std.specs.Prelude.{slice_get, slice_set, nat_eq, nat_lt, unwrap_or, option_map, option_and_then, is_none}
use Rattle.std.proofs.lemmas.Bool.{eqb-true, eqb-false}
use Rattle.window_events.specs.Windows.{Mappings, overwritten, is_held, written, guarded, lifted, unguarded, copied, mapped, released, discarded, with_page, at_page, holding, lent, step}
use Rattle.window_events.specs.declared.event.Event.{Event}
use Rattle.window_events.specs.declared.event.Event.TheVariants.{Write, Guard, Unguard, Copy, Lend, Map, Release, Trim, Discard}
use Rattle.window_events.specs.declared.page.Page.{Page}
use Rattle.window_events.specs.declared.page.View.{View}
use Rattle.window_events.specs.declared.page.View.TheVariants.{Own, Over}
use Rattle.page_lender.specs.Events.{seen, Fits, Believes, is_guests, is_of, KeptBy}
use Rattle.page_lender.specs.declared.belief.Belief.{Belief}
use Rattle.page_lender.specs.declared.belief.Belief.TheVariants.{Private, Chosen, Copied, Turning, Shown, Leaving}

set_other : (pages : List Page) (p q : ℕ) (new : Page) → (p ≡ q → ⊥) → slice_get (slice_set pages p new) q ≡ slice_get pages q
set_other [] p q new ne = refl
set_other (x ∷ pages) zero zero new ne = absurd (ne refl)
set_other (x ∷ pages) zero (suc q) new ne = refl
set_other (x ∷ pages) (suc p) zero new ne = refl
set_other (x ∷ pages) (suc p) (suc q) new ne = set_other pages p q new (λ e. ne (ap (λ k. suc k) e))

pub set_own : (pages : List Page) (p : ℕ) (page new : Page) → slice_get pages p ≡ Some page → slice_get (slice_set pages p new) p ≡ Some new
set_own [] p page new e = cc
set_own (x ∷ pages) zero page new e = refl
set_own (x ∷ pages) (suc p) page new e = set_own pages p page new e

-- one page's change that is possible
pub stepped : (w : Mappings) (p : ℕ) (page new : Page) (change : Page → Option Page) → slice_get w.pages p ≡ Some page → change page ≡ Some new →
    at_page w p change ≡ Some (with_page w p new)
stepped w p page new change e c = ap (λ o. option_map (with_page w p) (option_and_then change o)) e ∙ ap (λ o. option_map (with_page w p) o) c

-- a page with memory of its own fits whatever is seen
own_seen : (belief : Belief) (x : ℕ) → seen belief (Own x) ≡ true
own_seen Private x = refl
own_seen Chosen x = refl
own_seen Copied x = refl
own_seen (Turning stage target) x = refl
own_seen (Shown slot n homing) x = refl
own_seen (Leaving slot) x = refl

-- so does a copy over a frame
copy_seen : (belief : Belief) (m x : ℕ) → seen belief (Over m (Some x)) ≡ true
copy_seen Private m x = refl
copy_seen Chosen m x = refl
copy_seen Copied m x = refl
copy_seen (Turning stage target) m x = refl
copy_seen (Shown slot n homing) m x = refl
copy_seen (Leaving slot) m x = refl

pub over_seen : (belief : Belief) (view : View) (x : ℕ) → seen belief (overwritten view x) ≡ true
over_seen belief (Own y) x = own_seen belief x
over_seen belief (Over m c) x = copy_seen belief m x

-- the guest gives its page up
own_discard : (belief : Belief) (w : Mappings) (p : ℕ) → Believes belief w p → Believes belief (unwrap_or (step w (Discard p)) w) p
own_discard belief w p b =
    let new : Page = record (lifted b.page) { view = Own 0; last = 0 } in
    let s : step w (Discard p) ≡ Some (with_page w p new) = stepped w p b.page new discarded b.there refl in
    let fits : Fits belief new = record { holds = b.fits.holds; view = own_seen belief 0; waits = λ h. refl; copy = b.fits.copy } in
    subst (λ o. Believes belief (unwrap_or o w) p) (sym s) (record { page = new; there = set_own w.pages p b.page new b.there; fits = fits })

-- the guest writes its page
own_write : (belief : Belief) (w : Mappings) (p x : ℕ) → Believes belief w p → Believes belief (unwrap_or (step w (Write p x)) w) p
own_write belief w p x b = pick b.page.guarded refl where
  pick : (g : Bool) → b.page.guarded ≡ g → Believes belief (unwrap_or (step w (Write p x)) w) p
  pick true g =
      let waits : written x b.page ≡ None = ap (λ c. cond c None (Some (record b.page { view = overwritten b.page.view x; last = x }))) g in
      let s : step w (Write p x) ≡ None = ap (λ o. option_map (with_page w p) (option_and_then (written x) o)) b.there ∙ ap (λ o. option_map (with_page w p) o) waits in
      subst (λ o. Believes belief (unwrap_or o w) p) (sym s) b
  pick false g =
      let new : Page = record b.page { view = overwritten b.page.view x; last = x } in
      let writes : written x b.page ≡ Some new = ap (λ c. cond c None (Some new)) g in
      let s : step w (Write p x) ≡ Some (with_page w p new) = stepped w p b.page new (written x) b.there writes in
      let fits : Fits belief new = record { holds = b.fits.holds; view = over_seen belief b.page.view x; waits = b.fits.waits; copy = b.fits.copy } in
      subst (λ o. Believes belief (unwrap_or o w) p) (sym s) (record { page = new; there = set_own w.pages p b.page new b.there; fits = fits })

pub kept_by_guest : KeptBy is_guests true
kept_by_guest belief w p (Write q x) t b = subst (λ i. Believes belief (unwrap_or (step w (Write i x)) w) p) (sym (eqb-true q p t)) (own_write belief w p x b)
kept_by_guest belief w p (Discard q) t b = subst (λ i. Believes belief (unwrap_or (step w (Discard i)) w) p) (sym (eqb-true q p t)) (own_discard belief w p b)
kept_by_guest belief w p (Guard q) t b = cc
kept_by_guest belief w p (Unguard q) t b = cc
kept_by_guest belief w p (Copy q) t b = cc
kept_by_guest belief w p (Lend q n) t b = cc
kept_by_guest belief w p (Map q) t b = cc
kept_by_guest belief w p (Release q) t b = cc
kept_by_guest belief w p (Trim n x) t b = cc

-- another page's change leaves this one
other_stays : (w : Mappings) (p q : ℕ) (change : Page → Option Page) → (q ≡ p → ⊥) → slice_get (unwrap_or (at_page w q change) w).pages p ≡ slice_get w.pages p
other_stays w p q change ne = pick (option_and_then change (slice_get w.pages q)) where
  pick : (o : Option Page) → slice_get (unwrap_or (option_map (with_page w q) o) w).pages p ≡ slice_get w.pages p
  pick None = refl
  pick (Some new) = set_other w.pages q p new ne

lend_stays : (w : Mappings) (p q n : ℕ) → (q ≡ p → ⊥) → slice_get (unwrap_or (step w (Lend q n)) w).pages p ≡ slice_get w.pages p
lend_stays w p q n ne = pick (slice_get w.pages q) where
  pick : (o : Option Page) → slice_get (unwrap_or (option_and_then (λ page. lent w q page n page.copy (slice_get w.frames n)) o) w).pages p ≡ slice_get w.pages p
  pick None = refl
  pick (Some page) = made page.copy (slice_get w.frames n) where
    made : (c f : Option ℕ) → slice_get (unwrap_or (lent w q page n c f) w).pages p ≡ slice_get w.pages p
    made None f = refl
    made (Some x) None = refl
    made (Some x) (Some y) = free (is_none page.held && (not (is_held n w.pages) || nat_eq y x)) where
      free : (b : Bool) → slice_get (unwrap_or (cond b (Some (record { pages = slice_set w.pages q (holding n page); frames = slice_set w.frames n x })) None) w).pages p ≡ slice_get w.pages p
      free false = refl
      free true = set_other w.pages q p (holding n page) ne

apart : (q p : ℕ) → nat_eq q p ≡ false → q ≡ p → ⊥
apart q p t e = eqb-false q p t e

page_stays : (w : Mappings) (p : ℕ) (e : Event) → is_of p e ≡ false → slice_get (unwrap_or (step w e) w).pages p ≡ slice_get w.pages p
page_stays w p (Write q x) t = other_stays w p q (written x) (apart q p t)
page_stays w p (Guard q) t = other_stays w p q guarded (apart q p t)
page_stays w p (Unguard q) t = other_stays w p q unguarded (apart q p t)
page_stays w p (Copy q) t = other_stays w p q (copied w.frames) (apart q p t)
page_stays w p (Lend q n) t = lend_stays w p q n (apart q p t)
page_stays w p (Map q) t = other_stays w p q mapped (apart q p t)
page_stays w p (Release q) t = other_stays w p q released (apart q p t)
page_stays w p (Discard q) t = other_stays w p q discarded (apart q p t)
page_stays w p (Trim n x) t = pick (nat_lt n (length w.frames) && not (is_held n w.pages)) where
  pick : (b : Bool) → slice_get (unwrap_or (cond b (Some (record { pages = w.pages; frames = slice_set w.frames n x })) None) w).pages p ≡ slice_get w.pages p
  pick false = refl
  pick true = refl

pub kept_by_others : KeptBy is_of false
kept_by_others belief w p e t b = record { page = b.page; there = page_stays w p e t ∙ b.there; fits = b.fits }
