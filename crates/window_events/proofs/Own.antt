-- Only a page's own guest changes what it wrote last.
use Rattle.std.proofs.Common.{◌≡◌, ℕ, zero, suc, Bool, true, false, cond, not, ◌&&◌, ◌||◌, List, [], ◌∷◌, length, Some, None, Option, refl, ap, sym, ◌∙◌, subst}
use Rattle.std.specs.Prelude.{slice_get, slice_set, nat_eq, nat_lt, unwrap_or, option_map, option_and_then, is_none}
use Rattle.std.proofs.lemmas.Bool.{eqb-true, eqb-false}
use Rattle.window_events.specs.Windows.{Mappings, shown_in, is_bare, is_held, overwritten, written, guarded, lifted, unguarded, copied, mapped, released, discarded, with_page, at_page, holding, lent, step, run, start, shown, last, own_content}
use Rattle.window_events.specs.Whole.{IsWhole}
use Rattle.window_events.proofs.Whole.{step_whole, whole, shown_last}
use Rattle.window_events.specs.declared.event.Event.{Event}
use Rattle.window_events.specs.declared.event.Event.TheVariants.{Write, Guard, Unguard, Copy, Lend, Map, Release, Trim, Discard}
use Rattle.window_events.specs.declared.page.Page.{Page}
use Rattle.window_events.specs.declared.page.View.TheVariants.{Own, Over}

-- a page is put in the place of one with the same last write, in another place, or in its own
last_set : (pages : List Page) (p q : ℕ) (page new : Page) → slice_get pages p ≡ Some page → new.last ≡ page.last →
    option_map (λ x. x.last) (slice_get (slice_set pages p new) q) ≡ option_map (λ x. x.last) (slice_get pages q)
last_set [] p q page new e h = refl
last_set (x ∷ pages) zero zero page new e h = let same : x ≡ page = cc in ap (λ n. Some n) (h ∙ ap (λ y. y.last) (sym same))
last_set (x ∷ pages) zero (suc q) page new e h = refl
last_set (x ∷ pages) (suc p) zero page new e h = refl
last_set (x ∷ pages) (suc p) (suc q) page new e h = last_set pages p q page new e h

set_other : (pages : List Page) (p q : ℕ) (new : Page) → (p ≡ q → ⊥) → slice_get (slice_set pages p new) q ≡ slice_get pages q
set_other [] p q new ne = refl
set_other (x ∷ pages) zero zero new ne = absurd (ne refl)
set_other (x ∷ pages) zero (suc q) new ne = refl
set_other (x ∷ pages) (suc p) zero new ne = refl
set_other (x ∷ pages) (suc p) (suc q) new ne = set_other pages p q new (λ e. ne (ap (λ k. suc k) e))

set_own : (pages : List Page) (p : ℕ) (page new : Page) → slice_get pages p ≡ Some page → slice_get (slice_set pages p new) p ≡ Some new
set_own [] p page new e = cc
set_own (x ∷ pages) zero page new e = refl
set_own (x ∷ pages) (suc p) page new e = set_own pages p page new e

-- a change that leaves the last write
record Leaves (change : Page → Option Page) : Type 0 where
  leave : (page new : Page) → change page ≡ Some new → new.last ≡ page.last

guarded_leaves : Leaves guarded
guarded_leaves = record { leave = λ page new e. let same : record page { guarded = true } ≡ new = cc in ap (λ x. x.last) (sym same) }

unguarded_leaves : Leaves unguarded
unguarded_leaves = record { leave = λ page new e. let same : lifted page ≡ new = cc in ap (λ x. x.last) (sym same) }

copied_leaves : (frames : List ℕ) → Leaves (copied frames)
copied_leaves frames = record { leave = λ page new e. pick page new page.guarded e } where
  pick : (page new : Page) (b : Bool) → cond b (Some (record page { copy = Some (shown_in frames page.view); copy_fresh = true })) None ≡ Some new → new.last ≡ page.last
  pick page new false e = cc
  pick page new true e = let same : record page { copy = Some (shown_in frames page.view); copy_fresh = true } ≡ new = cc in ap (λ x. x.last) (sym same)

mapped_leaves : Leaves mapped
mapped_leaves = record { leave = λ page new e. pick page new page.frame_fresh page.held e } where
  pick : (page new : Page) (b : Bool) (o : Option ℕ) → cond b (option_map (λ n. record (lifted page) { view = Over n None }) o) None ≡ Some new → new.last ≡ page.last
  pick page new false o e = cc
  pick page new true None e = cc
  pick page new true (Some n) e = let same : record (lifted page) { view = Over n None } ≡ new = cc in ap (λ x. x.last) (sym same)

released_leaves : Leaves released
released_leaves = record { leave = λ page new e. pick page new (is_bare page.view) e } where
  pick : (page new : Page) (b : Bool) → cond b None (Some (record page { held = None; frame_fresh = false })) ≡ Some new → new.last ≡ page.last
  pick page new true e = cc
  pick page new false e = let same : record page { held = None; frame_fresh = false } ≡ new = cc in ap (λ x. x.last) (sym same)

at_page_leaves : (w : Mappings) (p q : ℕ) (change : Page → Option Page) → Leaves change → last (unwrap_or (at_page w p change) w) q ≡ last w q
at_page_leaves w p q change k = pick (slice_get w.pages p) refl where
  pick : (o : Option Page) → slice_get w.pages p ≡ o → last (unwrap_or (option_map (with_page w p) (option_and_then change o)) w) q ≡ last w q
  pick None e = refl
  pick (Some page) e = made (change page) refl where
    made : (o : Option Page) → change page ≡ o → last (unwrap_or (option_map (with_page w p) o) w) q ≡ last w q
    made None f = refl
    made (Some new) f = last_set w.pages p q page new e (k.leave page new f)

-- whatever the change, another page's last write stays
at_page_other : (w : Mappings) (p q : ℕ) (change : Page → Option Page) → (p ≡ q → ⊥) → last (unwrap_or (at_page w p change) w) q ≡ last w q
at_page_other w p q change ne = pick (option_and_then change (slice_get w.pages p)) where
  pick : (o : Option Page) → last (unwrap_or (option_map (with_page w p) o) w) q ≡ last w q
  pick None = refl
  pick (Some new) = ap (λ o. option_map (λ x. x.last) o) (set_other w.pages p q new ne)

-- a content that is no own one is another page's
other_page : (p q x : ℕ) → cond (nat_eq q p) (Some x) None ≡ None → q ≡ p → ⊥
other_page p q x h e = pick (nat_eq q p) refl h where
  pick : (b : Bool) → nat_eq q p ≡ b → cond b (Some x) None ≡ None → ⊥
  pick true t g = cc
  pick false t g = eqb-false q p t e

lend_leaves : (w : Mappings) (p n q : ℕ) → last (unwrap_or (step w (Lend p n)) w) q ≡ last w q
lend_leaves w p n q = pick (slice_get w.pages p) refl where
  pick : (o : Option Page) → slice_get w.pages p ≡ o → last (unwrap_or (option_and_then (λ page. lent w p page n page.copy (slice_get w.frames n)) o) w) q ≡ last w q
  pick None e = refl
  pick (Some page) e = made page.copy (slice_get w.frames n) where
    made : (c f : Option ℕ) → last (unwrap_or (lent w p page n c f) w) q ≡ last w q
    made None f = refl
    made (Some x) None = refl
    made (Some x) (Some y) = free (is_none page.held && (not (is_held n w.pages) || nat_eq y x)) where
      free : (b : Bool) → last (unwrap_or (cond b (Some (record { pages = slice_set w.pages p (holding n page); frames = slice_set w.frames n x })) None) w) q ≡ last w q
      free false = refl
      free true = last_set w.pages p q page (holding n page) e refl

last_stays : (w : Mappings) (e : Event) (p : ℕ) → own_content p e ≡ None → last (unwrap_or (step w e) w) p ≡ last w p
last_stays w (Write q x) p h = at_page_other w q p (written x) (other_page p q x h)
last_stays w (Discard q) p h = at_page_other w q p discarded (other_page p q 0 h)
last_stays w (Guard q) p h = at_page_leaves w q p guarded guarded_leaves
last_stays w (Unguard q) p h = at_page_leaves w q p unguarded unguarded_leaves
last_stays w (Copy q) p h = at_page_leaves w q p (copied w.frames) (copied_leaves w.frames)
last_stays w (Map q) p h = at_page_leaves w q p mapped mapped_leaves
last_stays w (Release q) p h = at_page_leaves w q p released released_leaves
last_stays w (Lend q n) p h = lend_leaves w q n p
last_stays w (Trim n x) p h = pick (nat_lt n (length w.frames) && not (is_held n w.pages)) where
  pick : (b : Bool) → last (unwrap_or (cond b (Some (record { pages = w.pages; frames = slice_set w.frames n x })) None) w) p ≡ last w p
  pick false = refl
  pick true = refl

-- a change that makes x the last write
record Writes (change : Page → Option Page) (x : ℕ) : Type 0 where
  write : (page new : Page) → change page ≡ Some new → new.last ≡ x

written_writes : (x : ℕ) → Writes (written x) x
written_writes x = record { write = λ page new e. pick page new page.guarded e } where
  pick : (page new : Page) (b : Bool) → cond b None (Some (record page { view = overwritten page.view x; last = x })) ≡ Some new → new.last ≡ x
  pick page new true e = cc
  pick page new false e = let same : record page { view = overwritten page.view x; last = x } ≡ new = cc in ap (λ y. y.last) (sym same)

discarded_writes : Writes discarded 0
discarded_writes = record { write = λ page new e. let same : record (lifted page) { view = Own 0; last = 0 } ≡ new = cc in ap (λ y. y.last) (sym same) }

at_page_writes : (w after : Mappings) (p x : ℕ) (change : Page → Option Page) → Writes change x → at_page w p change ≡ Some after → last after p ≡ Some x
at_page_writes w after p x change k = pick (slice_get w.pages p) refl where
  pick : (o : Option Page) → slice_get w.pages p ≡ o → option_map (with_page w p) (option_and_then change o) ≡ Some after → last after p ≡ Some x
  pick None e h = cc
  pick (Some page) e h = made (change page) refl h where
    made : (o : Option Page) → change page ≡ o → option_map (with_page w p) o ≡ Some after → last after p ≡ Some x
    made None f g = cc
    made (Some new) f g =
        let same : with_page w p new ≡ after = cc in
        subst (λ v. last v p ≡ Some x) same (ap (λ o. option_map (λ y. y.last) o) (set_own w.pages p page new e) ∙ ap (λ n. Some n) (k.write page new f))

-- an own content is this page's
own_page : (w after : Mappings) (p q x y : ℕ) (change : Page → Option Page) → Writes change y → cond (nat_eq q p) (Some y) None ≡ Some x → at_page w q change ≡ Some after → last after p ≡ Some x
own_page w after p q x y change k h s = pick (nat_eq q p) refl h where
  pick : (b : Bool) → nat_eq q p ≡ b → cond b (Some y) None ≡ Some x → last after p ≡ Some x
  pick false t g = cc
  pick true t g =
      let here : q ≡ p = eqb-true q p t in
      subst (λ i. last after i ≡ Some x) here (at_page_writes w after q y change k s ∙ g)

last_written : (w after : Mappings) (e : Event) (p x : ℕ) → own_content p e ≡ Some x → step w e ≡ Some after → last after p ≡ Some x
last_written w after (Write q y) p x h s = own_page w after p q x y (written y) (written_writes y) h s
last_written w after (Discard q) p x h s = own_page w after p q x 0 discarded discarded_writes h s
last_written w after (Guard q) p x h s = cc
last_written w after (Unguard q) p x h s = cc
last_written w after (Copy q) p x h s = cc
last_written w after (Map q) p x h s = cc
last_written w after (Release q) p x h s = cc
last_written w after (Lend q n) p x h s = cc
last_written w after (Trim n y) p x h s = cc

pub keeps_others : (es : List Event) (e : Event) (p : ℕ) (contents frames : List ℕ) → let w = run step (start contents frames) es in
    own_content p e ≡ None → shown (unwrap_or (step w e) w) p ≡ shown w p
keeps_others es e p contents frames h =
    let w = run step (start contents frames) es in
    let is_whole = whole contents frames es in
    shown_last (unwrap_or (step w e) w) p (step_whole w e is_whole) ∙ last_stays w e p h ∙ sym (shown_last w p is_whole)

pub shows_written : (es : List Event) (e : Event) (p : ℕ) (contents frames : List ℕ) (x : ℕ) (after : Mappings) → let w = run step (start contents frames) es in
    own_content p e ≡ Some x → step w e ≡ Some after → shown after p ≡ Some x
shows_written es e p contents frames x after h s =
    let w = run step (start contents frames) es in
    let next : IsWhole after = subst (λ o. IsWhole (unwrap_or o w)) s (step_whole w e (whole contents frames es)) in
    shown_last after p next ∙ last_written w after e p x h s
