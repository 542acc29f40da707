-- Each life of a page keeps what is believed right.
use Rattle.std.proofs.Common.{◌≡◌, ◌∙◌, ℕ, zero, suc, ◌+◌, ◌<◌, inl, inr, Bool, true, false, ◌&&◌, cond, List, length, Option, Some, None, refl, ap, sym, subst, arith}
use Rattle.std.specs.Prelude.{nat_eq, option_map, replicate, slice_get, unwrap_or}
use Rattle.page_lender.specs.Events.{Believes, Fits}
use Rattle.page_lender.specs.declared.belief.Belief.{Belief}
use Rattle.page_lender.specs.declared.belief.Belief.TheVariants.{Private, Turning}
use Rattle.page_lender.specs.declared.belief.Stage.TheVariants.{LettingGo}
use Rattle.page_lender.specs.declared.belief.Target.TheVariants.{Zeros}
use Rattle.page_lender.proofs.Kept.{kept_by_guest, kept_by_others}
use Rattle.window_events.specs.Windows.{Mappings, shown_in, step}
use Rattle.window_events.specs.declared.page.Page.{Page}
use Rattle.window_pages.specs.Bytes.{belief_of}
use Rattle.window_pages.specs.Changed.{left_alone}
use Rattle.window_pages.specs.Lives.{Calls, EachLifeIsWell, HasNothing, IsOthers, IsRightStill, Life, OneChanges, ShowsOn, WasDetached, begins, calls, chooses, detaches, events_for, gives_up, hears, left_page, orders, others, places, takes}
use Rattle.window_pages.specs.Laws.{new_page}
use Rattle.window_pages.proofs.Apart.{apart_keeps, differs, events_apart}
use Rattle.page_lender.specs.Decisions.{account, due, waiting}
use Rattle.window_events.specs.declared.event.Event.{Event}
use Rattle.std.proofs.lemmas.Bool.{eqb-false, eqb-true}
use Rattle.std.proofs.lemmas.List.{length-replicate}
use Rattle.std.proofs.lemmas.Option.{slice_get_within}
use Rattle.window_pages.specs.declared.page.WindowPage.{WindowPage}

-- what is believed is right of the page that is there
fits_at : (p : ℕ) (belief : Belief) (w : Mappings) (page : Page) → Believes belief w p → slice_get w.pages p ≡ Some page → Fits belief page
fits_at p belief w page b e =
    let is_there : slice_get w.pages p ≡ Some b.page = b.there in
    let same : b.page ≡ page = cc in
    subst (λ x. Fits belief x) same b.fits

abbrev at : (p : ℕ) (belief : Belief) (w : Mappings) (page : Page) → Believes belief w p → slice_get w.pages p ≡ Some page → Believes belief w p
at p belief w page b e = record { page = page; there = e; fits = fits_at p belief w page b e }

call_right : (p : ℕ) (now : Mappings) (x y : WindowPage) (next : Mappings) → Calls p now x y next → Believes (belief_of x) now p → Believes (belief_of y) next p
call_right p now x y next (takes old new part after outcome was_done page e h t) b = (h.lender.events now p was_done (at p (belief_of old) now page b e) t).right
call_right p now x y next (orders old new part after order bars h) b = h.lender.right now p b
call_right p now x y next (chooses old new part after its bars h) b = h.lender.right now p b
call_right p now x y next (hears old new part after notice page e v h) b = h.lender.right now p (at p (belief_of old) now page b e) v
call_right p now x y next (gives_up old new page e v h s) b = subst (λ z. Believes z now p) (sym s) (h now p (at p (belief_of old) now page b e) v)
call_right p now x y next (places old new s) b = subst (λ z. Believes z now p) (sym s) b

-- a call for one page leaves what is believed of another one right
call_spares : (p q : ℕ) (now : Mappings) (x y : WindowPage) (next : Mappings) (belief : Belief) → nat_eq p q ≡ false → Calls p now x y next → Believes belief now q →
    Believes belief next q
call_spares p q now x y next belief d (takes old new part after outcome was_done page e h t) b =
    apart_keeps q belief (events_for p old page now outcome was_done) now (events_apart p q (shown_in now.frames page.view) (due (belief_of old)) outcome was_done d) b
call_spares p q now x y next belief d (orders old new part after order bars h) b = b
call_spares p q now x y next belief d (chooses old new part after its bars h) b = b
call_spares p q now x y next belief d (hears old new part after notice page e v h) b = b
call_spares p q now x y next belief d (gives_up old new page e v h s) b = b
call_spares p q now x y next belief d (places old new s) b = b

others_spare : (p : ℕ) (belief : Belief) (now : Mappings) (e : Event) → IsOthers p e → Believes belief now p → Believes belief (unwrap_or (step now e) now) p
others_spare p belief now e (inl g) b = kept_by_guest belief now p e g b
others_spare p belief now e (inr o) b = kept_by_others belief now p e o b

new_is_private : (n i : ℕ) (x : WindowPage) → slice_get (replicate n new_page) i ≡ Some x → belief_of x ≡ Private
new_is_private zero i x e = cc
new_is_private (suc n) zero x e = let is : new_page ≡ x = cc in sym (ap (λ z. belief_of z) is)
new_is_private (suc n) (suc i) x e = new_is_private n i x e

life_count : (first count : ℕ) (w : Mappings) (pages : List WindowPage) (now : Mappings) → Life first count w pages now → length pages ≡ count
life_count first count w pages now begins = length-replicate count new_page
life_count first count w pages now (calls old new i x y before next l c k) = c.count ∙ life_count first count w old before l
life_count first count w pages now (others its before e l o) = life_count first count w its before l
life_count first count w pages now (detaches old new before next l d n) = d.count ∙ life_count first count w old before l

-- a call for one page of a table
one_changed : (first : ℕ) (old new : List WindowPage) (k : ℕ) (y z : WindowPage) (before next : Mappings) →
    ((j : ℕ) (v : WindowPage) → slice_get old j ≡ Some v → Believes (belief_of v) before (first + j)) → OneChanges k y z old new → Calls (first + k) before y z next →
    (i : ℕ) (x : WindowPage) → slice_get new i ≡ Some x → Believes (belief_of x) next (first + i)
one_changed first old new k y z before next all c m i x e = pick (nat_eq i k) refl where
  apart_of : nat_eq i k ≡ false → i ≡ k → ⊥
  apart_of t s = eqb-false i k t s

  pick : (t : Bool) → nat_eq i k ≡ t → Believes (belief_of x) next (first + i)
  pick true t =
      let is : i ≡ k = eqb-true i k t in
      let its : slice_get new k ≡ Some x = ap (λ j. slice_get new j) (sym is) ∙ e in
      let placed : slice_get new k ≡ Some z = c.after in
      let same : z ≡ x = cc in
      let right : Believes (belief_of z) next (first + k) = call_right (first + k) before y z next m (all k y c.before) in
      subst (λ j. Believes (belief_of x) next (first + j)) (sym is) (subst (λ v. Believes (belief_of v) next (first + k)) same right)
  pick false t =
      let kept : slice_get old i ≡ Some x = sym (c.others i (apart_of t)) ∙ e in
      let other : nat_eq (first + k) (first + i) ≡ false = differs (first + k) (first + i) (λ s. apart_of t (omega (arith, s))) in
      call_spares (first + k) (first + i) before y z next (belief_of x) other m (all i x kept)

-- what is believed of a page whose lender is gone
left_fits : (belief : Belief) (frames : List ℕ) (stands : Bool) (page : Page) → Fits belief page → Fits (left_alone belief) (left_page frames stands page)
left_fits belief frames stands page f = pick (waiting belief) refl where
  pick : (b : Bool) → waiting belief ≡ b → Fits (left_alone belief) (left_page frames stands page)
  pick true e = subst (λ b. Fits (cond b (Turning LettingGo Zeros) Private) (left_page frames stands page)) (sym e) (record { holds = refl; view = refl; waits = λ h. cc; copy = refl })
  pick false e = subst (λ b. Fits (cond b (Turning LettingGo Zeros) Private) (left_page frames stands page)) (sym e) (record { holds = refl; view = refl; waits = λ h. ap (λ g. g && stands) (f.waits e); copy = refl })

left_belief : (i : ℕ) (old : List WindowPage) (y : WindowPage) (d : WasDetached i old y) → belief_of y ≡ left_alone (belief_of d.page)
left_belief i old y d = ap (λ k. k.belief) d.becomes.known

left_right : (p i : ℕ) (old : List WindowPage) (y : WindowPage) (now next : Mappings) (stands : Bool) (d : WasDetached i old y) →
    slice_get next.pages p ≡ option_map (left_page now.frames stands) (slice_get now.pages p) → Believes (belief_of d.page) now p → Believes (belief_of y) next p
left_right p i old y now next stands d n b = subst (λ z. Believes z next p) (sym (left_belief i old y d)) (record {
  page = left_page now.frames stands b.page;
  there = n ∙ ap (option_map (left_page now.frames stands)) b.there;
  fits = left_fits (belief_of d.page) now.frames stands b.page b.fits;
})

life_right : (first count : ℕ) (w : Mappings) → ((i : ℕ) → i < count → Believes Private w (first + i)) → (pages : List WindowPage) (now : Mappings) → Life first count w pages now →
    (i : ℕ) (x : WindowPage) → slice_get pages i ≡ Some x → Believes (belief_of x) now (first + i)
life_right first count w b pages now begins i x e =
    let l : i < count = omega (arith, slice_get_within (replicate count new_page) i x e, length-replicate count new_page) in
    subst (λ z. Believes z w (first + i)) (sym (new_is_private count i x e)) (b i l)
life_right first count w b pages now (calls old new k y z before next l c m) i x e =
    one_changed first old new k y z before next (λ j v g. life_right first count w b old before l j v g) c m i x e
life_right first count w b pages now (others its before event l o) i x e =
    let n : i < count = omega (arith, slice_get_within its i x e, life_count first count w its before l) in
    others_spare (first + i) (belief_of x) before event (o i n) (life_right first count w b its before l i x e)
life_right first count w b pages now (detaches old new before next l d n) i x e =
    let its : WasDetached i old x = d.each i x e in
    let s : i < count = omega (arith, slice_get_within old i its.page its.before, life_count first count w old before l) in
    left_right (first + i) i old x before next (n.stands i) its (n.pages i s) (life_right first count w b old before l i its.page its.before)

pub each_life_is_well : EachLifeIsWell
each_life_is_well first count pages w now b l i x e =
    let right : Believes (belief_of x) now (first + i) = life_right first count w b pages now l i x e in
    record {
      right = right;
      possible = λ new part after outcome was_done page g h t. (h.lender.events now (first + i) was_done (at (first + i) (belief_of x) now page right g) t).possible;
    }

pub shows_on : ShowsOn
shows_on first count i now next n s = ap (option_map (λ page. shown_in next.frames page.view)) (n.pages i s) ∙ same (slice_get now.pages (first + i)) where
  same : (o : Option Page) → option_map (λ page. shown_in next.frames page.view) (option_map (left_page now.frames (n.stands i)) o) ≡ option_map (λ page. shown_in now.frames page.view) o
  same None = refl
  same (Some page) = refl

pub is_right_still : IsRightStill
is_right_still frames after stands page r = record {
  shows = r.shows;
  holds = λ n e. cc;
  copy_waits = λ e. cc;
  frame_waits = λ e. cc;
  copied = λ x e. cc;
  lends = λ n e. cc;
}

pub has_nothing : HasNothing
has_nothing i old new d = ap account (left_belief i old new d) ∙ pick (waiting (belief_of d.page)) where
  pick : (b : Bool) → account (cond b (Turning LettingGo Zeros) Private) ≡ None
  pick true = refl
  pick false = refl
