-- A page that shows a frame itself is noted to lie over one.
use Rattle.std.proofs.Common.{◌≡◌, ◌∙◌, ℕ, ◌+◌, ◌<◌, inl, inr, Bool, true, false, cond, not, ◌&&◌, ◌||◌, List, [], ◌∷◌, length, Option, Some, None, refl, ap, sym, subst, arith}
use Rattle.std.specs.Prelude.{is_none, nat_eq, nat_lt, option_and_then, option_map, slice_get, slice_set, unwrap_or}
use Rattle.std.specs.Option.{option_map_or}
use Rattle.std.proofs.lemmas.Bool.{eqb-false, eqb-true}
use Rattle.std.proofs.lemmas.Option.{slice_get_within}
use Rattle.window_events.specs.Played.{played}
use Rattle.window_events.specs.Windows.{Mappings, at_page, copied, discarded, guarded, holding, is_bare, is_held, lent, lifted, mapped, overwritten, released, shown_in, step, unguarded, with_page, written}
use Rattle.window_events.specs.declared.event.Event.{Event}
use Rattle.window_events.specs.declared.event.Event.TheVariants.{Write, Guard, Unguard, Copy, Lend, Map, Release, Trim, Discard}
use Rattle.window_events.specs.declared.page.Page.{Page}
use Rattle.window_events.specs.declared.page.View.{View}
use Rattle.window_events.specs.declared.page.View.TheVariants.{Own, Over}
use Rattle.page_lender.specs.Events.{Believes, done_events}
use Rattle.page_lender.specs.declared.belief.Belief.TheVariants.{Private}
use Rattle.page_lender.specs.declared.belief.Target.TheVariants.{Frame, Zeros}
use Rattle.page_lender.specs.declared.order.Order.{Order}
use Rattle.page_lender.proofs.Kept.{set_own}
use Rattle.window_pages.specs.Bytes.{belief_of, known_of}
use Rattle.window_pages.specs.Lives.{IsOthers, OneChanges, WasDetached, left_page}
use Rattle.window_pages.specs.declared.page.WindowPage.{WindowPage}
use Rattle.lending_laws.specs.Histories.{Begins, Calls, CallsAt, CarriedOut, CarriesOut, DetachesAt, Given, Happens, History, IsToldAt, LeftBeside, Moment, NextComes, Nothing, Pending, begins, calls, carries_out, chooses, detaches, gives_up, happens, hears, is_told, left_beside, next_comes, notes, orders}
use Rattle.lending_laws.specs.Reading.{EachFrameIsNoted}
use Rattle.lending_laws.proofs.Beliefs.{IsFine, call_unmoved}
use Rattle.lending_laws.proofs.Kept.{IsKept, differs, history_kept}
use Rattle.lending_laws.proofs.Pages.{set_other}

-- ---- only a mapping makes a page show a frame

-- page p shows a frame itself
abbrev pub bare_at : Mappings → ℕ → Bool
bare_at w p = option_map_or (λ page. is_bare page.view) (slice_get w.pages p) false

-- a change after which a page shows a frame only if it did
record Bares (change : Page → Option Page) : Type 0 where
  bared : (page new : Page) → change page ≡ Some new → is_bare new.view ≡ true → is_bare page.view ≡ true

never_bare : (v : View) (x : ℕ) → is_bare (overwritten v x) ≡ true → ⊥
never_bare (Own y) x e = cc
never_bare (Over n c) x e = cc

written_bares : (x : ℕ) → Bares (written x)
written_bares x = record { bared = λ page new e b. pick page new page.guarded e b } where
  pick : (page new : Page) (g : Bool) → cond g None (Some (record page { view = overwritten page.view x; last = x })) ≡ Some new → is_bare new.view ≡ true → is_bare page.view ≡ true
  pick page new true e b = cc
  pick page new false e b =
      let same : record page { view = overwritten page.view x; last = x } ≡ new = cc in
      absurd (never_bare page.view x (ap (λ q. is_bare q.view) same ∙ b))

discarded_bares : Bares discarded
discarded_bares = record {
  bared = λ page new e b.
      let same : record (lifted page) { view = Own 0; last = 0 } ≡ new = cc in
      let none : false ≡ true = ap (λ q. is_bare q.view) same ∙ b in
      cc;
}

guarded_bares : Bares guarded
guarded_bares = record { bared = λ page new e b. let same : record page { guarded = true } ≡ new = cc in ap (λ q. is_bare q.view) same ∙ b }

unguarded_bares : Bares unguarded
unguarded_bares = record { bared = λ page new e b. let same : lifted page ≡ new = cc in ap (λ q. is_bare q.view) same ∙ b }

copied_bares : (frames : List ℕ) → Bares (copied frames)
copied_bares frames = record { bared = λ page new e b. pick page new page.guarded e b } where
  pick : (page new : Page) (g : Bool) → cond g (Some (record page { copy = Some (shown_in frames page.view); copy_fresh = true })) None ≡ Some new → is_bare new.view ≡ true → is_bare page.view ≡ true
  pick page new false e b = cc
  pick page new true e b = let same : record page { copy = Some (shown_in frames page.view); copy_fresh = true } ≡ new = cc in ap (λ q. is_bare q.view) same ∙ b

released_bares : Bares released
released_bares = record { bared = λ page new e b. pick page new (is_bare page.view) e b } where
  pick : (page new : Page) (g : Bool) → cond g None (Some (record page { held = None; frame_fresh = false })) ≡ Some new → is_bare new.view ≡ true → is_bare page.view ≡ true
  pick page new true e b = cc
  pick page new false e b = let same : record page { held = None; frame_fresh = false } ≡ new = cc in ap (λ q. is_bare q.view) same ∙ b

is_at : (w : Mappings) (p : ℕ) (page : Page) → slice_get w.pages p ≡ Some page → bare_at w p ≡ is_bare page.view
is_at w p page e = ap (λ o. option_map_or (λ q. is_bare q.view) o false) e

-- another page's change
other_bare : (w : Mappings) (p q : ℕ) (new : Page) → (q ≡ p → ⊥) → bare_at (with_page w q new) p ≡ bare_at w p
other_bare w p q new ne = ap (λ o. option_map_or (λ page. is_bare page.view) o false) (set_other w.pages q p new ne)

at_other : (w : Mappings) (p q : ℕ) (change : Page → Option Page) → (q ≡ p → ⊥) → bare_at (unwrap_or (at_page w q change) w) p ≡ true → bare_at w p ≡ true
at_other w p q change ne b = pick (option_and_then change (slice_get w.pages q)) b where
  pick : (o : Option Page) → bare_at (unwrap_or (option_map (with_page w q) o) w) p ≡ true → bare_at w p ≡ true
  pick None b = b
  pick (Some new) b = sym (other_bare w p q new ne) ∙ b

at_bare : (w : Mappings) (p q : ℕ) (change : Page → Option Page) → Bares change → bare_at (unwrap_or (at_page w q change) w) p ≡ true → bare_at w p ≡ true
at_bare w p q change k b = pick (nat_eq q p) refl where
  own : q ≡ p → bare_at w p ≡ true
  own is = found (slice_get w.pages q) refl b where
    found : (o : Option Page) → slice_get w.pages q ≡ o → bare_at (unwrap_or (option_map (with_page w q) (option_and_then change o)) w) p ≡ true → bare_at w p ≡ true
    found None e b = b
    found (Some page) e b = made (change page) refl b where
      made : (o : Option Page) → change page ≡ o → bare_at (unwrap_or (option_map (with_page w q) o) w) p ≡ true → bare_at w p ≡ true
      made None f b = b
      made (Some new) f b =
          let there : slice_get (with_page w q new).pages p ≡ Some new = subst (λ j. slice_get (with_page w q new).pages j ≡ Some new) is (set_own w.pages q page new e) in
          let before : slice_get w.pages p ≡ Some page = ap (λ j. slice_get w.pages j) (sym is) ∙ e in
          is_at w p page before ∙ k.bared page new f (sym (is_at (with_page w q new) p new there) ∙ b)

  pick : (t : Bool) → nat_eq q p ≡ t → bare_at w p ≡ true
  pick true t = own (eqb-true q p t)
  pick false t = at_other w p q change (eqb-false q p t) b

lend_bare : (w : Mappings) (p q n : ℕ) → bare_at (unwrap_or (step w (Lend q n)) w) p ≡ true → bare_at w p ≡ true
lend_bare w p q n b = pick (slice_get w.pages q) refl b where
  pick : (o : Option Page) → slice_get w.pages q ≡ o → bare_at (unwrap_or (option_and_then (λ page. lent w q page n page.copy (slice_get w.frames n)) o) w) p ≡ true → bare_at w p ≡ true
  pick None e b = b
  pick (Some page) e b = made page.copy (slice_get w.frames n) b where
    made : (c f : Option ℕ) → bare_at (unwrap_or (lent w q page n c f) w) p ≡ true → bare_at w p ≡ true
    made None f b = b
    made (Some x) None b = b
    made (Some x) (Some y) b = free (is_none page.held && (not (is_held n w.pages) || nat_eq y x)) b where
      free : (t : Bool) → bare_at (unwrap_or (cond t (Some (record { pages = slice_set w.pages q (holding n page); frames = slice_set w.frames n x })) None) w) p ≡ true → bare_at w p ≡ true
      free false b = b
      free true b = either (nat_eq q p) refl where
        either : (t : Bool) → nat_eq q p ≡ t → bare_at w p ≡ true
        either true t =
            let is : q ≡ p = eqb-true q p t in
            let there : slice_get (slice_set w.pages q (holding n page)) p ≡ Some (holding n page) = subst (λ j. slice_get (slice_set w.pages q (holding n page)) j ≡ Some (holding n page)) is (set_own w.pages q page (holding n page) e) in
            let before : slice_get w.pages p ≡ Some page = ap (λ j. slice_get w.pages j) (sym is) ∙ e in
            is_at w p page before ∙ sym (ap (λ o. option_map_or (λ z. is_bare z.view) o false) there) ∙ b
        either false t = sym (other_bare w p q (holding n page) (eqb-false q p t)) ∙ b

-- the event maps page p
abbrev pub is_map : ℕ → Event → Bool
is_map p (Write q x) = false
is_map p (Guard q) = false
is_map p (Unguard q) = false
is_map p (Copy q) = false
is_map p (Lend q n) = false
is_map p (Map q) = nat_eq q p
is_map p (Release q) = false
is_map p (Trim n x) = false
is_map p (Discard q) = false

event_bare : (w : Mappings) (p : ℕ) (e : Event) → is_map p e ≡ false → bare_at (unwrap_or (step w e) w) p ≡ true → bare_at w p ≡ true
event_bare w p (Write q x) t b = at_bare w p q (written x) (written_bares x) b
event_bare w p (Guard q) t b = at_bare w p q guarded guarded_bares b
event_bare w p (Unguard q) t b = at_bare w p q unguarded unguarded_bares b
event_bare w p (Copy q) t b = at_bare w p q (copied w.frames) (copied_bares w.frames) b
event_bare w p (Lend q n) t b = lend_bare w p q n b
event_bare w p (Map q) t b = at_other w p q mapped (eqb-false q p t) b
event_bare w p (Release q) t b = at_bare w p q released released_bares b
event_bare w p (Discard q) t b = at_bare w p q discarded discarded_bares b
event_bare w p (Trim n x) t b = pick (nat_lt n (length w.frames) && not (is_held n w.pages)) b where
  pick : (c : Bool) → bare_at (unwrap_or (cond c (Some (record { pages = w.pages; frames = slice_set w.frames n x })) None) w) p ≡ true → bare_at w p ≡ true
  pick false b = b
  pick true b = b

abbrev pub NoMap : ℕ → List Event → Type 0
NoMap p [] = Unit {0}
NoMap p (e ∷ es) = (is_map p e ≡ false) × NoMap p es

played_bare : (p : ℕ) (es : List Event) (w : Mappings) → NoMap p es → bare_at (played w es) p ≡ true → bare_at w p ≡ true
played_bare p [] w n b = b
played_bare p (e ∷ es) w n b = pick (λ next k. played_bare p es next n.1 k) (step w e) refl b where
  pick : ((next : Mappings) → bare_at (played next es) p ≡ true → bare_at next p ≡ true) → (o : Option Mappings) → step w e ≡ o → bare_at (option_map_or (λ next. played next es) o w) p ≡ true → bare_at w p ≡ true
  pick again None s b = b
  pick again (Some next) s b = event_bare w p e n.0 (ap (λ o. bare_at (unwrap_or o w) p) s ∙ again next b)

-- the order maps a frame
abbrev pub is_mapping : Order → Bool
is_mapping Order.Wait = false
is_mapping Order.Copy = false
is_mapping Order.Lend = false
is_mapping (Order.Hold target) = false
is_mapping (Order.Compare target) = false
is_mapping (Order.Map (Frame slot n)) = true
is_mapping (Order.Map Zeros) = false
is_mapping (Order.LetGo target) = false
is_mapping (Order.TakeHome in_place) = false
is_mapping (Order.Release slot) = false

-- the events of page q's order don't map page p, unless it is that page's mapping
done_no_map : (p q x : ℕ) (order : Order) → (is_mapping order ≡ true → nat_eq q p ≡ false) → NoMap p (done_events q x order)
done_no_map p q x Order.Wait n = tt
done_no_map p q x Order.Copy n = tt
done_no_map p q x Order.Lend n = tt
done_no_map p q x (Order.Hold target) n = (refl, tt)
done_no_map p q x (Order.Compare (Frame slot m)) n = (refl, (refl, tt))
done_no_map p q x (Order.Compare Zeros) n = (refl, tt)
done_no_map p q x (Order.Map (Frame slot m)) n = (n refl, tt)
done_no_map p q x (Order.Map Zeros) n = (refl, tt)
done_no_map p q x (Order.LetGo target) n = (refl, tt)
done_no_map p q x (Order.TakeHome in_place) n = (refl, tt)
done_no_map p q x (Order.Release slot) n = (refl, tt)

mapping_is : (order : Order) → is_mapping order ≡ true → (slot : ℕ) × (n : ℕ) × (order ≡ Order.Map (Frame slot n))
mapping_is Order.Wait e = cc
mapping_is Order.Copy e = cc
mapping_is Order.Lend e = cc
mapping_is (Order.Hold target) e = cc
mapping_is (Order.Compare target) e = cc
mapping_is (Order.Map (Frame slot m)) e = (slot, m, refl)
mapping_is (Order.Map Zeros) e = cc
mapping_is (Order.LetGo target) e = cc
mapping_is (Order.TakeHome in_place) e = cc
mapping_is (Order.Release slot) e = cc

others_no_map : (p : ℕ) (e : Event) → IsOthers p e → is_map p e ≡ false
others_no_map p (Write q x) o = refl
others_no_map p (Guard q) o = refl
others_no_map p (Unguard q) o = refl
others_no_map p (Copy q) o = refl
others_no_map p (Lend q n) o = refl
others_no_map p (Map q) (inl g) = cc
others_no_map p (Map q) (inr o) = o
others_no_map p (Release q) o = refl
others_no_map p (Trim n x) o = refl
others_no_map p (Discard q) o = refl

-- ---- what is noted

-- no mapping is untold
abbrev pub IsNotMapped : Pending → Type 0
IsNotMapped pending = (slot n : ℕ) → pending ≡ CarriedOut (Order.Map (Frame slot n)) → ⊥

pub record AreNoted (first : ℕ) (m : Moment) : Type 0 where
  pub noted : (i : ℕ) (x : WindowPage) → slice_get m.pages i ≡ Some x → bare_at m.world (first + i) ≡ true → IsNotMapped (m.orders i) → (known_of x).over ≡ true

private_view : (p : ℕ) (w : Mappings) → Believes Private w p → bare_at w p ≡ false
private_view p w b = is_at w p b.page b.there ∙ unbared b.page.view b.fits.view where
  unbared : (view : View) → not (is_bare view) ≡ true → is_bare view ≡ false
  unbared (Own x) e = refl
  unbared (Over n (Some x)) e = refl
  unbared (Over n None) e = cc

not_both : (b : Bool) → b ≡ false → b ≡ true → ⊥
not_both b e f = cc

begins_noted : (first count : ℕ) (m : Moment) → IsKept first count m → Begins first count m → AreNoted first m
begins_noted first count m k b = record {
  noted = λ i x e s n.
      let l : i < count = omega (arith, slice_get_within m.pages i x e, k.many) in
      absurd (not_both (bare_at m.world (first + i)) (private_view (first + i) m.world (b.believes i l)) s);
}

not_true : (b : Bool) → (b ≡ false → ⊥) → b ≡ true
not_true true e = refl
not_true false e = absurd (e refl)

-- a page at a place isn't bare where it is said so
bare_page : (w : Mappings) (p : ℕ) (page : Page) → slice_get w.pages p ≡ Some page → is_bare page.view ≡ false → bare_at w p ≡ true → ⊥
bare_page w p page e f b = not_both (bare_at w p) (is_at w p page e ∙ f) b

page_bare : (w : Mappings) (p : ℕ) → bare_at w p ≡ true → (page : Page) × (slice_get w.pages p ≡ Some page)
page_bare w p b = pick (slice_get w.pages p) refl b where
  pick : (o : Option Page) → slice_get w.pages p ≡ o → option_map_or (λ page. is_bare page.view) o false ≡ true → (page : Page) × (slice_get w.pages p ≡ Some page)
  pick None e b = cc
  pick (Some page) e b = (page, e)

call_over : (p : ℕ) (w : Mappings) (x y : WindowPage) (before next : Pending) → Calls p w x before y next → bare_at w p ≡ true → (known_of x).over ≡ true → (known_of y).over ≡ true
call_over p w x y before next (chooses old new part after is_zeros bars pending h) b o = ap (λ k. k.over) h.place ∙ o
call_over p w x y before next (orders old new part after order bars pending h) b o = ap (λ k. k.over) h.place ∙ o
call_over p w x y before next (hears old new part after notice pending page e v busy h) b o = ap (λ k. k.over) h.place ∙ o
call_over p w x y before next (gives_up old new pending page e v g) b o = absurd (bare_page w p page e v b)
call_over p w x y before next (notes old new pending k) b o =
    let there = page_bare w p b in
    not_true (known_of new).over (λ f. bare_page w p there.0 there.1 (k.place there.0 o f there.1) b)

-- an order that was carried out is still pending after a call
still_mapped : (p : ℕ) (w : Mappings) (x y : WindowPage) (before next : Pending) → Calls p w x before y next → IsFine p (belief_of x) (known_of x).ordered w before → IsNotMapped next → IsNotMapped before
still_mapped p w x y before next c f n slot m e =
    let g : IsFine p (belief_of x) (known_of x).ordered w (CarriedOut (Order.Map (Frame slot m))) = subst (λ v. IsFine p (belief_of x) (known_of x).ordered w v) e f in
    n slot m ((call_unmoved p w x y before next (Order.Map (Frame slot m)) c g.0).pending ∙ e)

one_noted : (first k : ℕ) (y z : WindowPage) (old new : Moment) → OneChanges k y z old.pages new.pages → new.world ≡ old.world → ((j : ℕ) → (j ≡ k → ⊥) → new.orders j ≡ old.orders j) → AreNoted first old →
    (bare_at old.world (first + k) ≡ true → IsNotMapped (new.orders k) → (known_of z).over ≡ true) → AreNoted first new
one_noted first k y z old new c w o h own = record {
  noted = λ i x e s n. pick i x e (ap (λ v. bare_at v (first + i)) (sym w) ∙ s) n (nat_eq i k) refl;
} where
  pick : (i : ℕ) (x : WindowPage) → slice_get new.pages i ≡ Some x → bare_at old.world (first + i) ≡ true → IsNotMapped (new.orders i) → (t : Bool) → nat_eq i k ≡ t → (known_of x).over ≡ true
  pick i x e s n true t =
      let is : i ≡ k = eqb-true i k t in
      let its : slice_get new.pages k ≡ Some x = ap (λ j. slice_get new.pages j) (sym is) ∙ e in
      let placed : slice_get new.pages k ≡ Some z = c.after in
      let same : z ≡ x = cc in
      subst (λ v. (known_of v).over ≡ true) same (own (subst (λ j. bare_at old.world (first + j) ≡ true) is s) (subst (λ j. IsNotMapped (new.orders j)) is n))
  pick i x e s n false t =
      let ne : i ≡ k → ⊥ = eqb-false i k t in
      h.noted i x (sym (c.others i ne) ∙ e) s (subst (λ v. IsNotMapped v) (o i ne) n)

calls_noted : (first count k : ℕ) (old new : Moment) → IsKept first count old → AreNoted first old → CallsAt first k old new → AreNoted first new
calls_noted first count k old new f h c =
    one_noted first k c.before c.after old new c.pages c.world c.orders.others h (λ s n.
    let fine : IsFine (first + k) (belief_of c.before) (known_of c.before).ordered old.world (old.orders k) = f.fine k c.before c.pages.before in
    call_over (first + k) old.world c.before c.after (old.orders k) c.pending c.call s
    (h.noted k c.before c.pages.before s (still_mapped (first + k) old.world c.before c.after (old.orders k) c.pending c.call fine (subst (λ v. IsNotMapped v) c.orders.own n))))

-- what is pending is an untold mapping, or isn't
told_over : (pending : Pending) (over : Bool) → ((slot n : ℕ) → pending ≡ CarriedOut (Order.Map (Frame slot n)) → over ≡ true) → (IsNotMapped pending → over ≡ true) → over ≡ true
told_over Nothing over yet h = h (λ slot n e. cc)
told_over (Given order) over yet h = h (λ slot n e. cc)
told_over (CarriedOut order) over yet h = pick (is_mapping order) refl where
  pick : (b : Bool) → is_mapping order ≡ b → over ≡ true
  pick true e = let is = mapping_is order e in yet is.0 is.1 (ap (λ v. CarriedOut v) is.2)
  pick false e = h (λ slot n s. let same : order ≡ Order.Map (Frame slot n) = cc in not_both (is_mapping order) e (ap (λ v. is_mapping v) same))

told_noted : (may_give : (ℕ → Bool) → ℕ → Bool) (first k : ℕ) (old new : Moment) → AreNoted first old → IsToldAt may_give k old new → AreNoted first new
told_noted may_give first k old new h c =
    one_noted first k c.before c.after old new c.pages c.world c.orders.others h (λ s n.
    ap (λ v. v.over) c.done.place ∙ told_over (old.orders k) (known_of c.before).over c.noted (λ m. h.noted k c.before c.pages.before s m))

carried_noted : (first count k : ℕ) (old new : Moment) → AreNoted first old → CarriesOut first count k old new → AreNoted first new
carried_noted first count k old new h c = record { noted = λ i x e s n. pick i x (subst (λ v. slice_get v i ≡ Some x) c.pages e) (ap (λ v. bare_at v (first + i)) (sym c.world) ∙ s) n (nat_eq i k) refl } where
  pick : (i : ℕ) (x : WindowPage) → slice_get old.pages i ≡ Some x → bare_at (played old.world (done_events (first + k) (shown_in old.world.frames c.page.view) c.order)) (first + i) ≡ true → IsNotMapped (new.orders i) →
      (t : Bool) → nat_eq i k ≡ t → (known_of x).over ≡ true
  pick i x e s n true t =
      let is : i ≡ k = eqb-true i k t in
      let at_k : IsNotMapped (CarriedOut c.order) = subst (λ v. IsNotMapped v) c.orders.own (subst (λ j. IsNotMapped (new.orders j)) is n) in
      let none : NoMap (first + i) (done_events (first + k) (shown_in old.world.frames c.page.view) c.order) =
      done_no_map (first + i) (first + k) (shown_in old.world.frames c.page.view) c.order (λ m. let its = mapping_is c.order m in absurd (at_k its.0 its.1 (ap (λ v. CarriedOut v) its.2))) in
      h.noted i x e (played_bare (first + i) (done_events (first + k) (shown_in old.world.frames c.page.view) c.order) old.world none s)
      (λ slot m f. let given : old.orders i ≡ Given c.order = ap (λ j. old.orders j) is ∙ c.given in let other : Given c.order ≡ CarriedOut (Order.Map (Frame slot m)) = sym given ∙ f in cc)
  pick i x e s n false t =
      let ne : i ≡ k → ⊥ = eqb-false i k t in
      let differ : nat_eq (first + k) (first + i) ≡ false = differs (first + k) (first + i) (λ f. ne (omega (arith, f))) in
      h.noted i x e (played_bare (first + i) (done_events (first + k) (shown_in old.world.frames c.page.view) c.order) old.world
      (done_no_map (first + i) (first + k) (shown_in old.world.frames c.page.view) c.order (λ m. differ)) s) (subst (λ v. IsNotMapped v) (c.orders.others i ne) n)

happens_noted : (first count : ℕ) (old new : Moment) → IsKept first count old → AreNoted first old → Happens first count old new → AreNoted first new
happens_noted first count old new k h c = record {
  noted = λ i x e s n.
      let its : slice_get old.pages i ≡ Some x = subst (λ v. slice_get v i ≡ Some x) c.pages e in
      let l : i < count = omega (arith, slice_get_within old.pages i x its, k.many) in
      h.noted i x its (event_bare old.world (first + i) c.event (others_no_map (first + i) c.event (c.others i l)) (ap (λ v. bare_at v (first + i)) (sym c.world) ∙ s))
      (subst (λ o. IsNotMapped (o i)) c.orders n);
}

next_noted : (first count : ℕ) (old new : Moment) → IsKept first count old → NextComes first count old new → AreNoted first new
next_noted first count old new k c = record {
  noted = λ i x e s n.
      let d : WasDetached i old.pages x = c.pages.each i x e in
      let l : i < count = omega (arith, slice_get_within old.pages i d.page d.before, k.many) in
      let r = k.reads i l in
      let there : slice_get new.world.pages (first + i) ≡ Some (left_page old.world.frames (c.world.stands i) r.page) =
      c.world.pages i l ∙ ap (option_map (left_page old.world.frames (c.world.stands i))) r.there in
      absurd (bare_page new.world (first + i) (left_page old.world.frames (c.world.stands i) r.page) there refl s);
}

bare_same : (p : ℕ) (now next : Mappings) → slice_get next.pages p ≡ slice_get now.pages p → bare_at next p ≡ bare_at now p
bare_same p now next e = ap (λ o. option_map_or (λ page. is_bare page.view) o false) e

detached_noted : (first count k : ℕ) (old new : Moment) → IsKept first count old → AreNoted first old → DetachesAt first count k old new → AreNoted first new
detached_noted first count k old new f h c = record { noted = λ i x e s n. pick i x e s n (nat_eq i k) refl } where
  pick : (i : ℕ) (x : WindowPage) → slice_get new.pages i ≡ Some x → bare_at new.world (first + i) ≡ true → IsNotMapped (new.orders i) → (t : Bool) → nat_eq i k ≡ t → (known_of x).over ≡ true
  pick i x e s n true t =
      let r = f.reads k c.within in
      let there : slice_get new.world.pages (first + k) ≡ Some (left_page old.world.frames c.world.stands r.page) = c.world.page ∙ ap (option_map (left_page old.world.frames c.world.stands)) r.there in
      absurd (bare_page new.world (first + k) (left_page old.world.frames c.world.stands r.page) there refl (subst (λ j. bare_at new.world (first + j) ≡ true) (eqb-true i k t) s))
  pick i x e s n false t =
      let ne : i ≡ k → ⊥ = eqb-false i k t in
      h.noted i x (sym (c.pages.others i ne) ∙ e) (sym (bare_same (first + i) old.world new.world (c.world.others (first + i) (λ f. ne (omega (arith, f))))) ∙ s) (subst (λ v. IsNotMapped v) (c.orders.others i ne) n)

beside_noted : (first count : ℕ) (old new : Moment) → IsKept first count old → AreNoted first old → LeftBeside first count old new → AreNoted first new
beside_noted first count old new f h c = record {
  noted = λ i x e s n.
      let its : slice_get old.pages i ≡ Some x = subst (λ v. slice_get v i ≡ Some x) c.pages e in
      let l : i < count = omega (arith, slice_get_within old.pages i x its, f.many) in
      h.noted i x its (sym (bare_same (first + i) old.world new.world (c.world.others (first + i) (λ q. c.others i l q))) ∙ s) (subst (λ o. IsNotMapped (o i)) c.orders n);
}

are_noted : (may_give : (ℕ → Bool) → ℕ → Bool) (first count : ℕ) (m : Moment) → History may_give first count m → AreNoted first m
are_noted may_give first count m (begins its b) = begins_noted first count its (history_kept may_give first count its (begins its b)) b
are_noted may_give first count m (calls old new i h c) = calls_noted first count i old new (history_kept may_give first count old h) (are_noted may_give first count old h) c
are_noted may_give first count m (carries_out old new i h c) = carried_noted first count i old new (are_noted may_give first count old h) c
are_noted may_give first count m (is_told old new i h c) = told_noted may_give first i old new (are_noted may_give first count old h) c
are_noted may_give first count m (happens old new h c) = happens_noted first count old new (history_kept may_give first count old h) (are_noted may_give first count old h) c
are_noted may_give first count m (detaches old new i h c) = detached_noted first count i old new (history_kept may_give first count old h) (are_noted may_give first count old h) c
are_noted may_give first count m (left_beside old new h c) = beside_noted first count old new (history_kept may_give first count old h) (are_noted may_give first count old h) c
are_noted may_give first count m (next_comes old new h c) = next_noted first count old new (history_kept may_give first count old h) c

pub each_frame_is_noted : EachFrameIsNoted
each_frame_is_noted may_give first count m h i x page e l b n = (are_noted may_give first count m h).noted i x e (is_at m.world (first + i) page l ∙ b) n
