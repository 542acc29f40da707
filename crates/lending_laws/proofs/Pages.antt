-- One page by itself: each event of the protocol keeps it right, whatever the other pages are.
use Rattle.std.proofs.Common.{◌≡◌, ◌∙◌, ℕ, zero, suc, Bool, true, false, cond, not, ◌&&◌, ◌||◌, List, [], ◌∷◌, length, Option, Some, None, refl, ap, sym, subst}
use Rattle.std.specs.Prelude.{slice_get, slice_set, nat_eq, nat_lt, unwrap_or, option_map, option_and_then, is_none, is_some}
use Rattle.std.proofs.lemmas.Bool.{eqb-false, eqb-true, lt-ltb}
use Rattle.std.proofs.lemmas.Option.{slice_get_within}
use Rattle.window_events.specs.Whole.{IsRight, IsWhole}
use Rattle.window_events.specs.Windows.{Mappings, copied, discarded, guarded, holding, is_bare, is_frame, is_held, lent, lifted, mapped, overwritten, released, shown_in, step, unguarded, with_page, at_page, written}
use Rattle.window_events.specs.declared.event.Event.{Event}
use Rattle.window_events.specs.declared.event.Event.TheVariants.{Write, Guard, Unguard, Copy, Lend, Map, Release, Trim, Discard}
use Rattle.window_events.specs.declared.page.Page.{Page}
use Rattle.window_events.specs.declared.page.View.TheVariants.{Own, Over}
use Rattle.window_events.proofs.Whole.{step_whole}
use Rattle.page_lender.proofs.Kept.{set_own}
use Rattle.lending_laws.specs.Histories.{Reads, stored_after}
use Rattle.lending_laws.specs.Reading.{EachEventKeepsReading}

-- mappings of one page
abbrev alone : List ℕ → Page → Mappings
alone frames page = record { pages = page ∷ []; frames = frames }

right_alone : (frames : List ℕ) (page : Page) → IsRight frames page → IsWhole (alone frames page)
right_alone frames page h = record { each = (h, tt) }

changed_right : (frames : List ℕ) (page new : Page) (o : Option Page) → IsWhole (unwrap_or (option_map (with_page (alone frames page) 0) o) (alone frames page)) → o ≡ Some new → IsRight frames new
changed_right frames page new o h e =
    let w : IsWhole (with_page (alone frames page) 0 new) = subst (λ c. IsWhole (unwrap_or (option_map (with_page (alone frames page) 0) c) (alone frames page))) e h in
    w.each.0

-- a change of a page keeps it right, and makes this of what was stored last
record Keeps (frames : List ℕ) (change : Page → Option Page) (own : Option ℕ) : Type 0 where
  keep : (page new : Page) → IsRight frames page → change page ≡ Some new → IsRight frames new
  stores : (page new : Page) → change page ≡ Some new → new.last ≡ unwrap_or own page.last

written_keeps : (frames : List ℕ) (x : ℕ) → Keeps frames (written x) (Some x)
written_keeps frames x = record {
  keep = λ page new h e. changed_right frames page new (written x page) (step_whole (alone frames page) (Write 0 x) (right_alone frames page h)) e;
  stores = λ page new e. pick page new page.guarded e;
} where
  pick : (page new : Page) (b : Bool) → cond b None (Some (record page { view = overwritten page.view x; last = x })) ≡ Some new → new.last ≡ x
  pick page new true e = cc
  pick page new false e = let same : record page { view = overwritten page.view x; last = x } ≡ new = cc in ap (λ y. y.last) (sym same)

discarded_keeps : (frames : List ℕ) → Keeps frames discarded (Some 0)
discarded_keeps frames = record {
  keep = λ page new h e. changed_right frames page new (discarded page) (step_whole (alone frames page) (Discard 0) (right_alone frames page h)) e;
  stores = λ page new e. let same : record (lifted page) { view = Own 0; last = 0 } ≡ new = cc in ap (λ y. y.last) (sym same);
}

guarded_keeps : (frames : List ℕ) → Keeps frames guarded None
guarded_keeps frames = record {
  keep = λ page new h e. changed_right frames page new (guarded page) (step_whole (alone frames page) (Guard 0) (right_alone frames page h)) e;
  stores = λ page new e. let same : record page { guarded = true } ≡ new = cc in ap (λ x. x.last) (sym same);
}

unguarded_keeps : (frames : List ℕ) → Keeps frames unguarded None
unguarded_keeps frames = record {
  keep = λ page new h e. changed_right frames page new (unguarded page) (step_whole (alone frames page) (Unguard 0) (right_alone frames page h)) e;
  stores = λ page new e. let same : lifted page ≡ new = cc in ap (λ x. x.last) (sym same);
}

copied_keeps : (frames : List ℕ) → Keeps frames (copied frames) None
copied_keeps frames = record {
  keep = λ page new h e. changed_right frames page new (copied frames page) (step_whole (alone frames page) (Copy 0) (right_alone frames page h)) e;
  stores = λ page new e. pick page new page.guarded e;
} where
  pick : (page new : Page) (b : Bool) → cond b (Some (record page { copy = Some (shown_in frames page.view); copy_fresh = true })) None ≡ Some new → new.last ≡ page.last
  pick page new false e = cc
  pick page new true e = let same : record page { copy = Some (shown_in frames page.view); copy_fresh = true } ≡ new = cc in ap (λ x. x.last) (sym same)

mapped_keeps : (frames : List ℕ) → Keeps frames mapped None
mapped_keeps frames = record {
  keep = λ page new h e. changed_right frames page new (mapped page) (step_whole (alone frames page) (Map 0) (right_alone frames page h)) e;
  stores = λ page new e. pick page new page.frame_fresh page.held e;
} where
  pick : (page new : Page) (b : Bool) (o : Option ℕ) → cond b (option_map (λ n. record (lifted page) { view = Over n None }) o) None ≡ Some new → new.last ≡ page.last
  pick page new false o e = cc
  pick page new true None e = cc
  pick page new true (Some n) e = let same : record (lifted page) { view = Over n None } ≡ new = cc in ap (λ x. x.last) (sym same)

released_keeps : (frames : List ℕ) → Keeps frames released None
released_keeps frames = record {
  keep = λ page new h e. changed_right frames page new (released page) (step_whole (alone frames page) (Release 0) (right_alone frames page h)) e;
  stores = λ page new e. pick page new (is_bare page.view) e;
} where
  pick : (page new : Page) (b : Bool) → cond b None (Some (record page { held = None; frame_fresh = false })) ≡ Some new → new.last ≡ page.last
  pick page new true e = cc
  pick page new false e = let same : record page { held = None; frame_fresh = false } ≡ new = cc in ap (λ x. x.last) (sym same)

-- ---- where pages lie

pub set_other : (pages : List Page) (p q : ℕ) (new : Page) → (p ≡ q → ⊥) → slice_get (slice_set pages p new) q ≡ slice_get pages q
set_other [] p q new ne = refl
set_other (x ∷ pages) zero zero new ne = absurd (ne refl)
set_other (x ∷ pages) zero (suc q) new ne = refl
set_other (x ∷ pages) (suc p) zero new ne = refl
set_other (x ∷ pages) (suc p) (suc q) new ne = set_other pages p q new (λ e. ne (ap (λ k. suc k) e))

set_same : (xs : List ℕ) (i x : ℕ) → slice_get xs i ≡ Some x → slice_set xs i x ≡ xs
set_same [] i x e = refl
set_same (y ∷ xs) zero x e = let same : y ≡ x = cc in ap (λ z. z ∷ xs) (sym same)
set_same (y ∷ xs) (suc i) x e = ap (λ zs. y ∷ zs) (set_same xs i x e)

not_held : (n : ℕ) (pages : List Page) (p : ℕ) (page : Page) → slice_get pages p ≡ Some page → is_held n pages ≡ false → is_frame n page.held ≡ false
not_held n [] p page e h = cc
not_held n (x ∷ pages) zero page e h = pick (is_frame n x.held) refl h where
  pick : (b : Bool) → is_frame n x.held ≡ b → (b || is_held n pages) ≡ false → is_frame n page.held ≡ false
  pick true t g = cc
  pick false t g = let same : x ≡ page = cc in subst (λ y. is_frame n y.held ≡ false) same t
not_held n (x ∷ pages) (suc p) page e h = not_held n pages p page e (pick (is_frame n x.held) h) where
  pick : (b : Bool) → (b || is_held n pages) ≡ false → is_held n pages ≡ false
  pick true g = cc
  pick false g = g

-- ---- what is read

-- a page that is right shows what was stored last
pub reads_right : (w : Mappings) (p x : ℕ) (page : Page) → slice_get w.pages p ≡ Some page → IsRight w.frames page → page.last ≡ x → Reads w p x
reads_right w p x page e r l = record { page = page; there = e; right = r; last = l; shows = r.shows ∙ l }

stored_same : (own : Option ℕ) (page : Page) (x : ℕ) → page.last ≡ x → unwrap_or own page.last ≡ unwrap_or own x
stored_same own page x l = ap (λ y. unwrap_or own y) l

own_reads : (w : Mappings) (p x : ℕ) (change : Page → Option Page) (own : Option ℕ) → Keeps w.frames change own → Reads w p x →
    Reads (unwrap_or (at_page w p change) w) p (cond (is_some (at_page w p change)) (unwrap_or own x) x)
own_reads w p x change own k r = subst (λ s. Reads (unwrap_or (option_map (with_page w p) (option_and_then change s)) w) p (cond (is_some (option_map (with_page w p) (option_and_then change s))) (unwrap_or own x) x)) (sym r.there) (made (change r.page) refl) where
  made : (o : Option Page) → change r.page ≡ o → Reads (unwrap_or (option_map (with_page w p) o) w) p (cond (is_some (option_map (with_page w p) o)) (unwrap_or own x) x)
  made None f = r
  made (Some new) f =
      reads_right (with_page w p new) p (unwrap_or own x) new (set_own w.pages p r.page new r.there) (k.keep r.page new r.right f) (k.stores r.page new f ∙ stored_same own r.page x r.last)

other_reads : (w : Mappings) (p q x : ℕ) (change : Page → Option Page) (own : Option ℕ) → (q ≡ p → ⊥) → own ≡ None → Reads w p x →
    Reads (unwrap_or (at_page w q change) w) p (cond (is_some (at_page w q change)) (unwrap_or own x) x)
other_reads w p q x change own ne e r = subst (λ o. Reads (unwrap_or (at_page w q change) w) p (cond (is_some (at_page w q change)) (unwrap_or o x) x)) (sym e) (made (option_and_then change (slice_get w.pages q))) where
  made : (o : Option Page) → Reads (unwrap_or (option_map (with_page w q) o) w) p (cond (is_some (option_map (with_page w q) o)) x x)
  made None = r
  made (Some new) = reads_right (with_page w q new) p x r.page (set_other w.pages q p new ne ∙ r.there) r.right r.last

-- a change of page q, which stores `own` there
at_reads : (w : Mappings) (p q x : ℕ) (change : Page → Option Page) (own its : Option ℕ) → Keeps w.frames change own → (nat_eq q p ≡ true → its ≡ own) → (nat_eq q p ≡ false → its ≡ None) →
    Reads w p x → Reads (unwrap_or (at_page w q change) w) p (cond (is_some (at_page w q change)) (unwrap_or its x) x)
at_reads w p q x change own its k same others r = pick (nat_eq q p) refl where
  pick : (t : Bool) → nat_eq q p ≡ t → Reads (unwrap_or (at_page w q change) w) p (cond (is_some (at_page w q change)) (unwrap_or its x) x)
  pick true t =
      let is : q ≡ p = eqb-true q p t in
      let at_p : Reads (unwrap_or (at_page w p change) w) p (cond (is_some (at_page w p change)) (unwrap_or its x) x) = subst (λ o. Reads (unwrap_or (at_page w p change) w) p (cond (is_some (at_page w p change)) (unwrap_or o x) x)) (sym (same t)) (own_reads w p x change own k r) in
      subst (λ j. Reads (unwrap_or (at_page w j change) w) p (cond (is_some (at_page w j change)) (unwrap_or its x) x)) (sym is) at_p
  pick false t = other_reads w p q x change its (eqb-false q p t) (others t) r

-- a frame that the page doesn't hold gets another content
trimmed_right : (frames : List ℕ) (n c : ℕ) (page : Page) → nat_lt n (length frames) ≡ true → is_frame n page.held ≡ false → IsRight frames page → IsRight (slice_set frames n c) page
trimmed_right frames n c page l h r =
    let out : Mappings = record { pages = page ∷ []; frames = slice_set frames n c } in
    let s : step (alone frames page) (Trim n c) ≡ Some out =
    ap (λ b. cond (b && not (is_frame n page.held || false)) (Some out) None) l ∙ ap (λ b. cond (not (b || false)) (Some out) None) h in
    let w : IsWhole out = subst (λ o. IsWhole (unwrap_or o (alone frames page))) s (step_whole (alone frames page) (Trim n c) (right_alone frames page r)) in
    w.each.0

-- the page's copy comes into a frame
lent_right : (frames : List ℕ) (n c y : ℕ) (page : Page) → slice_get frames n ≡ Some y → page.copy ≡ Some c → page.held ≡ None → IsRight frames page → IsRight (slice_set frames n c) (holding n page)
lent_right frames n c y page f g h r =
    let out : Mappings = record { pages = holding n page ∷ []; frames = slice_set frames n c } in
    let s : step (alone frames page) (Lend 0 n) ≡ Some out =
    ap (λ o. lent (alone frames page) 0 page n o (slice_get frames n)) g
    ∙ ap (λ o. lent (alone frames page) 0 page n (Some c) o) f
    ∙ ap (λ o. cond (is_none o && (not (is_frame n o || false) || nat_eq y c)) (Some out) None) h in
    let w : IsWhole out = subst (λ o. IsWhole (unwrap_or o (alone frames page))) s (step_whole (alone frames page) (Lend 0 n) (right_alone frames page r)) in
    w.each.0

within : (xs : List ℕ) (n y : ℕ) → slice_get xs n ≡ Some y → nat_lt n (length xs) ≡ true
within xs n y e = lt-ltb n (length xs) (slice_get_within xs n y e)

-- the mappings with another content in a frame, and with a page that holds the frame of its copy
abbrev trimmed_to : Mappings → ℕ → ℕ → Mappings
trimmed_to w n c = record { pages = w.pages; frames = slice_set w.frames n c }

abbrev lent_to : Mappings → ℕ → ℕ → ℕ → Page → Mappings
lent_to w q n c page = record { pages = slice_set w.pages q (holding n page); frames = slice_set w.frames n c }

lend_reads : (w : Mappings) (p q n x : ℕ) → Reads w p x → Reads (unwrap_or (step w (Lend q n)) w) p (cond (is_some (step w (Lend q n))) x x)
lend_reads w p q n x r = pick (slice_get w.pages q) refl where
  pick : (o : Option Page) → slice_get w.pages q ≡ o →
      Reads (unwrap_or (option_and_then (λ page. lent w q page n page.copy (slice_get w.frames n)) o) w) p (cond (is_some (option_and_then (λ page. lent w q page n page.copy (slice_get w.frames n)) o)) x x)
  pick None e = r
  pick (Some page) e = made page.copy (slice_get w.frames n) refl refl where
    made : (c f : Option ℕ) → page.copy ≡ c → slice_get w.frames n ≡ f → Reads (unwrap_or (lent w q page n c f) w) p (cond (is_some (lent w q page n c f)) x x)
    made None f d g = r
    made (Some c) None d g = r
    made (Some c) (Some y) d g = free page.held (is_held n w.pages) (nat_eq y c) refl refl refl where
      its : page.held ≡ None → nat_eq q p ≡ true → Reads (lent_to w q n c page) p x
      its h t =
          let is : q ≡ p = eqb-true q p t in
          let there : slice_get w.pages p ≡ Some page = ap (λ j. slice_get w.pages j) (sym is) ∙ e in
          let found : slice_get w.pages p ≡ Some r.page = r.there in
          let same : r.page ≡ page = cc in
          let right : IsRight w.frames page = subst (IsRight w.frames) same r.right in
          let last : page.last ≡ x = ap (λ z. z.last) (sym same) ∙ r.last in
          let placed : slice_get (slice_set w.pages q (holding n page)) p ≡ Some (holding n page) = subst (λ j. slice_get (slice_set w.pages q (holding n page)) j ≡ Some (holding n page)) is (set_own w.pages q page (holding n page) e) in
          reads_right (lent_to w q n c page) p x (holding n page) placed (lent_right w.frames n c y page g d h right) last

      others : nat_eq q p ≡ false → IsRight (slice_set w.frames n c) r.page → Reads (lent_to w q n c page) p x
      others t right =
          reads_right (lent_to w q n c page) p x r.page (set_other w.pages q p (holding n page) (eqb-false q p t) ∙ r.there) right r.last

      either : (t : Bool) → nat_eq q p ≡ t → page.held ≡ None → IsRight (slice_set w.frames n c) r.page → Reads (lent_to w q n c page) p x
      either true t h right = its h t
      either false t h right = others t right

      free : (o : Option ℕ) (b t : Bool) → page.held ≡ o → is_held n w.pages ≡ b → nat_eq y c ≡ t →
          Reads (unwrap_or (cond (is_none o && (not b || t)) (Some (lent_to w q n c page)) None) w) p
          (cond (is_some (cond (is_none o && (not b || t)) (Some (lent_to w q n c page)) None)) x x)
      free (Some m) b t o u v = r
      free None false t o u v =
          either (nat_eq q p) refl o (trimmed_right w.frames n c r.page (within w.frames n y g) (not_held n w.pages p r.page r.there u) r.right)
      free None true false o u v = r
      free None true true o u v =
          let same : y ≡ c = eqb-true y c v in
          let stays : slice_set w.frames n c ≡ w.frames = set_same w.frames n c (g ∙ ap (λ z. Some z) same) in
          either (nat_eq q p) refl o (subst (λ fs. IsRight fs r.page) (sym stays) r.right)

trim_reads : (w : Mappings) (p n c x : ℕ) → Reads w p x → Reads (unwrap_or (step w (Trim n c)) w) p (cond (is_some (step w (Trim n c))) x x)
trim_reads w p n c x r = pick (nat_lt n (length w.frames)) (is_held n w.pages) refl refl where
  pick : (a b : Bool) → nat_lt n (length w.frames) ≡ a → is_held n w.pages ≡ b →
      Reads (unwrap_or (cond (a && not b) (Some (trimmed_to w n c)) None) w) p (cond (is_some (cond (a && not b) (Some (trimmed_to w n c)) None)) x x)
  pick false b l h = r
  pick true true l h = r
  pick true false l h = reads_right (trimmed_to w n c) p x r.page r.there (trimmed_right w.frames n c r.page l (not_held n w.pages p r.page r.there h) r.right) r.last

own_of : (q p y : ℕ) → nat_eq q p ≡ true → cond (nat_eq q p) (Some y) None ≡ Some y
own_of q p y t = ap (λ b. cond b (Some y) None) t

none_of : (q p y : ℕ) → nat_eq q p ≡ false → cond (nat_eq q p) (Some y) None ≡ None
none_of q p y t = ap (λ b. cond b (Some y) None) t

-- each event keeps a page right, and what it reads is what was stored last
pub event_reads : (w : Mappings) (p x : ℕ) (e : Event) → Reads w p x → Reads (unwrap_or (step w e) w) p (stored_after w e p x)
event_reads w p x (Write q y) r = at_reads w p q x (written y) (Some y) (cond (nat_eq q p) (Some y) None) (written_keeps w.frames y) (own_of q p y) (none_of q p y) r
event_reads w p x (Discard q) r = at_reads w p q x discarded (Some 0) (cond (nat_eq q p) (Some 0) None) (discarded_keeps w.frames) (own_of q p 0) (none_of q p 0) r
event_reads w p x (Guard q) r = at_reads w p q x guarded None None (guarded_keeps w.frames) (λ t. refl) (λ t. refl) r
event_reads w p x (Unguard q) r = at_reads w p q x unguarded None None (unguarded_keeps w.frames) (λ t. refl) (λ t. refl) r
event_reads w p x (Copy q) r = at_reads w p q x (copied w.frames) None None (copied_keeps w.frames) (λ t. refl) (λ t. refl) r
event_reads w p x (Map q) r = at_reads w p q x mapped None None (mapped_keeps w.frames) (λ t. refl) (λ t. refl) r
event_reads w p x (Release q) r = at_reads w p q x released None None (released_keeps w.frames) (λ t. refl) (λ t. refl) r
event_reads w p x (Lend q n) r = lend_reads w p q n x r
event_reads w p x (Trim n c) r = trim_reads w p n c x r

pub keeps_reading : EachEventKeepsReading
keeps_reading w p x [] r = r
keeps_reading w p x (e ∷ es) r = keeps_reading (unwrap_or (step w e) w) p (stored_after w e p x) es (event_reads w p x e r)
