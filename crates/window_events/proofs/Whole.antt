-- What every order of events keeps: each page is right over the host's frames.
use Rattle.std.proofs.Common.{◌≡◌, ℕ, zero, suc, Bool, true, false, cond, not, ◌&&◌, ◌||◌, List, [], ◌∷◌, length, map, Some, None, Option, refl, ap, sym, ◌∙◌, subst}
use Rattle.std.specs.Prelude.{slice_get, slice_set, slice_index, nat_eq, nat_lt, unwrap_or, option_map, option_and_then, is_none}
use Rattle.std.proofs.lemmas.Bool.{eqb-true, eqb-false, eq-eqb}
use Rattle.std.proofs.lemmas.List.{get_or-set_same, get_or-set_other}
use Rattle.std.proofs.lemmas.Option.{slice_get_within, get_or_from_slice_get}
use Rattle.window_events.specs.Windows.{Mappings, shown_in, overwritten, is_bare, is_frame, is_held, written, guarded, lifted, unguarded, copied, mapped, released, discarded, at_page, holding, lent, trimmed, step, run, fresh, start, shown, last, view_of, held_by}
use Rattle.window_events.specs.Whole.{IsRight, AllRight, IsWhole}
use Rattle.window_events.specs.declared.event.Event.{Event}
use Rattle.window_events.specs.declared.event.Event.TheVariants.{Write, Guard, Unguard, Copy, Lend, Map, Release, Trim, Discard}
use Rattle.window_events.specs.declared.page.Page.{Page}
use Rattle.window_events.specs.declared.page.View.{View}
use Rattle.window_events.specs.declared.page.View.TheVariants.{Own, Over}

pub right_at : (frames : List ℕ) (pages : List Page) (p : ℕ) (page : Page) → AllRight frames pages → slice_get pages p ≡ Some page → IsRight frames page
right_at frames [] p page h e = cc
right_at frames (first ∷ pages) zero page h e = let same : first ≡ page = cc in subst (IsRight frames) same h.0
right_at frames (first ∷ pages) (suc p) page h e = right_at frames pages p page h.1 e

right_set : (frames : List ℕ) (pages : List Page) (p : ℕ) (page : Page) → AllRight frames pages → IsRight frames page → AllRight frames (slice_set pages p page)
right_set frames [] p page h new = tt
right_set frames (first ∷ pages) zero page h new = (new, h.1)
right_set frames (first ∷ pages) (suc p) page h new = (h.0, right_set frames pages p page h.1 new)

-- a change of a page keeps it right
record Keeps (frames : List ℕ) (change : Page → Option Page) : Type 0 where
  keep : (page new : Page) → IsRight frames page → change page ≡ Some new → IsRight frames new

written_keeps : (frames : List ℕ) (x : ℕ) → Keeps frames (written x)
written_keeps frames x = record { keep = λ page new h e. pick page new h page.guarded refl e } where
  shows : (v : View) → shown_in frames (overwritten v x) ≡ x
  shows (Own y) = refl
  shows (Over n c) = refl

  bare : (v : View) (n : ℕ) → overwritten v x ≡ Over n None → ⊥
  bare (Own y) n e = cc
  bare (Over m c) n e = cc

  pick : (page new : Page) → IsRight frames page → (b : Bool) → page.guarded ≡ b → cond b None (Some (record page { view = overwritten page.view x; last = x })) ≡ Some new → IsRight frames new
  pick page new h true g e = cc
  pick page new h false g e =
      let same : record page { view = overwritten page.view x; last = x } ≡ new = cc in
      subst (IsRight frames) same (record {
        shows = shows page.view;
        holds = λ n b. absurd (bare page.view n b);
        copy_waits = h.copy_waits;
        frame_waits = h.frame_waits;
        copied = λ y k c. let w = h.copy_waits k in cc;
        lends = λ n k c. let w = h.frame_waits k in cc;
      })

guarded_keeps : (frames : List ℕ) → Keeps frames guarded
guarded_keeps frames = record {
  keep = λ page new h e.
      let same : record page { guarded = true } ≡ new = cc in
      subst (IsRight frames) same (record { shows = h.shows; holds = h.holds; copy_waits = λ k. refl; frame_waits = λ k. refl; copied = h.copied; lends = h.lends });
}

unguarded_keeps : (frames : List ℕ) → Keeps frames unguarded
unguarded_keeps frames = record {
  keep = λ page new h e.
      let same : lifted page ≡ new = cc in
      subst (IsRight frames) same (record { shows = h.shows; holds = h.holds; copy_waits = λ k. cc; frame_waits = λ k. cc; copied = λ x k c. cc; lends = λ n k c. cc });
}

discarded_keeps : (frames : List ℕ) → Keeps frames discarded
discarded_keeps frames = record {
  keep = λ page new h e.
      let same : record (lifted page) { view = Own 0; last = 0 } ≡ new = cc in
      subst (IsRight frames) same (record { shows = refl; holds = λ n b. cc; copy_waits = λ k. cc; frame_waits = λ k. cc; copied = λ x k c. cc; lends = λ n k c. cc });
}

copied_keeps : (frames : List ℕ) → Keeps frames (copied frames)
copied_keeps frames = record { keep = λ page new h e. pick page new h page.guarded refl e } where
  pick : (page new : Page) → IsRight frames page → (b : Bool) → page.guarded ≡ b → cond b (Some (record page { copy = Some (shown_in frames page.view); copy_fresh = true })) None ≡ Some new → IsRight frames new
  pick page new h false g e = cc
  pick page new h true g e =
      let same : record page { copy = Some (shown_in frames page.view); copy_fresh = true } ≡ new = cc in
      subst (IsRight frames) same (record {
        shows = h.shows;
        holds = h.holds;
        copy_waits = λ k. g;
        frame_waits = h.frame_waits;
        copied = λ x k c. let v = h.shows in cc;
        lends = h.lends;
      })

mapped_keeps : (frames : List ℕ) → Keeps frames mapped
mapped_keeps frames = record { keep = λ page new h e. pick page new h page.frame_fresh page.held refl refl e } where
  pick : (page new : Page) → IsRight frames page → (b : Bool) (o : Option ℕ) → page.frame_fresh ≡ b → page.held ≡ o → cond b (option_map (λ n. record (lifted page) { view = Over n None }) o) None ≡ Some new → IsRight frames new
  pick page new h false o k f e = cc
  pick page new h true None k f e = cc
  pick page new h true (Some n) k f e =
      let same : record (lifted page) { view = Over n None } ≡ new = cc in
      subst (IsRight frames) same (record {
        shows = h.lends n k f;
        holds = λ m b. cc;
        copy_waits = λ c. cc;
        frame_waits = λ c. cc;
        copied = λ x c d. cc;
        lends = λ m c d. cc;
      })

released_keeps : (frames : List ℕ) → Keeps frames released
released_keeps frames = record { keep = λ page new h e. pick page new h (is_bare page.view) refl e } where
  bare : (v : View) (n : ℕ) → is_bare v ≡ false → v ≡ Over n None → ⊥
  bare (Own x) n f e = cc
  bare (Over m (Some x)) n f e = cc
  bare (Over m None) n f e = cc

  pick : (page new : Page) → IsRight frames page → (b : Bool) → is_bare page.view ≡ b → cond b None (Some (record page { held = None; frame_fresh = false })) ≡ Some new → IsRight frames new
  pick page new h true f e = cc
  pick page new h false f e =
      let same : record page { held = None; frame_fresh = false } ≡ new = cc in
      subst (IsRight frames) same (record {
        shows = h.shows;
        holds = λ n b. absurd (bare page.view n f b);
        copy_waits = h.copy_waits;
        frame_waits = λ k. cc;
        copied = h.copied;
        lends = λ n k c. cc;
      })

-- a page stays right if the frame that it holds stays as it is
moved : (frames others : List ℕ) (page : Page) → ((n : ℕ) → page.held ≡ Some n → slice_index others n ≡ slice_index frames n) → IsRight frames page → IsRight others page
moved frames others page same h = record {
  shows = seen page.view refl ∙ h.shows;
  holds = h.holds;
  copy_waits = h.copy_waits;
  frame_waits = h.frame_waits;
  copied = h.copied;
  lends = λ n k f. same n f ∙ h.lends n k f;
} where
  seen : (v : View) → page.view ≡ v → shown_in others v ≡ shown_in frames v
  seen (Own x) e = refl
  seen (Over n None) e = same n (h.holds n e)
  seen (Over n (Some x)) e = refl

-- each page stays right if a frame that none of them holds changes
each_moved : (frames : List ℕ) (n x : ℕ) (pages : List Page) → is_held n pages ≡ false → AllRight frames pages → AllRight (slice_set frames n x) pages
each_moved frames n x [] free h = tt
each_moved frames n x (page ∷ pages) free h = pick page.held refl free (λ f. each_moved frames n x pages f h.1) where
  other : (m : ℕ) → nat_eq m n ≡ false → slice_index (slice_set frames n x) m ≡ slice_index frames m
  other m e = get_or-set_other frames n m x 0 (eqb-false m n e)

  pick : (o : Option ℕ) → page.held ≡ o → (is_frame n o || is_held n pages) ≡ false → (is_held n pages ≡ false → AllRight (slice_set frames n x) pages) → AllRight (slice_set frames n x) (page ∷ pages)
  pick None e f rest = (moved frames (slice_set frames n x) page (λ m is. cc) h.0, rest f)
  pick (Some k) e f rest = split (nat_eq k n) refl f where
    split : (b : Bool) → nat_eq k n ≡ b → (b || is_held n pages) ≡ false → AllRight (slice_set frames n x) (page ∷ pages)
    split true t g = cc
    split false t g =
        (moved frames (slice_set frames n x) page (λ m is. let same : k ≡ m = cc in other m (subst (λ i. nat_eq i n ≡ false) same t)) h.0, rest g)

-- and if a frame gets the content that it has
each_same : (frames : List ℕ) (n x : ℕ) (pages : List Page) → slice_get frames n ≡ Some x → AllRight frames pages → AllRight (slice_set frames n x) pages
each_same frames n x [] is h = tt
each_same frames n x (page ∷ pages) is h = (moved frames (slice_set frames n x) page (λ m e. same m) h.0, each_same frames n x pages is h.1) where
  same : (m : ℕ) → slice_index (slice_set frames n x) m ≡ slice_index frames m
  same m = pick (nat_eq m n) refl where
    pick : (b : Bool) → nat_eq m n ≡ b → slice_index (slice_set frames n x) m ≡ slice_index frames m
    pick true e =
        let at : m ≡ n = eqb-true m n e in
        subst (λ i. slice_index (slice_set frames n x) i ≡ slice_index frames i) (sym at) (get_or-set_same frames n x 0 (slice_get_within frames n x is) ∙ sym (get_or_from_slice_get frames n x 0 is))
    pick false e = get_or-set_other frames n m x 0 (eqb-false m n e)

at_page_whole : (w : Mappings) (p : ℕ) (change : Page → Option Page) → Keeps w.frames change → IsWhole w → IsWhole (unwrap_or (at_page w p change) w)
at_page_whole w p change k h = pick (slice_get w.pages p) refl where
  put : Page → Mappings
  put page = record { pages = slice_set w.pages p page; frames = w.frames }

  pick : (o : Option Page) → slice_get w.pages p ≡ o → IsWhole (unwrap_or (option_map (λ page. record { pages = slice_set w.pages p page; frames = w.frames }) (option_and_then change o)) w)
  pick None e = h
  pick (Some page) e = made (change page) refl where
    made : (o : Option Page) → change page ≡ o → IsWhole (unwrap_or (option_map (λ new. record { pages = slice_set w.pages p new; frames = w.frames }) o) w)
    made None f = h
    made (Some new) f = record { each = right_set w.frames w.pages p new h.each (k.keep page new (right_at w.frames w.pages p page h.each e) f) }

-- a page that was lent is right over the frame that has its copy now
lent_right : (frames : List ℕ) (n x y : ℕ) (page : Page) → slice_get frames n ≡ Some y → page.copy ≡ Some x → page.held ≡ None → IsRight frames page → IsRight (slice_set frames n x) (holding n page)
lent_right frames n x y page is c f h = record {
  shows = seen page.view refl ∙ h.shows;
  holds = λ m b. let held : page.held ≡ Some m = h.holds m b in cc;
  copy_waits = λ k. cc;
  frame_waits = h.copy_waits;
  copied = λ z k d. cc;
  lends = λ m k d.
      let same : n ≡ m = cc in
      subst (λ i. slice_index (slice_set frames n x) i ≡ page.last) same (get_or-set_same frames n x 0 (slice_get_within frames n y is) ∙ h.copied x k c);
} where
  seen : (v : View) → page.view ≡ v → shown_in (slice_set frames n x) v ≡ shown_in frames v
  seen (Own z) e = refl
  seen (Over m None) e = let held : page.held ≡ Some m = h.holds m e in cc
  seen (Over m (Some z)) e = refl

lend_whole : (w : Mappings) (p n : ℕ) → IsWhole w → IsWhole (unwrap_or (step w (Lend p n)) w)
lend_whole w p n h = pick (slice_get w.pages p) refl where
  pick : (o : Option Page) → slice_get w.pages p ≡ o → IsWhole (unwrap_or (option_and_then (λ page. lent w p page n page.copy (slice_get w.frames n)) o) w)
  pick None e = h
  pick (Some page) e = made page.copy (slice_get w.frames n) refl refl where
    own : IsRight w.frames page
    own = right_at w.frames w.pages p page h.each e

    made : (c f : Option ℕ) → page.copy ≡ c → slice_get w.frames n ≡ f → IsWhole (unwrap_or (lent w p page n c f) w)
    made None f d g = h
    made (Some x) None d g = h
    made (Some x) (Some y) d g = free page.held (is_held n w.pages) (nat_eq y x) refl refl refl where
      new : Mappings
      new = record { pages = slice_set w.pages p (holding n page); frames = slice_set w.frames n x }

      put : page.held ≡ None → AllRight (slice_set w.frames n x) w.pages → IsWhole (record { pages = slice_set w.pages p (holding n page); frames = slice_set w.frames n x })
      put o all = record { each = right_set (slice_set w.frames n x) w.pages p (holding n page) all (lent_right w.frames n x y page g d o own) }

      free : (o : Option ℕ) (b t : Bool) → page.held ≡ o → is_held n w.pages ≡ b → nat_eq y x ≡ t →
          IsWhole (unwrap_or (cond (is_none o && (not b || t)) (Some (record { pages = slice_set w.pages p (holding n page); frames = slice_set w.frames n x })) None) w)
      free (Some m) b t o u v = h
      free None false t o u v = put o (each_moved w.frames n x w.pages u h.each)
      free None true false o u v = h
      free None true true o u v = put o (each_same w.frames n x w.pages (let same : y ≡ x = eqb-true y x v in cc) h.each)

trim_whole : (w : Mappings) (n x : ℕ) → IsWhole w → IsWhole (unwrap_or (trimmed w n x) w)
trim_whole w n x h = pick (nat_lt n (length w.frames)) (is_held n w.pages) refl where
  pick : (a b : Bool) → is_held n w.pages ≡ b → IsWhole (unwrap_or (cond (a && not b) (Some (record { pages = w.pages; frames = slice_set w.frames n x })) None) w)
  pick false b e = h
  pick true true e = h
  pick true false e = record { each = each_moved w.frames n x w.pages e h.each }

pub step_whole : (w : Mappings) (e : Event) → IsWhole w → IsWhole (unwrap_or (step w e) w)
step_whole w (Write p x) h = at_page_whole w p (written x) (written_keeps w.frames x) h
step_whole w (Guard p) h = at_page_whole w p guarded (guarded_keeps w.frames) h
step_whole w (Unguard p) h = at_page_whole w p unguarded (unguarded_keeps w.frames) h
step_whole w (Copy p) h = at_page_whole w p (copied w.frames) (copied_keeps w.frames) h
step_whole w (Lend p n) h = lend_whole w p n h
step_whole w (Map p) h = at_page_whole w p mapped (mapped_keeps w.frames) h
step_whole w (Release p) h = at_page_whole w p released (released_keeps w.frames) h
step_whole w (Trim n x) h = trim_whole w n x h
step_whole w (Discard p) h = at_page_whole w p discarded (discarded_keeps w.frames) h

run_whole : (w : Mappings) (es : List Event) → IsWhole w → IsWhole (run step w es)
run_whole w [] h = h
run_whole w (e ∷ es) h = run_whole (unwrap_or (step w e) w) es (step_whole w e h)

fresh_right : (frames : List ℕ) (x : ℕ) → IsRight frames (fresh x)
fresh_right frames x = record { shows = refl; holds = λ n b. cc; copy_waits = λ k. cc; frame_waits = λ k. cc; copied = λ y k c. cc; lends = λ n k c. cc }

fresh_each : (frames contents : List ℕ) → AllRight frames (map fresh contents)
fresh_each frames [] = tt
fresh_each frames (x ∷ xs) = (fresh_right frames x, fresh_each frames xs)

pub start_whole : (contents frames : List ℕ) → IsWhole (start contents frames)
start_whole contents frames = record { each = fresh_each frames contents }

pub whole : (contents frames : List ℕ) (es : List Event) → IsWhole (run step (start contents frames) es)
whole contents frames es = run_whole (start contents frames) es (start_whole contents frames)

pub shown_last : (w : Mappings) (p : ℕ) → IsWhole w → shown w p ≡ last w p
shown_last w p h = pick (slice_get w.pages p) refl where
  pick : (o : Option Page) → slice_get w.pages p ≡ o → option_map (λ page. shown_in w.frames page.view) o ≡ option_map (λ page. page.last) o
  pick None e = refl
  pick (Some page) e = ap (λ x. Some x) (right_at w.frames w.pages p page h.each e).shows

shown_held : (w : Mappings) (p n : ℕ) → IsWhole w → view_of w p ≡ Some (Over n None) → held_by w p ≡ Some n
shown_held w p n h = pick (slice_get w.pages p) refl where
  pick : (o : Option Page) → slice_get w.pages p ≡ o → option_map (λ page. page.view) o ≡ Some (Over n None) → option_and_then (λ page. page.held) o ≡ Some n
  pick None e v = cc
  pick (Some page) e v = (right_at w.frames w.pages p page h.each e).holds n (cc)

pub shows_last : (es : List Event) (p : ℕ) (contents frames : List ℕ) → let w = run step (start contents frames) es in shown w p ≡ last w p
shows_last es p contents frames = shown_last (run step (start contents frames) es) p (whole contents frames es)

pub holds_shown : (es : List Event) (p : ℕ) (contents frames : List ℕ) (n : ℕ) → let w = run step (start contents frames) es in view_of w p ≡ Some (Over n None) → held_by w p ≡ Some n
holds_shown es p contents frames n = shown_held (run step (start contents frames) es) p n (whole contents frames es)

-- a list after a write at another place, and after a write of what is there
get_other : (xs : List ℕ) (i x j : ℕ) → (j ≡ i → ⊥) → slice_get (slice_set xs i x) j ≡ slice_get xs j
get_other [] i x j ne = refl
get_other (y ∷ xs) zero x zero ne = absurd (ne refl)
get_other (y ∷ xs) zero x (suc j) ne = refl
get_other (y ∷ xs) (suc i) x zero ne = refl
get_other (y ∷ xs) (suc i) x (suc j) ne = get_other xs i x j (λ e. ne (ap (λ k. suc k) e))

set_same : (xs : List ℕ) (i x : ℕ) → slice_get xs i ≡ Some x → slice_set xs i x ≡ xs
set_same [] i x e = refl
set_same (y ∷ xs) zero x e = let same : y ≡ x = cc in ap (λ z. z ∷ xs) (sym same)
set_same (y ∷ xs) (suc i) x e = ap (λ zs. y ∷ zs) (set_same xs i x e)

at_page_frames : (w : Mappings) (p : ℕ) (change : Page → Option Page) → (unwrap_or (at_page w p change) w).frames ≡ w.frames
at_page_frames w p change = pick (option_and_then change (slice_get w.pages p)) where
  pick : (o : Option Page) → (unwrap_or (option_map (λ page. record { pages = slice_set w.pages p page; frames = w.frames }) o) w).frames ≡ w.frames
  pick None = refl
  pick (Some page) = refl

-- a frame that some page holds isn't one that none holds
held_other : (pages : List Page) (m n : ℕ) → is_held n pages ≡ true → is_held m pages ≡ false → n ≡ m → ⊥
held_other pages m n h f e = let g : is_held m pages ≡ true = subst (λ i. is_held i pages ≡ true) e h in cc

pub keeps_held : (w : Mappings) (e : Event) (n : ℕ) → is_held n w.pages ≡ true → slice_get (unwrap_or (step w e) w).frames n ≡ slice_get w.frames n
keeps_held w (Write p x) n h = ap (λ fs. slice_get fs n) (at_page_frames w p (written x))
keeps_held w (Guard p) n h = ap (λ fs. slice_get fs n) (at_page_frames w p guarded)
keeps_held w (Unguard p) n h = ap (λ fs. slice_get fs n) (at_page_frames w p unguarded)
keeps_held w (Copy p) n h = ap (λ fs. slice_get fs n) (at_page_frames w p (copied w.frames))
keeps_held w (Map p) n h = ap (λ fs. slice_get fs n) (at_page_frames w p mapped)
keeps_held w (Release p) n h = ap (λ fs. slice_get fs n) (at_page_frames w p released)
keeps_held w (Discard p) n h = ap (λ fs. slice_get fs n) (at_page_frames w p discarded)
keeps_held w (Trim m x) n h = pick (nat_lt m (length w.frames)) (is_held m w.pages) refl where
  pick : (a b : Bool) → is_held m w.pages ≡ b → slice_get (unwrap_or (cond (a && not b) (Some (record { pages = w.pages; frames = slice_set w.frames m x })) None) w).frames n ≡ slice_get w.frames n
  pick false b e = refl
  pick true true e = refl
  pick true false e = get_other w.frames m x n (held_other w.pages m n h e)
keeps_held w (Lend p m) n h = pick (slice_get w.pages p) where
  pick : (o : Option Page) → slice_get (unwrap_or (option_and_then (λ page. lent w p page m page.copy (slice_get w.frames m)) o) w).frames n ≡ slice_get w.frames n
  pick None = refl
  pick (Some page) = made page.copy (slice_get w.frames m) refl where
    made : (c f : Option ℕ) → slice_get w.frames m ≡ f → slice_get (unwrap_or (lent w p page m c f) w).frames n ≡ slice_get w.frames n
    made None f g = refl
    made (Some x) None g = refl
    made (Some x) (Some y) g = free (is_none page.held) (is_held m w.pages) (nat_eq y x) refl refl where
      free : (o b t : Bool) → is_held m w.pages ≡ b → nat_eq y x ≡ t →
          slice_get (unwrap_or (cond (o && (not b || t)) (Some (record { pages = slice_set w.pages p (holding m page); frames = slice_set w.frames m x })) None) w).frames n ≡ slice_get w.frames n
      free false b t u v = refl
      free true true false u v = refl
      free true false t u v = get_other w.frames m x n (held_other w.pages m n h u)
      free true true true u v = ap (λ fs. slice_get fs n) (set_same w.frames m x (let same : y ≡ x = eqb-true y x v in cc))

-- a page that holds a frame is among the pages
held_is_held : (pages : List Page) (p n : ℕ) → option_and_then (λ page. page.held) (slice_get pages p) ≡ Some n → is_held n pages ≡ true
held_is_held [] p n e = cc
held_is_held (page ∷ pages) zero n e = rw e (rw (eq-eqb n n refl) refl)
held_is_held (page ∷ pages) (suc p) n e = pick (is_frame n page.held) (held_is_held pages p n e) where
  pick : (b : Bool) → is_held n pages ≡ true → (b || is_held n pages) ≡ true
  pick true h = refl
  pick false h = h

pub keeps_shown : (es : List Event) (e : Event) (p n : ℕ) (contents frames : List ℕ) → let w = run step (start contents frames) es in
    view_of w p ≡ Some (Over n None) → slice_get (unwrap_or (step w e) w).frames n ≡ slice_get w.frames n
keeps_shown es e p n contents frames v =
    let w = run step (start contents frames) es in
    keeps_held w e n (held_is_held w.pages p n (holds_shown es p contents frames n v))
