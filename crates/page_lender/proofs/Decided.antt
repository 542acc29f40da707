-- What the lender decides is events that are possible, and what it believes then is right.
use Rattle.std.proofs.Common.{◌≡◌, ℕ, Bool, true, false, cond, not, ◌&&◌, ◌||◌, List, [], ◌∷◌, Option, Some, None, refl, ap, sym, ◌∙◌, subst}
use Rattle.std.specs.Prelude.{slice_get, slice_set, nat_eq, option_map, option_and_then, is_none}
use Rattle.std.specs.Option.{option_map_or}
use Rattle.std.proofs.lemmas.Bool.{eq-eqb}
use Rattle.window_events.specs.Windows.{Mappings, shown_in, overwritten, is_bare, is_held, written, guarded, lifted, unguarded, copied, mapped, released, discarded, with_page, holding, lent, step}
use Rattle.window_events.specs.Played.{refused_from, played}
use Rattle.window_events.specs.declared.event.Event.{Event}
use Rattle.window_events.specs.declared.event.Event.TheVariants.{Write, Guard, Unguard, Copy, Lend, Map, Release, Discard}
use Rattle.window_events.specs.declared.page.Page.{Page}
use Rattle.window_events.specs.declared.page.View.{View}
use Rattle.window_events.specs.declared.page.View.TheVariants.{Own, Over}
use Rattle.page_lender.specs.Decisions.{dropped, due, is_barred, is_outcome, order_at, order_home, prepared, target_frame, unshown}
use Rattle.page_lender.specs.Lender.{done_of, doubted, doubted_at, given, home, obeyed, obeyed_at, refused}
use Rattle.page_lender.specs.Events.{Fits, Believes, done_events, Done_is_true, Follows, DoneByEvents, StaysRight, kept, kept_at, kept_copy}
use Rattle.page_lender.specs.declared.bars.Bars.{Bars}
use Rattle.page_lender.specs.declared.belief.Belief.{Belief}
use Rattle.page_lender.specs.declared.belief.Belief.TheVariants.{Private, Chosen, Copied, Turning, Shown, Leaving}
use Rattle.page_lender.specs.declared.belief.Homing.{Homing}
use Rattle.page_lender.specs.declared.belief.Homing.TheVariants.{Off, InPlace, Elsewhere}
use Rattle.page_lender.specs.declared.belief.Stage.{Stage}
use Rattle.page_lender.specs.declared.belief.Stage.TheVariants.{Ready, Held, Equal, LettingGo}
use Rattle.page_lender.specs.declared.belief.Target.{Target}
use Rattle.page_lender.specs.declared.belief.Target.TheVariants.{Frame, Zeros}
use Rattle.page_lender.specs.declared.order.Outcome.{Outcome}
use Rattle.page_lender.specs.declared.order.Outcome.TheVariants.{Done, Lent, Refused, Unknown}
use Rattle.page_lender.proofs.Kept.{set_own, stepped, over_seen}

-- no event
none_follows : (belief : Belief) (w : Mappings) (p : ℕ) (page : Page) → slice_get w.pages p ≡ Some page → Fits belief page → Follows [] belief w p
none_follows belief w p page e f = record { possible = refl; right = record { page = page; there = e; fits = f } }

-- one event
one_possible : (w after : Mappings) (e : Event) → step w e ≡ Some after → refused_from 0 w (e ∷ []) ≡ None
one_possible w after e s = ap (λ o. option_map_or (λ next. refused_from 1 next []) o (Some 0)) s

one_played : (w after : Mappings) (e : Event) → step w e ≡ Some after → played w (e ∷ []) ≡ after
one_played w after e s = ap (λ o. option_map_or (λ next. played next []) o w) s

one_follows : (belief : Belief) (w : Mappings) (p : ℕ) (e : Event) (page new : Page) → slice_get w.pages p ≡ Some page →
    step w e ≡ Some (with_page w p new) → Fits belief new → Follows (e ∷ []) belief w p
one_follows belief w p e page new there s f = record {
  possible = one_possible w (with_page w p new) e s;
  right = subst (λ v. Believes belief v p) (sym (one_played w (with_page w p new) e s)) (record { page = new; there = set_own w.pages p page new there; fits = f });
}

-- the page is held
guard_follows : (belief : Belief) (w : Mappings) (p : ℕ) (page : Page) → slice_get w.pages p ≡ Some page → Fits belief (record page { guarded = true }) → Follows (Guard p ∷ []) belief w p
guard_follows belief w p page there f =
    let new : Page = record page { guarded = true } in
    one_follows belief w p (Guard p) page new there (stepped w p page new guarded there refl) f

-- it is let go
unguard_follows : (belief : Belief) (w : Mappings) (p : ℕ) (page : Page) → slice_get w.pages p ≡ Some page → Fits belief (lifted page) → Follows (Unguard p ∷ []) belief w p
unguard_follows belief w p page there f = one_follows belief w p (Unguard p) page (lifted page) there (stepped w p page (lifted page) unguarded there refl) f

-- it gets a copy of its own
write_follows : (belief : Belief) (w : Mappings) (p x : ℕ) (page : Page) → slice_get w.pages p ≡ Some page → page.guarded ≡ false →
    Fits belief (record page { view = overwritten page.view x; last = x }) → Follows (Write p x ∷ []) belief w p
write_follows belief w p x page there g f =
    let new : Page = record page { view = overwritten page.view x; last = x } in
    let writes : written x page ≡ Some new = ap (λ c. cond c None (Some new)) g in
    one_follows belief w p (Write p x) page new there (stepped w p page new (written x) there writes) f

-- its slot is released
release_follows : (belief : Belief) (w : Mappings) (p : ℕ) (page : Page) → slice_get w.pages p ≡ Some page → is_bare page.view ≡ false →
    Fits belief (record page { held = None; frame_fresh = false }) → Follows (Release p ∷ []) belief w p
release_follows belief w p page there v f =
    let new : Page = record page { held = None; frame_fresh = false } in
    let s : released page ≡ Some new = ap (λ b. cond b None (Some new)) v in
    one_follows belief w p (Release p) page new there (stepped w p page new released there s) f

-- it is mapped
map_follows : (belief : Belief) (n : ℕ) (w : Mappings) (p : ℕ) (page : Page) → slice_get w.pages p ≡ Some page → page.held ≡ Some n → page.frame_fresh ≡ true →
    Fits belief (record (lifted page) { view = Over n None }) → Follows (Map p ∷ []) belief w p
map_follows belief n w p page there h fresh f =
    let new : Page = record (lifted page) { view = Over n None } in
    let s : mapped page ≡ Some new = ap (λ b. cond b (option_map (λ m. record (lifted page) { view = Over m None }) page.held) None) fresh ∙ ap (λ o. option_map (λ m. record (lifted page) { view = Over m None }) o) h in
    one_follows belief w p (Map p) page new there (stepped w p page new mapped there s) f

copy_step : (frames : List ℕ) (page : Page) → page.guarded ≡ true → copied frames page ≡ Some (record page { copy = Some (shown_in frames page.view); copy_fresh = true })
copy_step frames page g = ap (λ b. cond b (Some (record page { copy = Some (shown_in frames page.view); copy_fresh = true })) None) g

equal_lent : (b : Bool) (out : Mappings) → cond (b || true) (Some out) None ≡ Some out
equal_lent true out = refl
equal_lent false out = refl

-- a lend to a frame that has the content already
lend_step : (w : Mappings) (p n x : ℕ) (page : Page) → slice_get w.pages p ≡ Some page → page.held ≡ None → page.copy ≡ Some x → slice_get w.frames n ≡ Some x →
    step w (Lend p n) ≡ Some (record { pages = slice_set w.pages p (holding n page); frames = slice_set w.frames n x })
lend_step w p n x page there h c f =
    let out : Mappings = record { pages = slice_set w.pages p (holding n page); frames = slice_set w.frames n x } in
    ap (λ o. option_and_then (λ q. lent w p q n q.copy (slice_get w.frames n)) o) there
    ∙ ap (λ o. lent w p page n o (slice_get w.frames n)) c
    ∙ ap (λ o. lent w p page n (Some x) o) f
    ∙ ap (λ o. cond (is_none o && (not (is_held n w.pages) || nat_eq x x)) (Some out) None) h
    ∙ ap (λ b. cond (not (is_held n w.pages) || b) (Some out) None) (eq-eqb x x refl)
    ∙ equal_lent (not (is_held n w.pages)) out

-- two events
two_possible : (w a b : Mappings) (e f : Event) → step w e ≡ Some a → step a f ≡ Some b → refused_from 0 w (e ∷ f ∷ []) ≡ None
two_possible w a b e f s t =
    ap (λ o. option_map_or (λ next. refused_from 1 next (f ∷ [])) o (Some 0)) s
    ∙ ap (λ o. option_map_or (λ next. refused_from 2 next []) o (Some 1)) t

two_played : (w a b : Mappings) (e f : Event) → step w e ≡ Some a → step a f ≡ Some b → played w (e ∷ f ∷ []) ≡ b
two_played w a b e f s t =
    ap (λ o. option_map_or (λ next. played next (f ∷ [])) o w) s
    ∙ ap (λ o. option_map_or (λ next. played next []) o a) t

-- the page was compared with its frame
compare_follows : (slot n : ℕ) (w : Mappings) (p : ℕ) (page : Page) → slice_get w.pages p ≡ Some page → Fits (Turning Held (Frame slot n)) page → page.guarded ≡ true →
    slice_get w.frames n ≡ Some (shown_in w.frames page.view) → Follows (Copy p ∷ Lend p n ∷ []) (Turning Equal (Frame slot n)) w p
compare_follows slot n w p page there f g same =
    let x : ℕ = shown_in w.frames page.view in
    let first : Page = record page { copy = Some x; copy_fresh = true } in
    let second : Page = holding n first in
    let a : Mappings = with_page w p first in
    let b : Mappings = record { pages = slice_set a.pages p second; frames = slice_set a.frames n x } in
    let in_a : slice_get a.pages p ≡ Some first = set_own w.pages p page first there in
    let in_b : slice_get b.pages p ≡ Some second = set_own a.pages p first second in_a in
    let s : step w (Copy p) ≡ Some a = stepped w p page first (copied w.frames) there (copy_step w.frames page g) in
    let t : step a (Lend p n) ≡ Some b = lend_step a p n x first in_a f.holds refl same in
    record {
      possible = two_possible w a b (Copy p) (Lend p n) s t;
      right = subst (λ v. Believes (Turning Equal (Frame slot n)) v p) (sym (two_played w a b (Copy p) (Lend p n) s t))
          (record { page = second; there = in_b; fits = record { holds = refl; view = f.view; waits = λ h. cc; copy = refl } });
    }

-- the page was compared with zeros
zeros_follow : (w : Mappings) (p : ℕ) (page : Page) → slice_get w.pages p ≡ Some page → Fits (Turning Held Zeros) page → page.guarded ≡ true → shown_in w.frames page.view ≡ 0 →
    Follows (Copy p ∷ []) (Turning Equal Zeros) w p
zeros_follow w p page there f g same =
    let new : Page = record page { copy = Some (shown_in w.frames page.view); copy_fresh = true } in
    one_follows (Turning Equal Zeros) w p (Copy p) page new there (stepped w p page new (copied w.frames) there (copy_step w.frames page g))
    (record { holds = f.holds; view = f.view; waits = λ h. cc; copy = ap (λ x. Some x) same })

-- its memory is given back
discard_follows : (w : Mappings) (p : ℕ) (page : Page) → slice_get w.pages p ≡ Some page → page.held ≡ None → Follows (Discard p ∷ []) Private w p
discard_follows w p page there h =
    let new : Page = record (lifted page) { view = Own 0; last = 0 } in
    one_follows Private w p (Discard p) page new there (stepped w p page new discarded there refl) (record { holds = h; view = refl; waits = λ k. refl; copy = refl })

-- a view that isn't bare
clear : (view : View) → not (is_bare view) ≡ true → is_bare view ≡ false
clear (Own x) h = refl
clear (Over n (Some x)) h = refl
clear (Over n None) h = cc

-- a page that isn't to show its target: the frame that it holds, if it holds one, is its loan's
holds_still : (target : Target) (held : Option ℕ) → held ≡ None → held ≡ kept_at LettingGo target held
holds_still (Frame slot n) held e = refl
holds_still Zeros held e = e

keeps_loan : (target : Target) (held : Option ℕ) → held ≡ target_frame target → held ≡ kept_at LettingGo target held
keeps_loan (Frame slot n) held e = refl
keeps_loan Zeros held e = e

unshown_fits : (target : Target) (page : Page) → page.held ≡ kept_at LettingGo target page.held → not (is_bare page.view) ≡ true → page.guarded ≡ false → Fits (unshown target) page
unshown_fits (Frame slot n) page h v g = record { holds = refl; view = v; waits = λ e. g; copy = refl }
unshown_fits Zeros page h v g = record { holds = h; view = v; waits = λ e. g; copy = refl }

dropped_fits : (stage : Stage) (target : Target) (page : Page) → Fits (Turning stage target) page → Fits (dropped stage target) page
dropped_fits Ready target page f = unshown_fits target page (holds_still target page.held f.holds) f.view (f.waits refl)
dropped_fits Held target page f = record { holds = holds_still target page.held f.holds; view = f.view; waits = λ h. cc; copy = refl }
dropped_fits Equal target page f = record { holds = keeps_loan target page.held f.holds; view = f.view; waits = λ h. cc; copy = refl }
dropped_fits LettingGo target page f = f

-- a copy of its own, where it is or elsewhere
home_follows : (belief : Belief) (slot n : ℕ) (homing : Homing) (w : Mappings) (p : ℕ) (b : Believes (Shown slot n homing) w p) →
    (b.page.held ≡ Some n → b.page.held ≡ kept belief b.page.held) → kept_copy belief b.page.copy ≡ b.page.copy →
    Follows (Write p (shown_in w.frames b.page.view) ∷ []) belief w p
home_follows belief slot n homing w p b h c =
    let x : ℕ = shown_in w.frames b.page.view in
    let free : b.page.guarded ≡ false = b.fits.waits refl in
    write_follows belief w p x b.page b.there free (record { holds = h b.fits.holds; view = over_seen belief b.page.view x; waits = λ e. free; copy = sym c })

-- what was due was done
turning_follows : (stage : Stage) (target : Target) (w : Mappings) (p : ℕ) (b : Believes (Turning stage target) w p) → Done_is_true (order_at stage target) w b.page →
    Follows (done_events p (shown_in w.frames b.page.view) (order_at stage target)) (obeyed_at stage target) w p
turning_follows Ready target w p b t = guard_follows (Turning Held target) w p b.page b.there (record { holds = b.fits.holds; view = b.fits.view; waits = λ h. cc; copy = refl })
turning_follows Held (Frame slot n) w p b t = compare_follows slot n w p b.page b.there b.fits t.0 t.1
turning_follows Held Zeros w p b t = zeros_follow w p b.page b.there b.fits t.0 t.1
turning_follows Equal (Frame slot n) w p b t =
    map_follows (Shown slot n Off) n w p b.page b.there b.fits.holds t (record { holds = b.fits.holds; view = eq-eqb n n refl; waits = λ h. refl; copy = refl })
turning_follows Equal Zeros w p b t = discard_follows w p b.page b.there b.fits.holds
turning_follows LettingGo target w p b t = unguard_follows (unshown target) w p b.page b.there (unshown_fits target (lifted b.page) b.fits.holds b.fits.view refl)

shown_follows : (slot n : ℕ) (homing : Homing) (w : Mappings) (p : ℕ) (b : Believes (Shown slot n homing) w p) → is_outcome (order_home homing) Done ≡ true →
    Follows (done_events p (shown_in w.frames b.page.view) (order_home homing)) (home homing slot n) w p
shown_follows slot n Off w p b o = cc
shown_follows slot n InPlace w p b o = home_follows (Leaving slot) slot n InPlace w p b (λ e. refl) refl
shown_follows slot n Elsewhere w p b o = home_follows (Leaving slot) slot n Elsewhere w p b (λ e. refl) refl

obeyed_follows : (belief : Belief) (w : Mappings) (p : ℕ) (b : Believes belief w p) → is_outcome (due belief) Done ≡ true → Done_is_true (due belief) w b.page →
    Follows (done_events p (shown_in w.frames b.page.view) (due belief)) (obeyed belief) w p
obeyed_follows Private w p b o t = cc
obeyed_follows Chosen w p b o t = none_follows Copied w p b.page b.there (record { holds = b.fits.holds; view = b.fits.view; waits = b.fits.waits; copy = refl })
obeyed_follows Copied w p b o t = cc
obeyed_follows (Turning stage target) w p b o t = turning_follows stage target w p b t
obeyed_follows (Shown slot n homing) w p b o t = shown_follows slot n homing w p b o
obeyed_follows (Leaving slot) w p b o t =
    release_follows Private w p b.page b.there (clear b.page.view b.fits.view) (record { holds = refl; view = b.fits.view; waits = b.fits.waits; copy = refl })

refused_fits : (belief : Belief) (page : Page) → Fits belief page → Fits (refused belief) page
refused_fits Private page f = f
refused_fits Chosen page f = record { holds = f.holds; view = f.view; waits = f.waits; copy = refl }
refused_fits Copied page f = record { holds = f.holds; view = f.view; waits = f.waits; copy = refl }
refused_fits (Turning stage target) page f = dropped_fits stage target page f
refused_fits (Shown slot n homing) page f = record { holds = f.holds; view = f.view; waits = f.waits; copy = refl }
refused_fits (Leaving slot) page f = f

given_fits : (belief : Belief) (slot n : ℕ) (page : Page) → Fits belief page → Fits (given belief slot n) page
given_fits Private slot n page f = f
given_fits Chosen slot n page f = f
given_fits Copied slot n page f = record { holds = f.holds; view = f.view; waits = f.waits; copy = refl }
given_fits (Turning stage target) slot n page f = f
given_fits (Shown old m homing) slot n page f = f
given_fits (Leaving old) slot n page f = f

-- nothing is known, and it wasn't done
turning_doubt : (stage : Stage) (target : Target) (page : Page) → Fits (Turning stage target) page → Fits (Turning (doubted_at stage) target) page
turning_doubt Ready target page f = record { holds = holds_still target page.held f.holds; view = f.view; waits = λ h. cc; copy = refl }
turning_doubt Held target page f = f
turning_doubt Equal target page f = f
turning_doubt LettingGo target page f = f

doubted_fits : (belief : Belief) (page : Page) → Fits belief page → Fits (doubted belief) page
doubted_fits Private page f = f
doubted_fits Chosen page f = f
doubted_fits Copied page f = f
doubted_fits (Turning stage target) page f = turning_doubt stage target page f
doubted_fits (Shown slot n homing) page f = record { holds = f.holds; view = f.view; waits = f.waits; copy = refl }
doubted_fits (Leaving slot) page f = f

-- nothing is known, and it was done
turning_doubted : (stage : Stage) (target : Target) (w : Mappings) (p : ℕ) (b : Believes (Turning stage target) w p) → is_outcome (order_at stage target) Unknown ≡ true →
    Follows (done_events p (shown_in w.frames b.page.view) (order_at stage target)) (Turning (doubted_at stage) target) w p
turning_doubted Ready target w p b o =
    guard_follows (Turning LettingGo target) w p b.page b.there (record { holds = holds_still target b.page.held b.fits.holds; view = b.fits.view; waits = λ h. cc; copy = refl })
turning_doubted Held target w p b o = cc
turning_doubted Equal target w p b o = cc
turning_doubted LettingGo target w p b o =
    unguard_follows (Turning LettingGo target) w p b.page b.there (record { holds = b.fits.holds; view = b.fits.view; waits = λ h. refl; copy = refl })

shown_doubted : (slot n : ℕ) (homing : Homing) (w : Mappings) (p : ℕ) (b : Believes (Shown slot n homing) w p) → is_outcome (order_home homing) Unknown ≡ true →
    Follows (done_events p (shown_in w.frames b.page.view) (order_home homing)) (Shown slot n Off) w p
shown_doubted slot n Off w p b o = cc
shown_doubted slot n InPlace w p b o = home_follows (Shown slot n Off) slot n InPlace w p b (λ e. e) refl
shown_doubted slot n Elsewhere w p b o = home_follows (Shown slot n Off) slot n Elsewhere w p b (λ e. e) refl

doubted_follows : (belief : Belief) (w : Mappings) (p : ℕ) (b : Believes belief w p) → is_outcome (due belief) Unknown ≡ true →
    Follows (done_events p (shown_in w.frames b.page.view) (due belief)) (doubted belief) w p
doubted_follows Private w p b o = cc
doubted_follows Chosen w p b o = cc
doubted_follows Copied w p b o = cc
doubted_follows (Turning stage target) w p b o = turning_doubted stage target w p b o
doubted_follows (Shown slot n homing) w p b o = shown_doubted slot n homing w p b o
doubted_follows (Leaving slot) w p b o = cc

pub done_by_events : (belief : Belief) (outcome : Outcome) → is_outcome (due belief) outcome ≡ true → DoneByEvents belief (due belief) outcome (done_of belief outcome)
done_by_events belief Done o w p was_done b t = obeyed_follows belief w p b o t
done_by_events belief (Lent slot n) o w p was_done b t = none_follows (given belief slot n) w p b.page b.there (given_fits belief slot n b.page b.fits)
done_by_events belief Refused o w p was_done b t = none_follows (refused belief) w p b.page b.there (refused_fits belief b.page b.fits)
done_by_events belief Unknown o w p true b t = doubted_follows belief w p b o
done_by_events belief Unknown o w p false b t = none_follows (doubted belief) w p b.page b.there (doubted_fits belief b.page b.fits)

-- once bars are looked at
prepared_fits : (bars : Bars) (belief : Belief) (page : Page) → Fits belief page → Fits (prepared bars belief) page
prepared_fits bars Private page f = f
prepared_fits bars Chosen page f = pick (is_barred bars) where
  pick : (b : Bool) → Fits (cond b Private Chosen) page
  pick true = record { holds = f.holds; view = f.view; waits = f.waits; copy = refl }
  pick false = f
prepared_fits bars Copied page f = pick (is_barred bars) where
  pick : (b : Bool) → Fits (cond b Private Copied) page
  pick true = record { holds = f.holds; view = f.view; waits = f.waits; copy = refl }
  pick false = f
prepared_fits bars (Turning stage target) page f = pick (is_barred bars) where
  pick : (b : Bool) → Fits (cond b (dropped stage target) (Turning stage target)) page
  pick true = dropped_fits stage target page f
  pick false = f
prepared_fits bars (Shown slot n homing) page f = record { holds = f.holds; view = f.view; waits = f.waits; copy = refl }
prepared_fits bars (Leaving slot) page f = f

pub prepared_right : (bars : Bars) (belief : Belief) → StaysRight belief (prepared bars belief)
prepared_right bars belief w p b = record { page = b.page; there = b.there; fits = prepared_fits bars belief b.page b.fits }
