-- What an order does leaves what its page reads, and other pages.
use Rattle.std.proofs.Common.{◌≡◌, ◌∙◌, ℕ, Bool, true, false, cond, List, [], ◌∷◌, Option, Some, None, refl, ap, sym, subst}
use Rattle.std.specs.Prelude.{is_some, nat_eq, slice_get, unwrap_or}
use Rattle.std.specs.Option.{option_map_or}
use Rattle.window_events.specs.Played.{played}
use Rattle.window_events.specs.Windows.{Mappings, own_content, shown_in, step}
use Rattle.window_events.specs.declared.event.Event.{Event}
use Rattle.window_events.specs.declared.event.Event.TheVariants.{Write, Guard, Unguard, Copy, Lend, Map, Release, Trim, Discard}
use Rattle.window_events.specs.declared.page.Page.{Page}
use Rattle.page_lender.specs.Decisions.{due, order_at, order_home}
use Rattle.page_lender.specs.Events.{Believes, Done_is_true, Fits, done_events, is_of}
use Rattle.page_lender.proofs.Kept.{kept_by_others}
use Rattle.page_lender.specs.declared.belief.Belief.{Belief}
use Rattle.page_lender.specs.declared.belief.Belief.TheVariants.{Private, Chosen, Copied, Turning, Shown, Leaving}
use Rattle.page_lender.specs.declared.belief.Homing.{Homing}
use Rattle.page_lender.specs.declared.belief.Homing.TheVariants.{Off, InPlace, Elsewhere}
use Rattle.page_lender.specs.declared.belief.Stage.{Stage}
use Rattle.page_lender.specs.declared.belief.Stage.TheVariants.{Ready, Held, Equal, LettingGo}
use Rattle.page_lender.specs.declared.belief.Target.{Target}
use Rattle.page_lender.specs.declared.belief.Target.TheVariants.{Frame, Zeros}
use Rattle.page_lender.specs.declared.order.Order.{Order}
use Rattle.lending_laws.specs.Histories.{Reads, stored_after}
use Rattle.lending_laws.proofs.Pages.{event_reads}
use Rattle.lending_laws.proofs.Beliefs.{fits_at}

-- events of other pages than p
abbrev pub Apart : ℕ → List Event → Type 0
Apart p [] = Unit {0}
Apart p (e ∷ es) = (is_of p e ≡ false) × Apart p es

pub apart_keeps : (p : ℕ) (belief : Belief) (es : List Event) (w : Mappings) → Apart p es → Believes belief w p → Believes belief (played w es) p
apart_keeps p belief [] w a b = b
apart_keeps p belief (e ∷ es) w a b = pick (λ next k. apart_keeps p belief es next a.1 k) (step w e) refl where
  pick : ((next : Mappings) → Believes belief next p → Believes belief (played next es) p) → (o : Option Mappings) → step w e ≡ o → Believes belief (option_map_or (λ next. played next es) o w) p
  pick again None s = b
  pick again (Some next) s = again next (subst (λ o. Believes belief (unwrap_or o w) p) s (kept_by_others belief w p e a.0 b))

-- the events of one page's order are events of that page
pub done_apart : (q p x : ℕ) (order : Order) → nat_eq q p ≡ false → Apart p (done_events q x order)
done_apart q p x Order.Wait d = tt
done_apart q p x Order.Copy d = tt
done_apart q p x Order.Lend d = tt
done_apart q p x (Order.Hold target) d = (d, tt)
done_apart q p x (Order.Compare (Frame slot n)) d = (d, (d, tt))
done_apart q p x (Order.Compare Zeros) d = (d, tt)
done_apart q p x (Order.Map (Frame slot n)) d = (d, tt)
done_apart q p x (Order.Map Zeros) d = (d, tt)
done_apart q p x (Order.LetGo target) d = (d, tt)
done_apart q p x (Order.TakeHome in_place) d = (d, tt)
done_apart q p x (Order.Release slot) d = (d, tt)

-- events that store nothing in page p
abbrev pub Quiet : ℕ → List Event → Type 0
Quiet p [] = Unit {0}
Quiet p (e ∷ es) = (own_content p e ≡ None) × Quiet p es

pub unstored : (w : Mappings) (e : Event) (p x : ℕ) → own_content p e ≡ None → stored_after w e p x ≡ x
unstored w e p x n = ap (λ o. cond (is_some (step w e)) (unwrap_or o x) x) n ∙ pick (is_some (step w e)) where
  pick : (b : Bool) → cond b x x ≡ x
  pick true = refl
  pick false = refl

pub quiet_reads : (p x : ℕ) (es : List Event) (w : Mappings) → Quiet p es → Reads w p x → Reads (played w es) p x
quiet_reads p x [] w q r = r
quiet_reads p x (e ∷ es) w q r = pick (λ next k. quiet_reads p x es next q.1 k) (step w e) refl where
  pick : ((next : Mappings) → Reads next p x → Reads (played next es) p x) → (o : Option Mappings) → step w e ≡ o → Reads (option_map_or (λ next. played next es) o w) p x
  pick again None s = r
  pick again (Some next) s =
      let moved : Reads (unwrap_or (step w e) w) p x = subst (λ v. Reads (unwrap_or (step w e) w) p v) (unstored w e p x q.0) (event_reads w p x e r) in
      again next (subst (λ o. Reads (unwrap_or o w) p x) s moved)

none_of : (q p y : ℕ) → nat_eq q p ≡ false → cond (nat_eq q p) (Some y) None ≡ None
none_of q p y t = ap (λ b. cond b (Some y) None) t

pub apart_own : (p : ℕ) (e : Event) → is_of p e ≡ false → own_content p e ≡ None
apart_own p (Write q y) t = none_of q p y t
apart_own p (Discard q) t = none_of q p 0 t
apart_own p (Guard q) t = refl
apart_own p (Unguard q) t = refl
apart_own p (Copy q) t = refl
apart_own p (Lend q n) t = refl
apart_own p (Map q) t = refl
apart_own p (Release q) t = refl
apart_own p (Trim n x) t = refl

pub apart_quiet : (p : ℕ) (es : List Event) → Apart p es → Quiet p es
apart_quiet p [] a = tt
apart_quiet p (e ∷ es) a = (apart_own p e a.0, apart_quiet p es a.1)

-- what is stored is what was there
stored_again : (b c : Bool) (x y : ℕ) → y ≡ x → cond b (unwrap_or (cond c (Some y) None) x) x ≡ x
stored_again false c x y e = refl
stored_again true false x y e = refl
stored_again true true x y e = e

played_one : (w : Mappings) (e : Event) (p x : ℕ) → Reads (unwrap_or (step w e) w) p x → Reads (played w (e ∷ [])) p x
played_one w e p x r = pick (step w e) r where
  pick : (o : Option Mappings) → Reads (unwrap_or o w) p x → Reads (option_map_or (λ next. played next []) o w) p x
  pick None r = r
  pick (Some next) r = r

write_reads : (w : Mappings) (p x y : ℕ) → y ≡ x → Reads w p x → Reads (played w (Write p y ∷ [])) p x
write_reads w p x y e r =
    played_one w (Write p y) p x (subst (λ v. Reads (unwrap_or (step w (Write p y)) w) p v) (stored_again (is_some (step w (Write p y))) (nat_eq p p) x y e) (event_reads w p x (Write p y) r))

discard_reads : (w : Mappings) (p x : ℕ) → 0 ≡ x → Reads w p x → Reads (played w (Discard p ∷ [])) p x
discard_reads w p x e r =
    played_one w (Discard p) p x (subst (λ v. Reads (unwrap_or (step w (Discard p)) w) p v) (stored_again (is_some (step w (Discard p))) (nat_eq p p) x 0 e) (event_reads w p x (Discard p) r))

turning_zeros : (stage : Stage) (target : Target) → Order.Map Zeros ≡ order_at stage target → Turning stage target ≡ Turning Equal Zeros
turning_zeros Ready target e = cc
turning_zeros Held target e = cc
turning_zeros Equal (Frame slot n) e = cc
turning_zeros Equal Zeros e = refl
turning_zeros LettingGo target e = cc

home_zeros : (homing : Homing) → Order.Map Zeros ≡ order_home homing → ⊥
home_zeros Off e = cc
home_zeros InPlace e = cc
home_zeros Elsewhere e = cc

due_zeros : (b : Belief) → Order.Map Zeros ≡ due b → b ≡ Turning Equal Zeros
due_zeros Private e = cc
due_zeros Chosen e = cc
due_zeros Copied e = cc
due_zeros (Turning stage target) e = turning_zeros stage target e
due_zeros (Shown slot n homing) e = absurd (home_zeros homing e)
due_zeros (Leaving slot) e = cc

-- a page that is there reads what it shows
pub page_shows : (w : Mappings) (p x : ℕ) (page : Page) → Reads w p x → slice_get w.pages p ≡ Some page → shown_in w.frames page.view ≡ x
page_shows w p x page r e =
    let found : slice_get w.pages p ≡ Some r.page = r.there in
    let same : r.page ≡ page = cc in
    ap (λ q. shown_in w.frames q.view) (sym same) ∙ r.shows

-- memory that is given back was found to be zeros, and its guard stood
was_zeros : (w : Mappings) (p x : ℕ) (b : Belief) (page : Page) → Reads w p x → slice_get w.pages p ≡ Some page → Believes b w p → Order.Map Zeros ≡ due b → page.copy_fresh ≡ true → 0 ≡ x
was_zeros w p x b page r e f d fresh =
    let found : slice_get w.pages p ≡ Some r.page = r.there in
    let same : page ≡ r.page = cc in
    let fits : Fits (Turning Equal Zeros) page = subst (λ v. Fits v page) (due_zeros b d) (fits_at p b w page f e) in
    r.right.copied 0 (subst (λ q. q.copy_fresh ≡ true) same fresh) (subst (λ q. q.copy ≡ Some 0) same fits.copy) ∙ r.last

-- an order that is carried out, and truly so, leaves what its page reads
pub done_reads : (w : Mappings) (p x : ℕ) (b : Belief) (page : Page) (order : Order) → Reads w p x → slice_get w.pages p ≡ Some page → Believes b w p → order ≡ due b → Done_is_true order w page →
    Reads (played w (done_events p (shown_in w.frames page.view) order)) p x
done_reads w p x b page Order.Wait r e f d t = r
done_reads w p x b page Order.Copy r e f d t = r
done_reads w p x b page Order.Lend r e f d t = r
done_reads w p x b page (Order.Hold target) r e f d t = quiet_reads p x (Guard p ∷ []) w (refl, tt) r
done_reads w p x b page (Order.Compare (Frame slot n)) r e f d t = quiet_reads p x (Copy p ∷ Lend p n ∷ []) w (refl, (refl, tt)) r
done_reads w p x b page (Order.Compare Zeros) r e f d t = quiet_reads p x (Copy p ∷ []) w (refl, tt) r
done_reads w p x b page (Order.Map (Frame slot n)) r e f d t = quiet_reads p x (Map p ∷ []) w (refl, tt) r
done_reads w p x b page (Order.Map Zeros) r e f d t = discard_reads w p x (was_zeros w p x b page r e f d t) r
done_reads w p x b page (Order.LetGo target) r e f d t = quiet_reads p x (Unguard p ∷ []) w (refl, tt) r
done_reads w p x b page (Order.TakeHome in_place) r e f d t = write_reads w p x (shown_in w.frames page.view) (page_shows w p x page r e) r
done_reads w p x b page (Order.Release slot) r e f d t = quiet_reads p x (Release p ∷ []) w (refl, tt) r
