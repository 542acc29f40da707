-- What is believed of a page, beside the protocol's page, and the events that outcomes are.
use Rattle.std.specs.Prelude.{◌≡◌, ℕ, ◌==◌, Bool, true, false, not, List, [], ◌∷◌, Option, Some, None, unwrap_or, slice_get}
use Rattle.page_lender.specs.Decisions.{target_frame, waiting}
use Rattle.page_lender.specs.declared.belief.Belief.{Belief}
use Rattle.page_lender.specs.declared.belief.Belief.TheVariants.{Private, Chosen, Copied, Turning, Shown, Leaving}
use Rattle.page_lender.specs.declared.belief.Stage.{Stage}
use Rattle.page_lender.specs.declared.belief.Stage.TheVariants.{Ready, Held, Equal, LettingGo}
use Rattle.page_lender.specs.declared.belief.Target.{Target}
use Rattle.page_lender.specs.declared.belief.Target.TheVariants.{Frame, Zeros}
use Rattle.page_lender.specs.declared.order.Order.{Order}
use Rattle.page_lender.specs.declared.order.Outcome.{Outcome}
use Rattle.page_lender.specs.declared.order.Outcome.TheVariants.{Done, Lent, Refused, Unknown}
use Rattle.window_events.specs.Windows.{Mappings, shown_in, is_bare, step}
use Rattle.window_events.specs.Played.{refused_from, played}
use Rattle.window_events.specs.declared.event.Event.{Event}
use Rattle.window_events.specs.declared.event.Event.TheVariants.{Write, Guard, Unguard, Copy, Lend, Map, Release, Trim, Discard}
use Rattle.window_events.specs.declared.page.Page.{Page}
use Rattle.window_events.specs.declared.page.View.{View}
use Rattle.window_events.specs.declared.page.View.TheVariants.{Own, Over}

-- the frame that the page holds, where it holds this one
abbrev pub kept_at : Stage → Target → Option ℕ → Option ℕ
kept_at Ready target held = None
kept_at Held target held = None
kept_at Equal target held = target_frame target
kept_at LettingGo (Frame slot n) held = held
kept_at LettingGo Zeros held = None

abbrev pub kept : Belief → Option ℕ → Option ℕ
kept Private held = None
kept Chosen held = None
kept Copied held = None
kept (Turning stage target) held = kept_at stage target held
kept (Shown slot n homing) held = Some n
kept (Leaving slot) held = held

-- no frame itself is shown but this one
abbrev pub only_frame : ℕ → View → Bool
only_frame n (Own x) = true
only_frame n (Over m None) = m == n
only_frame n (Over m (Some x)) = true

-- no frame itself is shown but the one that was mapped
abbrev pub seen : Belief → View → Bool
seen Private view = not (is_bare view)
seen Chosen view = not (is_bare view)
seen Copied view = not (is_bare view)
seen (Turning stage target) view = not (is_bare view)
seen (Shown slot n homing) view = only_frame n view
seen (Leaving slot) view = not (is_bare view)

-- the copy that the page has, where it was found to be zeros
abbrev pub equal_copy : Target → Option ℕ → Option ℕ
equal_copy (Frame slot n) copy = copy
equal_copy Zeros copy = Some 0

abbrev pub copy_at : Stage → Target → Option ℕ → Option ℕ
copy_at Ready target copy = copy
copy_at Held target copy = copy
copy_at Equal target copy = equal_copy target copy
copy_at LettingGo target copy = copy

abbrev pub kept_copy : Belief → Option ℕ → Option ℕ
kept_copy Private copy = copy
kept_copy Chosen copy = copy
kept_copy Copied copy = copy
kept_copy (Turning stage target) copy = copy_at stage target copy
kept_copy (Shown slot n homing) copy = copy
kept_copy (Leaving slot) copy = copy

-- What is believed is right of the page. A guard may have gone where writes are believed to wait, since a page may be given up at any time.
pub record Fits (belief : Belief) (page : Page) : Type 0 where
  pub holds : page.held ≡ kept belief page.held
  pub view : seen belief page.view ≡ true
  pub waits : waiting belief ≡ false → page.guarded ≡ false
  pub copy : page.copy ≡ kept_copy belief page.copy

-- what is believed is right of page p
pub record Believes (belief : Belief) (w : Mappings) (p : ℕ) : Type 0 where
  pub page : Page
  pub there : slice_get w.pages p ≡ Some page
  pub fits : Fits belief page

-- what an order that was done did to page p, which showed x
abbrev pub done_events : ℕ → ℕ → Order → List Event
done_events p x Order.Wait = []
done_events p x Order.Copy = []
done_events p x Order.Lend = []
done_events p x (Order.Hold target) = Guard p ∷ []
done_events p x (Order.Compare (Frame slot n)) = Copy p ∷ Lend p n ∷ []
done_events p x (Order.Compare Zeros) = Copy p ∷ []
done_events p x (Order.Map (Frame slot n)) = Map p ∷ []
done_events p x (Order.Map Zeros) = Discard p ∷ []
done_events p x (Order.LetGo target) = Unguard p ∷ []
done_events p x (Order.TakeHome in_place) = Write p x ∷ []
done_events p x (Order.Release slot) = Release p ∷ []

-- the same if it was done
abbrev pub events_if : Bool → ℕ → ℕ → Order → List Event
events_if true p x order = done_events p x order
events_if false p x order = []

-- the events that an outcome stands for; where it is unknown, by whether the order was done
abbrev pub events_of : ℕ → ℕ → Order → Outcome → Bool → List Event
events_of p x order Done was_done = done_events p x order
events_of p x order (Lent slot n) was_done = []
events_of p x order Refused was_done = []
events_of p x order Unknown was_done = events_if was_done p x order

-- what is known where an order was done: a page that was compared was guarded, and equal to its frame or to zeros; the guard of one that was
-- mapped or given back stood since
abbrev pub Done_is_true : Order → Mappings → Page → Type 0
Done_is_true Order.Wait w page = Unit {0}
Done_is_true Order.Copy w page = Unit {0}
Done_is_true Order.Lend w page = Unit {0}
Done_is_true (Order.Hold target) w page = Unit {0}
Done_is_true (Order.Compare (Frame slot n)) w page = (page.guarded ≡ true) × (slice_get w.frames n ≡ Some (shown_in w.frames page.view))
Done_is_true (Order.Compare Zeros) w page = (page.guarded ≡ true) × (shown_in w.frames page.view ≡ 0)
Done_is_true (Order.Map (Frame slot n)) w page = page.frame_fresh ≡ true
Done_is_true (Order.Map Zeros) w page = page.copy_fresh ≡ true
Done_is_true (Order.LetGo target) w page = Unit {0}
Done_is_true (Order.TakeHome in_place) w page = Unit {0}
Done_is_true (Order.Release slot) w page = Unit {0}

abbrev pub SaysTrue : Order → Outcome → Mappings → Page → Type 0
SaysTrue order Done w page = Done_is_true order w page
SaysTrue order (Lent slot n) w page = Unit {0}
SaysTrue order Refused w page = Unit {0}
SaysTrue order Unknown w page = Unit {0}

-- the events are possible one after another, and after them this is right to believe
pub record Follows (es : List Event) (belief : Belief) (w : Mappings) (p : ℕ) : Type 0 where
  pub possible : refused_from 0 w es ≡ None
  pub right : Believes belief (played w es) p

-- in all mappings where the old belief was right of a page, the outcome's events are possible, and then the new one is right
abbrev pub DoneByEvents : Belief → Order → Outcome → Belief → Type 0
DoneByEvents old order outcome new =
    (w : Mappings) (p : ℕ) (was_done : Bool) (b : Believes old w p) → SaysTrue order outcome w b.page →
    Follows (events_of p (shown_in w.frames b.page.view) order outcome was_done) new w p

-- where the old belief was right, the new one is
abbrev pub StaysRight : Belief → Belief → Type 0
StaysRight old new = (w : Mappings) (p : ℕ) → Believes old w p → Believes new w p

-- the same, where the page shows no frame itself: what was heard is so
abbrev pub HeardRightly : Belief → Belief → Type 0
HeardRightly old new = (w : Mappings) (p : ℕ) (b : Believes old w p) → is_bare b.page.view ≡ false → Believes new w p

-- no write to the page waits
abbrev pub IsFree : Belief → Type 0
IsFree belief = (w : Mappings) (p : ℕ) (b : Believes belief w p) → b.page.guarded ≡ false

-- the page shows no frame itself
abbrev pub ShowsNone : Belief → Type 0
ShowsNone belief = (w : Mappings) (p : ℕ) (b : Believes belief w p) → is_bare b.page.view ≡ false

-- the page's guest writes it or gives it up
abbrev pub is_guests : ℕ → Event → Bool
is_guests p (Write q x) = q == p
is_guests p (Guard q) = false
is_guests p (Unguard q) = false
is_guests p (Copy q) = false
is_guests p (Lend q n) = false
is_guests p (Map q) = false
is_guests p (Release q) = false
is_guests p (Trim n x) = false
is_guests p (Discard q) = q == p

-- the event is one of page p
abbrev pub is_of : ℕ → Event → Bool
is_of p (Write q x) = q == p
is_of p (Guard q) = q == p
is_of p (Unguard q) = q == p
is_of p (Copy q) = q == p
is_of p (Lend q n) = q == p
is_of p (Map q) = q == p
is_of p (Release q) = q == p
is_of p (Trim n x) = false
is_of p (Discard q) = q == p

-- an event of this kind leaves what is believed of a page right, at any time
abbrev pub KeptBy : (ℕ → Event → Bool) → Bool → Type 0
KeptBy kind is =
    (belief : Belief) (w : Mappings) (p : ℕ) (e : Event) → kind p e ≡ is → Believes belief w p → Believes belief (unwrap_or (step w e) w) p
