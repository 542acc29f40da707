-- Histories of one page: what came of its lender's orders, what the lender heard, and what others did in between.
use Rattle.std.specs.Prelude.{◌≡◌, ℕ, Bool, true, false, List, [], ◌∷◌, Some, None, unwrap_or, slice_get}
use Rattle.page_lender.specs.Events.{Believes, SaysTrue, events_of, DoneByEvents, StaysRight, HeardRightly, is_of, is_guests}
use Rattle.page_lender.specs.declared.belief.Belief.{Belief}
use Rattle.page_lender.specs.declared.belief.Belief.TheVariants.{Private, Turning}
use Rattle.page_lender.specs.declared.belief.Stage.TheVariants.{Equal}
use Rattle.page_lender.specs.declared.belief.Target.TheVariants.{Frame, Zeros}
use Rattle.page_lender.specs.declared.order.Order.{Order}
use Rattle.page_lender.specs.declared.order.Outcome.{Outcome}
use Rattle.window_events.specs.Windows.{Mappings, shown_in, is_bare, start, step, run, shown}
use Rattle.window_events.specs.Played.{refused_from, played}
use Rattle.window_events.specs.declared.event.Event.{Event}
use Rattle.window_events.specs.declared.page.Page.{Page}

-- what the lender does, and believes then: it takes an outcome, which was done or not where it is unknown; it hears something; it decides
-- something else. Between these, the page's guest writes it or gives it up, or other pages and the host change.
pub data Move : Type 0 where
  takes : Order → Outcome → Bool → Belief → Move
  hears : Belief → Move
  turns : Belief → Move
  guest : Event → Move
  others : Event → Move

-- what is believed then
abbrev pub believed : Belief → Move → Belief
believed old (takes order outcome was_done new) = new
believed old (hears new) = new
believed old (turns new) = new
believed old (guest e) = old
believed old (others e) = old

-- the events of the move
abbrev pub move_events : ℕ → Page → Mappings → Move → List Event
move_events p page w (takes order outcome was_done new) = events_of p (shown_in w.frames page.view) order outcome was_done
move_events p page w (hears new) = []
move_events p page w (turns new) = []
move_events p page w (guest e) = []
move_events p page w (others e) = []

-- the mappings then
abbrev pub moved : ℕ → Page → Mappings → Move → Mappings
moved p page w (takes order outcome was_done new) = played w (events_of p (shown_in w.frames page.view) order outcome was_done)
moved p page w (hears new) = w
moved p page w (turns new) = w
moved p page w (guest e) = unwrap_or (step w e) w
moved p page w (others e) = unwrap_or (step w e) w

-- the move keeps the contracts of `done`, `heard`, and of `choose` and `next`, and what it says is so
abbrev pub IsTrue : ℕ → Belief → Page → Mappings → Move → Type 0
IsTrue p old page w (takes order outcome was_done new) = DoneByEvents old order outcome new × SaysTrue order outcome w page
IsTrue p old page w (hears new) = HeardRightly old new × (is_bare page.view ≡ false)
IsTrue p old page w (turns new) = StaysRight old new
IsTrue p old page w (guest e) = is_guests p e ≡ true
IsTrue p old page w (others e) = is_of p e ≡ false

-- A history of moves from these mappings on.
pub data History (p : ℕ) (first : Belief) (w : Mappings) : List Move → Belief → Mappings → Type 0 where
  begins : History p first w [] first w
  goes_on : (ms : List Move) (m : Move) (old : Belief) (now : Mappings) (page : Page) → History p first w ms old now → slice_get now.pages p ≡ Some page
      → IsTrue p old page now m → History p first w (m ∷ ms) (believed old m) (moved p page now m)

-- After a history from where a belief was right: the belief is right, and whatever true move comes next, each event of it is possible.
pub record IsRightThen (p : ℕ) (belief : Belief) (w : Mappings) : Type 0 where
  pub right : Believes belief w p
  pub possible : (m : Move) (page : Page) → slice_get w.pages p ≡ Some page → IsTrue p belief page w m → refused_from 0 w (move_events p page w m) ≡ None

abbrev pub EveryHistoryIsPossible : Type 0
EveryHistoryIsPossible =
    (p : ℕ) (first belief : Belief) (w now : Mappings) (ms : List Move) → Believes first w p → History p first w ms belief now → IsRightThen p belief now

-- before the first event Private is right of each page
abbrev pub BeginsPrivate : Type 0
BeginsPrivate = (contents frames : List ℕ) (p : ℕ) (page : Page) → slice_get (start contents frames).pages p ≡ Some page → Believes Private (start contents frames) p

-- what is known of a page whose memory is given back: it was rightly believed to be zeros, and its guard stood since
abbrev pub IsKnown : Order → Mappings → ℕ → Page → Type 0
IsKnown Order.Wait w p page = Unit {0}
IsKnown Order.Copy w p page = Unit {0}
IsKnown Order.Lend w p page = Unit {0}
IsKnown (Order.Hold target) w p page = Unit {0}
IsKnown (Order.Compare target) w p page = Unit {0}
IsKnown (Order.Map (Frame slot n)) w p page = Unit {0}
IsKnown (Order.Map Zeros) w p page = Believes (Turning Equal Zeros) w p × (page.copy_fresh ≡ true)
IsKnown (Order.LetGo target) w p page = Unit {0}
IsKnown (Order.TakeHome in_place) w p page = Unit {0}
IsKnown (Order.Release slot) w p page = Unit {0}

-- After any events from the start on: no outcome's events change what the page shows.
abbrev pub NeverSeen : Type 0
NeverSeen =
    (es : List Event) (contents frames : List ℕ) (p : ℕ) (page : Page) (order : Order) (outcome : Outcome) (was_done : Bool) →
    let w : Mappings = run step (start contents frames) es in
    slice_get w.pages p ≡ Some page → IsKnown order w p page → shown (played w (events_of p (shown_in w.frames page.view) order outcome was_done)) p ≡ shown w p
