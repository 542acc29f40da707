-- What a guest reads, and what is believed of its pages, at each moment of a history.
use Rattle.std.specs.Prelude.{◌≡◌, ℕ, ◌+◌, ◌<◌, ◌≤◌, Bool, true, List, [], ◌∷◌, length, replicate, Some, None, slice_get, slice_index, unwrap_or}
use Rattle.page_lender.specs.Decisions.{due}
use Rattle.page_lender.specs.Events.{Believes, Done_is_true, done_events}
use Rattle.page_lender.specs.declared.belief.Target.TheVariants.{Frame}
use Rattle.page_lender.specs.declared.order.Order.{Order}
use Rattle.page_lender.specs.declared.order.Order.TheVariants.{Map}
use Rattle.page_lender.specs.declared.order.Outcome.TheVariants.{Done}
use Rattle.window_events.specs.Played.{refused_from}
use Rattle.window_events.specs.Windows.{Mappings, is_bare, run, shown_in, start, step}
use Rattle.window_events.specs.declared.event.Event.{Event}
use Rattle.window_events.specs.declared.page.Page.{Page}
use Rattle.page_lender.specs.Calls.{IsDone}
use Rattle.window_pages.specs.Bytes.{belief_of, known_of}
use Rattle.window_pages.specs.Changed.{Lends}
use Rattle.window_pages.specs.Known.{no_bars}
use Rattle.window_pages.specs.Laws.{new_page}
use Rattle.window_pages.specs.declared.counts.PartCounts.{PartCounts}
use Rattle.window_pages.specs.declared.page.WindowPage.{WindowPage}
use Rattle.lending_laws.specs.Histories.{Begins, CarriedOut, Given, History, Moment, Nothing, Reads, stored_after}

-- Whatever hosts give: at each moment each page of the window shows what its guest stored last, and is right by the protocol.
abbrev pub EachPageIsRead : Type 0
EachPageIsRead =
    (may_give : (ℕ → Bool) → ℕ → Bool) (first count : ℕ) (m : Moment) → History may_give first count m → (i : ℕ) → i < count →
    Reads m.world (first + i) (m.stored (first + i))

-- What is believed of a page is right, unless an order was carried out of which nobody is told yet.
abbrev pub EachBeliefIsRight : Type 0
EachBeliefIsRight =
    (may_give : (ℕ → Bool) → ℕ → Bool) (first count : ℕ) (m : Moment) → History may_give first count m → (i : ℕ) (x : WindowPage) →
    slice_get m.pages i ≡ Some x → ((order : Order) → m.orders i ≡ CarriedOut order → ⊥) → Believes (belief_of x) m.world (first + i)

-- An order that is carried out, and truly so, is events that are possible, if a call can take that it was done.
abbrev pub EachOrderIsPossible : Type 0
EachOrderIsPossible =
    (may_give : (ℕ → Bool) → ℕ → Bool) (first count : ℕ) (m : Moment) → History may_give first count m → (i : ℕ) (x y : WindowPage) (part after : PartCounts) (order : Order) (page : Page) →
    slice_get m.pages i ≡ Some x → m.orders i ≡ Given order → slice_get m.world.pages (first + i) ≡ Some page → Done_is_true order m.world page →
    Lends (IsDone Done) no_bars x y part after → refused_from 0 m.world (done_events (first + i) (shown_in m.world.frames page.view) order) ≡ None

-- An order without an outcome is the one that is due by what is believed: an outcome that is told is of no other one.
pub record IsDue (order : Order) (x : WindowPage) : Type 0 where
  pub ordered : (known_of x).ordered ≡ true
  pub is_due : order ≡ due (belief_of x)

abbrev pub EachOrderIsDue : Type 0
EachOrderIsDue =
    (may_give : (ℕ → Bool) → ℕ → Bool) (first count : ℕ) (m : Moment) → History may_give first count m → (i : ℕ) (x : WindowPage) (order : Order) →
    slice_get m.pages i ≡ Some x → (m.orders i ≡ Given order → IsDue order x) × (m.orders i ≡ CarriedOut order → IsDue order x)

-- A page that shows a frame itself is noted to lie over one, unless the frame was just mapped and nobody is told.
abbrev pub EachFrameIsNoted : Type 0
EachFrameIsNoted =
    (may_give : (ℕ → Bool) → ℕ → Bool) (first count : ℕ) (m : Moment) → History may_give first count m → (i : ℕ) (x : WindowPage) (page : Page) →
    slice_get m.pages i ≡ Some x → slice_get m.world.pages (first + i) ≡ Some page → is_bare page.view ≡ true →
    ((slot n : ℕ) → m.orders i ≡ CarriedOut (Map (Frame slot n)) → ⊥) → (known_of x).over ≡ true

-- what was stored last in a page after a list of events
abbrev pub stored_by : Mappings → List Event → ℕ → ℕ → ℕ
stored_by w [] p x = x
stored_by w (e ∷ es) p x = stored_by (unwrap_or (step w e) w) es p (stored_after w e p x)

-- From any mappings where a page is right, whatever the other pages are, every list of events leaves it so.
abbrev pub EachEventKeepsReading : Type 0
EachEventKeepsReading = (w : Mappings) (p x : ℕ) (es : List Event) → Reads w p x → Reads (run step w es) p (stored_by w es p x)

-- a window at the start of the protocol
abbrev pub at_start : ℕ → List ℕ → List ℕ → Moment
at_start count contents frames = record {
  pages = replicate count new_page;
  orders = λ i. Nothing;
  slots = λ s. Bool.false;
  stored = λ p. slice_index contents p;
  world = start contents frames;
}

abbrev pub StartBegins : Type 0
StartBegins = (first count : ℕ) (contents frames : List ℕ) → first + count ≤ length contents → Begins first count (at_start count contents frames)
