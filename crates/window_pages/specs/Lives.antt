-- Lives of a page: what came of its orders, what was heard and noted of it, and what others did in between.
use Rattle.std.specs.Prelude.{◌≡◌, ◌&&◌, ℕ, ◌+◌, ◌<◌, Bool, true, false, List, length, replicate, Some, None, unwrap_or, option_map, slice_get, ◌⊎◌}
use Rattle.page_lender.specs.Decisions.{account, due}
use Rattle.page_lender.specs.Events.{Believes, HeardRightly, SaysTrue, events_of, is_guests, is_of}
use Rattle.page_lender.specs.declared.bars.Bars.{Bars}
use Rattle.page_lender.specs.declared.belief.Belief.{Belief}
use Rattle.page_lender.specs.declared.belief.Belief.TheVariants.{Private}
use Rattle.page_lender.specs.declared.order.Notice.{Notice}
use Rattle.page_lender.specs.declared.order.Order.{Order}
use Rattle.page_lender.specs.declared.order.Outcome.{Outcome}
use Rattle.window_events.specs.Played.{played, refused_from}
use Rattle.window_events.specs.Whole.{IsRight}
use Rattle.window_events.specs.Windows.{Mappings, is_bare, shown, shown_in, step}
use Rattle.window_events.specs.declared.event.Event.{Event}
use Rattle.window_events.specs.declared.page.Page.{Page}
use Rattle.window_events.specs.declared.page.View.TheVariants.{Own}
use Rattle.page_lender.specs.Calls.{IsChosen, IsDone, IsHeard, IsOrdered}
use Rattle.window_pages.specs.Bytes.{belief_of, known_of}
use Rattle.window_pages.specs.Changed.{Becomes, Lends, detached, discarded}
use Rattle.window_pages.specs.Known.{no_bars}
use Rattle.window_pages.specs.Laws.{new_page}
use Rattle.window_pages.specs.declared.counts.PartCounts.{PartCounts}
use Rattle.window_pages.specs.declared.page.WindowPage.{WindowPage}

-- the events of an outcome of the page's order, where the page is this one by the protocol; of one that isn't known, by whether it was done
abbrev pub events_for : ℕ → WindowPage → Page → Mappings → Outcome → Bool → List Event
events_for p bytes page w outcome was_done = events_of p (shown_in w.frames page.view) (due (belief_of bytes)) outcome was_done

-- A call for page p, by its contract, where what it says is so: what the page's bytes become by it, and the mappings. Of a call for the page's
-- place it is enough that it leaves what is believed.
pub data Calls (p : ℕ) (now : Mappings) : WindowPage → WindowPage → Mappings → Type 0 where
  takes : (old new : WindowPage) (part after : PartCounts) (outcome : Outcome) (was_done : Bool) (page : Page) → slice_get now.pages p ≡ Some page
      → Lends (IsDone outcome) no_bars old new part after → SaysTrue (due (belief_of old)) outcome now page
      → Calls p now old new (played now (events_for p old page now outcome was_done))
  orders : (old new : WindowPage) (part after : PartCounts) (order : Order) (bars : Bars) → Lends (IsOrdered order) bars old new part after → Calls p now old new now
  chooses : (old new : WindowPage) (part after : PartCounts) (belief : Belief) (bars : Bars) → Lends (IsChosen belief) bars old new part after → Calls p now old new now
  hears : (old new : WindowPage) (part after : PartCounts) (notice : Notice) (page : Page) → slice_get now.pages p ≡ Some page → is_bare page.view ≡ false
      → Lends (IsHeard notice) no_bars old new part after → Calls p now old new now
  gives_up : (old new : WindowPage) (page : Page) → slice_get now.pages p ≡ Some page → is_bare page.view ≡ false
      → HeardRightly (belief_of old) (discarded (known_of old)) → belief_of new ≡ discarded (known_of old) → Calls p now old new now
  places : (old new : WindowPage) → belief_of new ≡ belief_of old → Calls p now old new now

-- What is believed is right, and whatever outcome comes next that is so, each event of it is possible.
pub record IsWell (p : ℕ) (bytes : WindowPage) (w : Mappings) : Type 0 where
  pub right : Believes (belief_of bytes) w p
  pub possible : (new : WindowPage) (part after : PartCounts) (outcome : Outcome) (was_done : Bool) (page : Page) → slice_get w.pages p ≡ Some page
      → Lends (IsDone outcome) no_bars bytes new part after → SaysTrue (due (belief_of bytes)) outcome w page
      → refused_from 0 w (events_for p bytes page w outcome was_done) ≡ None

-- one page of a table becomes another, and all others stay
pub record OneChanges (i : ℕ) (x y : WindowPage) (old new : List WindowPage) : Type 0 where
  pub before : slice_get old i ≡ Some x
  pub after : slice_get new i ≡ Some y
  pub others : (j : ℕ) → (j ≡ i → ⊥) → slice_get new j ≡ slice_get old j
  pub count : length new ≡ length old

-- the event is one of the page's guest, or of another page or the host
abbrev pub IsOthers : ℕ → Event → Type 0
IsOthers p e = (is_guests p e ≡ true) ⊎ (is_of p e ≡ false)

-- A page whose lender is gone, where that lender's frames had these contents. A frame that it shows stays mapped and never changes, so what the
-- page shows is memory of its own. Writes that waited wait still, if its guard stands. The page holds no frame of the next lender, and nothing of
-- it is copied.
abbrev pub left_page : List ℕ → Bool → Page → Page
left_page frames stands page = record page {
  view = Own (shown_in frames page.view);
  guarded = page.guarded && stands;
  copy = None;
  copy_fresh = false;
  held = None;
  frame_fresh = false;
}

-- Another lender comes: each page of the table is as the first one left it, and each guard stands still or has gone. The frames are the next
-- one's, and they and other pages are whatever they are.
pub record NextLender (first count : ℕ) (now next : Mappings) : Type 0 where
  pub stands : ℕ → Bool
  pub pages : (i : ℕ) → i < count → slice_get next.pages (first + i) ≡ option_map (left_page now.frames (stands i)) (slice_get now.pages (first + i))

-- The page at a place became this one, by the contract of `detach`.
pub record WasDetached (i : ℕ) (old : List WindowPage) (new : WindowPage) : Type 0 where
  pub page : WindowPage
  pub before : slice_get old i ≡ Some page
  pub part : PartCounts
  pub after : PartCounts
  pub becomes : Becomes (detached (known_of page)) true page new part after

-- All pages of a table did.
pub record AllDetached (old new : List WindowPage) : Type 0 where
  pub count : length new ≡ length old
  pub each : (i : ℕ) (y : WindowPage) → slice_get new i ≡ Some y → WasDetached i old y

-- A life of a table of so many pages, of which the first has this number, from these mappings on: all bytes are zeros at first. Calls come in any
-- order, for any page, and events of guests and others in between. A lender goes, where all pages are detached, and another comes.
pub data Life (first count : ℕ) (w : Mappings) : List WindowPage → Mappings → Type 0 where
  begins : Life first count w (replicate count new_page) w
  calls : (old new : List WindowPage) (i : ℕ) (x y : WindowPage) (now next : Mappings) → Life first count w old now → OneChanges i x y old new
      → Calls (first + i) now x y next → Life first count w new next
  others : (pages : List WindowPage) (now : Mappings) (e : Event) → Life first count w pages now
      → ((i : ℕ) → i < count → IsOthers (first + i) e) → Life first count w pages (unwrap_or (step now e) now)
  detaches : (old new : List WindowPage) (now next : Mappings) → Life first count w old now → AllDetached old new → NextLender first count now next
      → Life first count w new next

abbrev pub EachLifeIsWell : Type 0
EachLifeIsWell =
    (first count : ℕ) (pages : List WindowPage) (w now : Mappings) → ((i : ℕ) → i < count → Believes Private w (first + i)) →
    Life first count w pages now → (i : ℕ) (x : WindowPage) → slice_get pages i ≡ Some x → IsWell (first + i) x now

-- where the lender goes and another comes, each page shows what it showed
abbrev pub ShowsOn : Type 0
ShowsOn = (first count i : ℕ) (now next : Mappings) → NextLender first count now next → i < count → shown next (first + i) ≡ shown now (first + i)

-- what the protocol keeps right of a page is so over the next lender's frames, too: above all that it shows what was written last
abbrev pub IsRightStill : Type 0
IsRightStill = (frames next : List ℕ) (stands : Bool) (page : Page) → IsRight frames page → IsRight next (left_page frames stands page)

-- no slot of a page counts any more
abbrev pub HasNothing : Type 0
HasNothing = (i : ℕ) (old : List WindowPage) (new : WindowPage) → WasDetached i old new → account (belief_of new) ≡ None
