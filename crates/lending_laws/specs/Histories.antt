-- Histories of one window: calls for its pages, what the system did, what was said to have come of it, and what guests and others did.
use Rattle.std.specs.Prelude.{◌≡◌, ℕ, ◌+◌, ◌<◌, nat_eq, Bool, true, false, not, if◌then◌else◌, List, replicate, is_some, unwrap_or, Some, slice_get, ◌⊎◌, Option, None, option_map}
use Rattle.page_lender.specs.Decisions.{account, can_be_done, is_busy, is_given}
use Rattle.page_lender.specs.Events.{Believes, Done_is_true, HeardRightly, done_events}
use Rattle.page_lender.specs.declared.bars.Bars.{Bars}
use Rattle.page_lender.specs.declared.belief.Belief.TheVariants.{Private}
use Rattle.page_lender.specs.declared.belief.Target.TheVariants.{Frame}
use Rattle.page_lender.specs.declared.order.Notice.{Notice}
use Rattle.page_lender.specs.declared.order.Order.{Order}
use Rattle.page_lender.specs.declared.order.Order.TheVariants.{Wait, Copy, Lend, Hold, Compare, Map, LetGo, TakeHome, Release}
use Rattle.page_lender.specs.declared.order.Outcome.{Outcome}
use Rattle.page_lender.specs.declared.order.Outcome.TheVariants.{Done, Lent, Refused, Unknown}
use Rattle.window_events.specs.Played.{played}
use Rattle.window_events.specs.Whole.{IsRight}
use Rattle.window_events.specs.Windows.{Mappings, is_bare, own_content, shown_in, step}
use Rattle.window_events.specs.declared.event.Event.{Event}
use Rattle.window_events.specs.declared.page.Page.{Page}
use Rattle.page_lender.specs.Calls.{IsChosen, IsDone, IsHeard, IsOrdered}
use Rattle.window_pages.specs.Bytes.{belief_of, known_of}
use Rattle.window_pages.specs.Changed.{Becomes, Lends, detached, discarded, lender_with}
use Rattle.window_pages.specs.Known.{chosen_as, no_bars}
use Rattle.window_pages.specs.Laws.{new_page}
use Rattle.window_pages.specs.Lives.{AllDetached, IsOthers, NextLender, OneChanges, left_page}
use Rattle.window_pages.specs.declared.counts.PartCounts.{PartCounts}
use Rattle.window_pages.specs.declared.page.WindowPage.{WindowPage}

-- The order of a page that has no outcome yet: none, one that was given, or one that the system has carried out.
pub data Pending : Type 0 where
  Nothing : Pending
  Given : Order → Pending
  CarriedOut : Order → Pending

-- A window at a moment: the bytes of its pages, as C keeps them; the order of each that has no outcome yet; the slots that its host gave and
-- hasn't got back; what the guest of each page of the protocol stored last; and the mappings of all guests.
pub record Moment : Type 0 where
  pub pages : List WindowPage
  pub orders : ℕ → Pending
  pub slots : ℕ → Bool
  pub stored : ℕ → ℕ
  pub world : Mappings

-- Page p is there and right by the protocol. Whoever reads it finds x, and x was stored last.
pub record Reads (w : Mappings) (p x : ℕ) : Type 0 where
  pub page : Page
  pub there : slice_get w.pages p ≡ Some page
  pub right : IsRight w.frames page
  pub last : page.last ≡ x
  pub shows : shown_in w.frames page.view ≡ x

-- what was stored last in page p after an event of a guest or of others: one that isn't possible changes nothing
abbrev pub stored_after : Mappings → Event → ℕ → ℕ → ℕ
stored_after w e p x = if is_some (step w e) then unwrap_or (own_content p e) x else x

-- ---- calls

-- what is pending once `next` returned this order
abbrev pub pending_after : Order → Pending → Pending
pending_after order before = if is_given order then Given order else before

-- the content of a page was given up, and its lender hears it
pub record IsGivenUp (old new : WindowPage) : Type 0 where
  pub right : HeardRightly (belief_of old) (discarded (known_of old))
  pub belief : belief_of new ≡ discarded (known_of old)
  pub ordered : (known_of new).ordered ≡ (known_of old).ordered

-- Something is noted of page p, what lies at its place or what looks have found. That leaves what is believed, and whether an order is open. A page
-- is no more said to lie over a frame only where it shows none itself.
pub record IsNoted (p : ℕ) (w : Mappings) (old new : WindowPage) : Type 0 where
  pub belief : belief_of new ≡ belief_of old
  pub ordered : (known_of new).ordered ≡ (known_of old).ordered
  pub place : (page : Page) → (known_of old).over ≡ true → (known_of new).over ≡ false → slice_get w.pages p ≡ Some page → is_bare page.view ≡ false

-- A call for page p, by its contract, with what is pending before and after it. What it says is so: a page that is said to be written or given up
-- shows no frame itself.
pub data Calls (p : ℕ) (w : Mappings) : WindowPage → Pending → WindowPage → Pending → Type 0 where
  chooses : (old new : WindowPage) (part after : PartCounts) (is_zeros : Bool) (bars : Bars) (pending : Pending)
      → Lends (IsChosen (chosen_as is_zeros)) bars old new part after → Calls p w old pending new pending
  orders : (old new : WindowPage) (part after : PartCounts) (order : Order) (bars : Bars) (pending : Pending)
      → Lends (IsOrdered order) bars old new part after → Calls p w old pending new (pending_after order pending)
  hears : (old new : WindowPage) (part after : PartCounts) (notice : Notice) (pending : Pending) (page : Page) → slice_get w.pages p ≡ Some page
      → is_bare page.view ≡ false → is_busy (lender_with no_bars (known_of old)) ≡ false → Lends (IsHeard notice) no_bars old new part after
      → Calls p w old pending new pending
  gives_up : (old new : WindowPage) (pending : Pending) (page : Page) → slice_get w.pages p ≡ Some page → is_bare page.view ≡ false
      → IsGivenUp old new → Calls p w old pending new pending
  notes : (old new : WindowPage) (pending : Pending) → IsNoted p w old new → Calls p w old pending new pending

-- what is pending of one page becomes this, and that of all others stays
pub record OneIs (i : ℕ) (pending : Pending) (old new : ℕ → Pending) : Type 0 where
  pub own : new i ≡ pending
  pub others : (j : ℕ) → (j ≡ i → ⊥) → new j ≡ old j

-- A call for the page at place i of the window.
pub record CallsAt (first i : ℕ) (old new : Moment) : Type 0 where
  pub before : WindowPage
  pub after : WindowPage
  pub pages : OneChanges i before after old.pages new.pages
  pub pending : Pending
  pub call : Calls (first + i) old.world before (old.orders i) after pending
  pub orders : OneIs i pending old.orders new.orders
  pub slots : new.slots ≡ old.slots
  pub stored : new.stored ≡ old.stored
  pub world : new.world ≡ old.world

-- ---- what is done

-- The order that was given of the page at place i is carried out, and truly so: the events of the order happen, and nobody is told yet.
pub record CarriesOut (first count i : ℕ) (old new : Moment) : Type 0 where
  pub within : i < count
  pub order : Order
  pub given : old.orders i ≡ Given order
  pub done : can_be_done order ≡ true
  pub page : Page
  pub there : slice_get old.world.pages (first + i) ≡ Some page
  pub truly : Done_is_true order old.world page
  pub pages : new.pages ≡ old.pages
  pub orders : OneIs i (CarriedOut order) old.orders new.orders
  pub slots : new.slots ≡ old.slots
  pub stored : new.stored ≡ old.stored
  pub world : new.world ≡ played old.world (done_events (first + i) (shown_in old.world.frames page.view) order)

-- The outcome is that of the order that is pending: it is said to be done only once it was carried out.
abbrev pub IsTold : Outcome → Order → Pending → Type 0
IsTold Done order pending = pending ≡ CarriedOut order
IsTold (Lent slot n) order pending = pending ≡ Given order
IsTold Refused order pending = pending ≡ Given order
IsTold Unknown order pending = (pending ≡ Given order) ⊎ (pending ≡ CarriedOut order)

-- the slots that the host gave and hasn't got back: one more, or one less
abbrev pub with_slot : ℕ → (ℕ → Bool) → ℕ → Bool
with_slot slot slots s = if nat_eq slot s then true else slots s

abbrev pub without_slot : ℕ → (ℕ → Bool) → ℕ → Bool
without_slot slot slots s = if nat_eq slot s then false else slots s

abbrev pub lent_slots : Outcome → (ℕ → Bool) → ℕ → Bool
lent_slots Done slots = slots
lent_slots (Lent slot n) slots = with_slot slot slots
lent_slots Refused slots = slots
lent_slots Unknown slots = slots

abbrev pub released_slots : ℕ → Outcome → (ℕ → Bool) → ℕ → Bool
released_slots slot Done slots = without_slot slot slots
released_slots slot (Lent other n) slots = slots
released_slots slot Refused slots = slots
released_slots slot Unknown slots = slots

-- those after an outcome: only orders to the host change them
abbrev pub slots_after : Order → Outcome → (ℕ → Bool) → ℕ → Bool
slots_after Wait outcome slots = slots
slots_after Copy outcome slots = slots
slots_after Lend outcome slots = lent_slots outcome slots
slots_after (Hold target) outcome slots = slots
slots_after (Compare target) outcome slots = slots
slots_after (Map target) outcome slots = slots
slots_after (LetGo target) outcome slots = slots
slots_after (TakeHome in_place) outcome slots = slots
slots_after (Release slot) outcome slots = released_slots slot outcome slots

-- a host may give any slot, or only one that it hasn't given
abbrev pub any_slot : (ℕ → Bool) → ℕ → Bool
any_slot slots slot = true

abbrev pub only_free : (ℕ → Bool) → ℕ → Bool
only_free slots slot = not (slots slot)

-- the host may give the slot that it gave
abbrev pub GivesWhatItMay : ((ℕ → Bool) → ℕ → Bool) → (ℕ → Bool) → Outcome → Type 0
GivesWhatItMay may_give slots Done = Unit {0}
GivesWhatItMay may_give slots (Lent slot n) = may_give slots slot ≡ true
GivesWhatItMay may_give slots Refused = Unit {0}
GivesWhatItMay may_give slots Unknown = Unit {0}

-- The outcome of the order of the page at place i is told, by the contract of `take`. That a frame was mapped was noted before.
pub record IsToldAt (may_give : (ℕ → Bool) → ℕ → Bool) (i : ℕ) (old new : Moment) : Type 0 where
  pub before : WindowPage
  pub after : WindowPage
  pub part : PartCounts
  pub part_after : PartCounts
  pub pages : OneChanges i before after old.pages new.pages
  pub order : Order
  pub outcome : Outcome
  pub told : IsTold outcome order (old.orders i)
  pub done : Lends (IsDone outcome) no_bars before after part part_after
  pub noted : (slot n : ℕ) → old.orders i ≡ CarriedOut (Map (Frame slot n)) → (known_of before).over ≡ true
  pub gives : GivesWhatItMay may_give old.slots outcome
  pub orders : OneIs i Nothing old.orders new.orders
  pub slots : new.slots ≡ slots_after order outcome old.slots
  pub stored : new.stored ≡ old.stored
  pub world : new.world ≡ old.world

-- A guest writes a page or gives it up, or there is an event of another page or of the host.
pub record Happens (first count : ℕ) (old new : Moment) : Type 0 where
  pub event : Event
  pub others : (i : ℕ) → i < count → IsOthers (first + i) event
  pub pages : new.pages ≡ old.pages
  pub orders : new.orders ≡ old.orders
  pub slots : new.slots ≡ old.slots
  pub stored : (p : ℕ) → new.stored p ≡ stored_after old.world event p (old.stored p)
  pub world : new.world ≡ unwrap_or (step old.world event) old.world

-- The lender of a page goes: what the page shows is memory of its own from then on, over whatever frames. Its guard stands still, or has gone. Other
-- pages stay.
pub record LeftAt (p : ℕ) (old new : Mappings) : Type 0 where
  pub stands : Bool
  pub page : slice_get new.pages p ≡ option_map (left_page old.frames stands) (slice_get old.pages p)
  pub others : (q : ℕ) → (q ≡ p → ⊥) → slice_get new.pages q ≡ slice_get old.pages q
  pub frames : new.frames ≡ old.frames

-- the slots without that of a page, if it has one
abbrev pub without_account : Option ℕ → (ℕ → Bool) → ℕ → Bool
without_account None slots = slots
without_account (Some slot) slots = without_slot slot slots

-- The lender of the page at place i goes, by the contract of `detach`, where all that was carried out of its order is told. Its slot counts no more.
pub record DetachesAt (first count i : ℕ) (old new : Moment) : Type 0 where
  pub within : i < count
  pub told : (order : Order) → old.orders i ≡ CarriedOut order → ⊥
  pub before : WindowPage
  pub after : WindowPage
  pub part : PartCounts
  pub part_after : PartCounts
  pub pages : OneChanges i before after old.pages new.pages
  pub becomes : Becomes (detached (known_of before)) true before after part part_after
  pub orders : OneIs i Nothing old.orders new.orders
  pub slots : new.slots ≡ without_account (account (belief_of before)) old.slots
  pub stored : new.stored ≡ old.stored
  pub world : LeftAt (first + i) old.world new.world

-- That of a page of another window goes.
pub record LeftBeside (first count : ℕ) (old new : Moment) : Type 0 where
  pub p : ℕ
  pub others : (i : ℕ) → i < count → first + i ≡ p → ⊥
  pub pages : new.pages ≡ old.pages
  pub orders : new.orders ≡ old.orders
  pub slots : new.slots ≡ old.slots
  pub stored : new.stored ≡ old.stored
  pub world : LeftAt p old.world new.world

-- The lender goes from all pages, where all that was carried out is told, and another one comes, whose host has given nothing.
pub record NextComes (first count : ℕ) (old new : Moment) : Type 0 where
  pub told : (i : ℕ) (order : Order) → old.orders i ≡ CarriedOut order → ⊥
  pub pages : AllDetached old.pages new.pages
  pub world : NextLender first count old.world new.world
  pub orders : (i : ℕ) → new.orders i ≡ Nothing
  pub slots : (s : ℕ) → new.slots s ≡ false
  pub stored : new.stored ≡ old.stored

-- ---- histories

-- A window of so many pages begins, of which the first has this number: all bytes are zeros, and nothing is pending or lent. Each page is right, of
-- whatever came before, and Private is right to believe.
pub record Begins (first count : ℕ) (m : Moment) : Type 0 where
  pub pages : m.pages ≡ replicate count new_page
  pub orders : (i : ℕ) → m.orders i ≡ Nothing
  pub slots : (s : ℕ) → m.slots s ≡ false
  pub reads : (i : ℕ) → i < count → Reads m.world (first + i) (m.stored (first + i))
  pub believes : (i : ℕ) → i < count → Believes Private m.world (first + i)

-- All of that, in any order.
pub data History (may_give : (ℕ → Bool) → ℕ → Bool) (first count : ℕ) : Moment → Type 0 where
  begins : (m : Moment) → Begins first count m → History may_give first count m
  calls : (old new : Moment) (i : ℕ) → History may_give first count old → CallsAt first i old new → History may_give first count new
  carries_out : (old new : Moment) (i : ℕ) → History may_give first count old → CarriesOut first count i old new → History may_give first count new
  is_told : (old new : Moment) (i : ℕ) → History may_give first count old → IsToldAt may_give i old new → History may_give first count new
  happens : (old new : Moment) → History may_give first count old → Happens first count old new → History may_give first count new
  detaches : (old new : Moment) (i : ℕ) → History may_give first count old → DetachesAt first count i old new → History may_give first count new
  left_beside : (old new : Moment) → History may_give first count old → LeftBeside first count old new → History may_give first count new
  next_comes : (old new : Moment) → History may_give first count old → NextComes first count old new → History may_give first count new
