-- A process with many windows: they lie apart, have one host, and are in the mappings of all guests.
use Rattle.std.specs.Prelude.{◌≡◌, ℕ, ◌+◌, ◌<◌, Bool, true, false, List, Some, slice_get, unwrap_or}
use Rattle.page_lender.specs.declared.order.Order.TheVariants.{Release}
use Rattle.page_lender.specs.declared.order.Outcome.{Outcome}
use Rattle.page_lender.specs.declared.order.Outcome.TheVariants.{Done, Lent, Refused, Unknown}
use Rattle.window_events.specs.Windows.{Mappings, is_bare, step}
use Rattle.window_events.specs.declared.event.Event.{Event}
use Rattle.window_events.specs.declared.page.Page.{Page}
use Rattle.window_pages.specs.Lives.{IsOthers}
use Rattle.window_pages.specs.declared.page.WindowPage.{WindowPage}
use Rattle.lending_laws.specs.Histories.{Begins, CallsAt, CarriesOut, DetachesAt, Given, History, IsToldAt, Moment, NextComes, Pending, Reads, any_slot, only_free, stored_after}
use Rattle.lending_laws.specs.Slots.{EachSlotIsOnes, slot_of}

-- the pages of a window: the number of the first one, and how many there are
pub record Span : Type 0 where
  pub first : ℕ
  pub count : ℕ

-- no page is in both
abbrev pub LieApart : Span → Span → Type 0
LieApart a b = (i j : ℕ) → i < a.count → j < b.count → a.first + i ≡ b.first + j → ⊥

-- A process at a moment. Of each window it is known whether it is open, and what a window has: the bytes of its pages, their orders, and the slots
-- that the host gave for them and hasn't got back. What guests stored last and the mappings are those of all windows.
pub record Process : Type 0 where
  pub is_open : ℕ → Bool
  pub pages : ℕ → List WindowPage
  pub orders : ℕ → ℕ → Pending
  pub slots : ℕ → ℕ → Bool
  pub stored : ℕ → ℕ
  pub world : Mappings

-- window k at a moment of the process, where this was stored last
abbrev pub moment_with : ℕ → (ℕ → ℕ) → Process → Moment
moment_with k stored x = record { pages = x.pages k; orders = x.orders k; slots = x.slots k; stored = stored; world = x.world }

abbrev pub moment_of : ℕ → Process → Moment
moment_of k x = moment_with k x.stored x

-- ---- what changes

-- what C keeps of window j stays
pub record WindowStays (j : ℕ) (old new : Process) : Type 0 where
  pub is_open : new.is_open j ≡ old.is_open j
  pub pages : new.pages j ≡ old.pages j
  pub orders : new.orders j ≡ old.orders j
  pub slots : new.slots j ≡ old.slots j

-- that of all windows but k
abbrev pub OthersStay : ℕ → Process → Process → Type 0
OthersStay k old new = (j : ℕ) → (j ≡ k → ⊥) → WindowStays j old new

-- window k is open before and after
pub record StaysOpen (k : ℕ) (old new : Process) : Type 0 where
  pub before : old.is_open k ≡ true
  pub after : new.is_open k ≡ true

-- A window opens, of which no page is in another open one.
pub record Opens (spans : ℕ → Span) (k : ℕ) (old new : Process) : Type 0 where
  pub before : old.is_open k ≡ false
  pub after : new.is_open k ≡ true
  pub apart : (j : ℕ) → old.is_open j ≡ true → LieApart (spans k) (spans j)
  pub begins : Begins (spans k).first (spans k).count (moment_of k new)
  pub others : OthersStay k old new
  pub stored : new.stored ≡ old.stored
  pub world : new.world ≡ old.world

-- A window closes, once the host has got back each slot that it gave for it.
pub record Closes (k : ℕ) (old new : Process) : Type 0 where
  pub before : old.is_open k ≡ true
  pub after : new.is_open k ≡ false
  pub free : (s : ℕ) → new.slots k s ≡ false
  pub others : OthersStay k old new
  pub stored : new.stored ≡ old.stored
  pub world : new.world ≡ old.world

-- a host may give any slot, or only one that it hasn't given for any window
abbrev pub may_give : Bool → (ℕ → Bool) → ℕ → Bool
may_give false = any_slot
may_give true = only_free

abbrev pub GivesApart : Bool → (ℕ → ℕ → Bool) → Outcome → Type 0
GivesApart is_fair slots Done = Unit {0}
GivesApart false slots (Lent slot n) = Unit {0}
GivesApart true slots (Lent slot n) = (k : ℕ) → slots k slot ≡ false
GivesApart is_fair slots Refused = Unit {0}
GivesApart is_fair slots Unknown = Unit {0}

-- The outcome of an order of window k is told. A slot comes with it only where the host may give that one.
pub record IsToldIn (is_fair : Bool) (k i : ℕ) (old new : Process) : Type 0 where
  pub told : IsToldAt (may_give is_fair) i (moment_of k old) (moment_of k new)
  pub apart : GivesApart is_fair old.slots told.outcome

-- A guest writes a page or gives it up, or there is an event of a page of no window or of the host.
pub record HappensBeside (spans : ℕ → Span) (old new : Process) : Type 0 where
  pub event : Event
  pub others : (k i : ℕ) → old.is_open k ≡ true → i < (spans k).count → IsOthers ((spans k).first + i) event
  pub windows : (k : ℕ) → WindowStays k old new
  pub stored : (p : ℕ) → new.stored p ≡ stored_after old.world event p (old.stored p)
  pub world : new.world ≡ unwrap_or (step old.world event) old.world

-- The host's lender goes from all windows, and another one comes.
pub record NextForAll (spans : ℕ → Span) (old new : Process) : Type 0 where
  pub is_open : (k : ℕ) → new.is_open k ≡ old.is_open k
  pub each : (k : ℕ) → old.is_open k ≡ true → NextComes (spans k).first (spans k).count (moment_of k old) (moment_of k new)
  pub free : (k s : ℕ) → new.slots k s ≡ false

-- at first no window is open
pub record NothingIsOpen (x : Process) : Type 0 where
  pub is_open : (k : ℕ) → x.is_open k ≡ false
  pub free : (k s : ℕ) → x.slots k s ≡ false

-- All of that, in any order.
pub data ProcessHistory (is_fair : Bool) (spans : ℕ → Span) : Process → Type 0 where
  begins : (x : Process) → NothingIsOpen x → ProcessHistory is_fair spans x
  opens : (old new : Process) (k : ℕ) → ProcessHistory is_fair spans old → Opens spans k old new → ProcessHistory is_fair spans new
  closes : (old new : Process) (k : ℕ) → ProcessHistory is_fair spans old → Closes k old new → ProcessHistory is_fair spans new
  calls : (old new : Process) (k i : ℕ) → ProcessHistory is_fair spans old → StaysOpen k old new → OthersStay k old new
      → CallsAt (spans k).first i (moment_of k old) (moment_of k new) → ProcessHistory is_fair spans new
  carries_out : (old new : Process) (k i : ℕ) → ProcessHistory is_fair spans old → StaysOpen k old new → OthersStay k old new
      → CarriesOut (spans k).first (spans k).count i (moment_of k old) (moment_of k new) → ProcessHistory is_fair spans new
  is_told : (old new : Process) (k i : ℕ) → ProcessHistory is_fair spans old → StaysOpen k old new → OthersStay k old new
      → IsToldIn is_fair k i old new → ProcessHistory is_fair spans new
  happens : (old new : Process) → ProcessHistory is_fair spans old → HappensBeside spans old new → ProcessHistory is_fair spans new
  detaches : (old new : Process) (k i : ℕ) → ProcessHistory is_fair spans old → StaysOpen k old new → OthersStay k old new
      → DetachesAt (spans k).first (spans k).count i (moment_of k old) (moment_of k new) → ProcessHistory is_fair spans new
  next_comes : (old new : Process) → ProcessHistory is_fair spans old → NextForAll spans old new → ProcessHistory is_fair spans new

-- ---- the laws

-- Window k is in a history of its own, with what the process has of it. Both say the same of what was stored last in its pages.
pub record IsAlone (is_fair : Bool) (spans : ℕ → Span) (k : ℕ) (x : Process) : Type 0 where
  pub stored : ℕ → ℕ
  pub agrees : (i : ℕ) → i < (spans k).count → stored ((spans k).first + i) ≡ x.stored ((spans k).first + i)
  pub history : History (may_give is_fair) (spans k).first (spans k).count (moment_with k stored x)

abbrev pub EachWindowIsAlone : Type 0
EachWindowIsAlone =
    (is_fair : Bool) (spans : ℕ → Span) (k : ℕ) (x : Process) → ProcessHistory is_fair spans x → x.is_open k ≡ true → IsAlone is_fair spans k x

-- Whatever hosts give, each page of each open window shows what its guest stored last.
abbrev pub EachPageOfAllIsRead : Type 0
EachPageOfAllIsRead =
    (is_fair : Bool) (spans : ℕ → Span) (k i : ℕ) (x : Process) → ProcessHistory is_fair spans x → x.is_open k ≡ true → i < (spans k).count →
    Reads x.world ((spans k).first + i) (x.stored ((spans k).first + i))

-- Each slot that the host gave and hasn't got back is one page's of one open window.
pub record EachSlotIsOneWindows (x : Process) : Type 0 where
  pub ones : (k : ℕ) → x.is_open k ≡ true → EachSlotIsOnes (x.pages k) (x.slots k)
  pub apart : (j k slot : ℕ) → x.slots j slot ≡ true → x.slots k slot ≡ true → j ≡ k
  pub of_open : (k slot : ℕ) → x.slots k slot ≡ true → x.is_open k ≡ true

-- with a host that gives only slots that it hasn't given
abbrev pub NoSlotOfAllIsLost : Type 0
NoSlotOfAllIsLost = (spans : ℕ → Span) (x : Process) → ProcessHistory true spans x → EachSlotIsOneWindows x

-- When a slot is to be released, no page of any open window that has it shows a frame itself.
abbrev pub NoneOfAllIsReleasedShown : Type 0
NoneOfAllIsReleasedShown =
    (spans : ℕ → Span) (k i j n slot : ℕ) (x : Process) (y : WindowPage) (page : Page) → ProcessHistory true spans x → x.is_open k ≡ true → x.is_open j ≡ true →
    slice_get (x.pages k) i ≡ Some y → x.orders k i ≡ Given (Release slot) → slot_of (x.pages j) n ≡ Some slot → slice_get x.world.pages ((spans j).first + n) ≡ Some page → is_bare page.view ≡ false
