-- Windows of a value that owns all windows of a process, as they come and go, and the end of their lender.
use Rattle.std.specs.Prelude.{◌≡◌, ℕ, ◌+◌, ◌<◌, Bool, true, false, nat_eq, if◌then◌else◌, None, Some, slice_get}
use Rattle.page_lender.specs.Decisions.{shows}
use Rattle.page_lender.specs.Events.{Believes}
use Rattle.page_lender.specs.declared.belief.Belief.TheVariants.{Private}
use Rattle.page_lender.specs.declared.order.Order.{Order}
use Rattle.process_lender.specs.Notices.{TakesNote}
use Rattle.process_lender.specs.Offers.{can_leave, can_take_out, first_free, new_window, no_windows, offered}
use Rattle.process_lender.specs.Windows.{InWindow, Lender, Window, window_at, with_window}
use Rattle.process_lender.specs.declared.facts.ProcessFacts.{ProcessFacts}
use Rattle.process_lender.specs.declared.facts.WindowState.{WindowState}
use Rattle.process_lender.specs.declared.notice.Notice.TheVariants.{Detached}
use Rattle.window_pages.specs.Bytes.{belief_of}
use Rattle.window_pages.specs.declared.page.WindowPage.{WindowPage}
use Rattle.lending_laws.specs.Histories.{CarriedOut, Reads}
use Rattle.lending_laws.specs.Owned.{AreCounted, Knows}
use Rattle.lending_laws.specs.Processes.{LieApart, OthersStay, Process, ProcessHistory, Span}

-- ---- a new process

-- The process has the pages of each window as the lender has them, and the counts of parts are right.
pub record OwnedBegins (number : ℕ → ℕ) (x : Process) (new : Lender) : Type 0 where
  pub knows : Knows number new x
  pub counted : AreCounted new

abbrev pub EachOwnedBegins : Type 0
EachOwnedBegins = (number : ℕ → ℕ) (x : Process) (facts : ProcessFacts) → OwnedBegins number x (no_windows facts)

-- ---- a window comes

-- the windows' numbers, where the window at a place has this one
abbrev pub with_number : ℕ → ℕ → (ℕ → ℕ) → ℕ → ℕ
with_number place k number j = if nat_eq j place then k else number j

-- What is said of the pages that are offered is so: window k isn't open, it has these pages, none of them is in an open window, each reads what its guest
-- stored last, and nothing is lent of it.
pub record OfferIsSo (spans : ℕ → Span) (k first count : ℕ) (x : Process) : Type 0 where
  pub closed : x.is_open k ≡ false
  pub starts : (spans k).first ≡ first
  pub many : (spans k).count ≡ count
  pub apart : (j : ℕ) → x.is_open j ≡ true → LieApart (spans k) (spans j)
  pub reads : (i : ℕ) → i < count → Reads x.world (first + i) (x.stored (first + i))
  pub believes : (i : ℕ) → i < count → Believes Private x.world (first + i)

-- Then the process is at a moment of its history where window k is open, and the lender has it at a place that was free. All other windows are as they
-- were. Each page of each open window reads what its guest stored last.
pub record OwnedOffers (is_fair : Bool) (spans : ℕ → Span) (number : ℕ → ℕ) (k : ℕ) (x : Process) (old new : Lender) : Type 0 where
  pub now : Process
  pub history : ProcessHistory is_fair spans now
  pub opened : now.is_open k ≡ true
  pub knows : Knows (with_number (first_free old.windows) k number) new now
  pub was_free : window_at (first_free old.windows) old.windows ≡ None
  pub beside : (j : ℕ) → (j ≡ first_free old.windows → ⊥) → window_at j new.windows ≡ window_at j old.windows
  pub others : OthersStay k x now
  pub stored : now.stored ≡ x.stored
  pub world : now.world ≡ x.world
  pub reads : (j i : ℕ) → now.is_open j ≡ true → i < (spans j).count → Reads now.world ((spans j).first + i) (now.stored ((spans j).first + i))
  pub counted : AreCounted old → AreCounted new

abbrev pub EachOfferGoesOn : Type 0
EachOfferGoesOn =
    (is_fair : Bool) (spans : ℕ → Span) (number : ℕ → ℕ) (k first count seams : ℕ) (state : WindowState) (x : Process) (old new : Lender) → ProcessHistory is_fair spans x → Knows number old x →
    OfferIsSo spans k first count x → new ≡ offered (new_window first count seams state) old → OwnedOffers is_fair spans number k x old new

-- ---- a window goes

-- Then the process is at a moment of its history where the window is closed, and the lender has none at its place. All other windows are as they were.
-- Each page of each open window reads what its guest stored last.
pub record OwnedTakesOut (is_fair : Bool) (spans : ℕ → Span) (number : ℕ → ℕ) (place : ℕ) (x : Process) (old new : Lender) : Type 0 where
  pub now : Process
  pub history : ProcessHistory is_fair spans now
  pub closed : now.is_open (number place) ≡ false
  pub knows : Knows number new now
  pub is_free : window_at place new.windows ≡ None
  pub beside : (j : ℕ) → (j ≡ place → ⊥) → window_at j new.windows ≡ window_at j old.windows
  pub others : OthersStay (number place) x now
  pub stored : now.stored ≡ x.stored
  pub world : now.world ≡ x.world
  pub reads : (j i : ℕ) → now.is_open j ≡ true → i < (spans j).count → Reads now.world ((spans j).first + i) (now.stored ((spans j).first + i))
  pub counted : AreCounted old → AreCounted new

-- where the host has got back each slot that it gave for the window
abbrev pub EachTakeOutGoesOn : Type 0
EachTakeOutGoesOn =
    (is_fair : Bool) (spans : ℕ → Span) (number : ℕ → ℕ) (place : ℕ) (x : Process) (old new : Lender) → ProcessHistory is_fair spans x → Knows number old x → can_take_out place old.windows ≡ true →
    ((s : ℕ) → x.slots (number place) s ≡ false) → new ≡ with_window place None old → OwnedTakesOut is_fair spans number place x old new

-- It has, of a window that can be taken out and of which no page is believed to show its frame, if it gives only slots that it hasn't given.
abbrev pub EachOutIsFree : Type 0
EachOutIsFree =
    (spans : ℕ → Span) (number : ℕ → ℕ) (place : ℕ) (x : Process) (lender : Lender) (w : Window) → ProcessHistory true spans x → Knows number lender x → AreCounted lender →
    window_at place lender.windows ≡ Some w → can_leave w ≡ true → ((i : ℕ) (page : WindowPage) → slice_get w.pages i ≡ Some page → shows (belief_of page) ≡ false) → (s : ℕ) → x.slots (number place) s ≡ false

-- ---- a lender's end

-- Then the process is at a moment of its history, and has the pages of each window as the lender has them. All other windows are as they were. Each page
-- of each open window reads what its guest stored last.
pub record OwnedEndsWell (is_fair : Bool) (spans : ℕ → Span) (number : ℕ → ℕ) (place : ℕ) (x : Process) (old new : Lender) : Type 0 where
  pub now : Process
  pub history : ProcessHistory is_fair spans now
  pub knows : Knows number new now
  pub beside : (j : ℕ) → (j ≡ place → ⊥) → window_at j new.windows ≡ window_at j old.windows
  pub others : OthersStay (number place) x now
  pub stored : now.stored ≡ x.stored
  pub reads : (j i : ℕ) → now.is_open j ≡ true → i < (spans j).count → Reads now.world ((spans j).first + i) (now.stored ((spans j).first + i))
  pub counted : AreCounted old → AreCounted new

-- where all that was carried out of these pages' orders is told
abbrev pub EachOwnedEndIsWell : Type 0
EachOwnedEndIsWell =
    (is_fair : Bool) (spans : ℕ → Span) (number : ℕ → ℕ) (place from n : ℕ) (is : Bool) (x : Process) (old new : Lender) → ProcessHistory is_fair spans x → Knows number old x →
    InWindow (TakesNote Detached old.facts from n is) (is ≡ false) place old new → (is ≡ true → (j : ℕ) (order : Order) → j < n → x.orders (number place) (from + j) ≡ CarriedOut order → ⊥) →
    OwnedEndsWell is_fair spans number place x old new
