-- The calls that C makes for a window's pages, and what is so where they say the truth.
use Rattle.std.specs.Prelude.{◌≡◌, ℕ, ◌+◌, ◌<◌, Bool, true, nat_lt, List, length, Option, Some, slice_get, slice_index_or, slice_set}
use Rattle.lend_steps.specs.Asks.{Answered, ToAsk}
use Rattle.lend_steps.specs.Copies.{CameOfCopy, ToCopy}
use Rattle.lend_steps.specs.Holds.{ToGiveBack, ToHold}
use Rattle.lend_steps.specs.Lists.{Told, Turn}
use Rattle.lend_steps.specs.Loans.{CameOfLoan}
use Rattle.lend_steps.specs.Releases.{FindsAt}
use Rattle.lend_steps.specs.declared.copies.CopyOutcome.{CopyOutcome}
use Rattle.lend_steps.specs.declared.loans.LoanReply.{LoanReply}
use Rattle.lend_steps.specs.declared.loans.LoanReply.TheVariants.{Unheard, NoFrame, NoSlot, Given as Loan}
use Rattle.page_holds.specs.Bytes.{step_by}
use Rattle.page_holds.specs.Orders.{OrdersNext}
use Rattle.page_holds.specs.Rows.{RowBegins, RowCameOut, taking_at}
use Rattle.page_holds.specs.Steps.{asks_for, outcome_for}
use Rattle.page_holds.specs.declared.rows.run.RowOrder.{RowOrder}
use Rattle.page_lender.specs.declared.belief.Target.TheVariants.{Frame}
use Rattle.page_lender.specs.declared.order.Order.{Order}
use Rattle.page_lender.specs.declared.order.Order.TheVariants.{Map}
use Rattle.page_lender.specs.declared.order.Outcome.{Outcome}
use Rattle.page_lender.specs.declared.order.Outcome.TheVariants.{Done, Lent, Refused}
use Rattle.window_pages.specs.Bytes.{belief_of, known_of}
use Rattle.window_pages.specs.Known.{takes}
use Rattle.window_pages.specs.declared.counts.PartCounts.{PartCounts}
use Rattle.window_pages.specs.declared.facts.WindowFacts.{WindowFacts}
use Rattle.window_pages.specs.declared.page.WindowPage.{WindowPage}
use Rattle.window_tables.specs.Facts.{facts_at}
use Rattle.window_tables.specs.Homes.{Changes, HasMoved, IsCalled, IsCopied, IsHome, OneMemory, hears}
use Rattle.window_tables.specs.Tables.{Notes}
use Rattle.window_tables.specs.declared.changes.Change.{Change}
use Rattle.window_tables.specs.declared.changes.Change.TheVariants.{Uncovered}
use Rattle.window_tables.specs.declared.facts.TableFacts.{TableFacts}
use Rattle.lending_laws.specs.Histories.{Calls, CarriedOut, GivesWhatItMay, History, IsTold, Moment, Pending, Reads}
use Rattle.lending_laws.specs.Notes.{IsTruly, ShowsNone}
use Rattle.page_looks.specs.declared.finds.step.FindOutcome.{FindOutcome}
use Rattle.part_scans.specs.Scans.{BeginsAt, FollowsAt, GoesOnAt, RowGoes, no_outcome}
use Rattle.part_scans.specs.declared.scan.Scan.{Scan}

-- what is noted of each of so many pages is so
abbrev pub AreTruly : Change → ℕ → ℕ → ℕ → Moment → Type 0
AreTruly change first from count m = (n : ℕ) → n < count → IsTruly change (first + (from + n)) m.world

-- The outcome of the order of the page at place i is so: the order is said to be done only once it was carried out. That a frame was mapped was noted
-- before, and a host gives a slot that it may give.
pub record IsSo (may_give : (ℕ → Bool) → ℕ → Bool) (m : Moment) (i : ℕ) (x : WindowPage) (outcome : Outcome) : Type 0 where
  pub order : Order
  pub told : IsTold outcome order (m.orders i)
  pub noted : (slot n : ℕ) → m.orders i ≡ CarriedOut (Map (Frame slot n)) → (known_of x).over ≡ true
  pub gives : GivesWhatItMay may_give m.slots outcome

-- the outcomes are so that a call takes of pages of a row, from its place `begin` on
abbrev pub AreSo : ((ℕ → Bool) → ℕ → Bool) → Moment → ℕ → ℕ → ℕ → (ℕ → WindowPage → Option Outcome) → Type 0
AreSo may_give m from begin count outcome =
    (n : ℕ) (x : WindowPage) (its : Outcome) → n < count → slice_get m.pages (from + (begin + n)) ≡ Some x → outcome n x ≡ Some its → takes its (known_of x) ≡ true → IsSo may_give m (from + (begin + n)) x its

-- what a step of the row says of a page: with the first `done` pages it was done
abbrev pub row_outcome : List ℕ → ℕ → ℕ → ℕ → WindowPage → Option Outcome
row_outcome row begin done n x = outcome_for (step_by (belief_of x) (slice_index_or row (begin + n) 0)) (belief_of x) (nat_lt n done)

-- if an order of the page is open that can have this outcome, it is so
abbrev pub IsSoOf : ((ℕ → Bool) → ℕ → Bool) → Moment → ℕ → Outcome → Type 0
IsSoOf may_give m i outcome = (x : WindowPage) → slice_get m.pages i ≡ Some x → takes outcome (known_of x) ≡ true → IsSo may_give m i x outcome

-- what is said of a page's copy
abbrev pub CopyIsSo : ((ℕ → Bool) → ℕ → Bool) → Moment → ℕ → CopyOutcome → Type 0
CopyIsSo may_give m i CopyOutcome.Nothing = Unit {0}
CopyIsSo may_give m i CopyOutcome.Good = IsSoOf may_give m i Done
CopyIsSo may_give m i CopyOutcome.Changed = IsSoOf may_give m i Refused
CopyIsSo may_give m i CopyOutcome.Zeros = IsSoOf may_give m i Refused

-- what a host said of a page; a slot that the page can't take any more isn't the page's
abbrev pub LoanIsSo : ((ℕ → Bool) → ℕ → Bool) → Moment → ℕ → LoanReply → Type 0
LoanIsSo may_give m i Unheard = IsSoOf may_give m i Refused
LoanIsSo may_give m i NoFrame = IsSoOf may_give m i Refused
LoanIsSo may_give m i NoSlot = IsSoOf may_give m i Refused
LoanIsSo may_give m i (Loan slot frame) = IsSoOf may_give m i (Lent slot frame)

-- where the system said that a page has memory of its own, it shows no frame itself
abbrev pub CopiesAreSo : ℕ → ℕ → Moment → List FindOutcome → Type 0
CopiesAreSo first from m outcomes = (n : ℕ) → (slice_index_or outcomes n no_outcome).is_own ≡ true → ShowsNone (first + (from + n)) m.world

-- of each page that hears this outcome it is so
abbrev pub HomesAreSo : ((ℕ → Bool) → ℕ → Bool) → Moment → ℕ → ℕ → Outcome → Type 0
HomesAreSo may_give m from n outcome = (j : ℕ) (x : WindowPage) → j < n → slice_get m.pages (from + j) ≡ Some x → hears outcome x ≡ true → IsSo may_give m (from + j) x outcome

-- A call of the lender for pages of a window, by its contract, where what it says is so: the window's pages become these. A call for a list of pages is
-- one such call for each of them, one after another. A call for one page is a call of a history.
pub data Called (may_give : (ℕ → Bool) → ℕ → Bool) (first : ℕ) (m : Moment) (new : List WindowPage) : Type 0 where
  notes : (lead from n : ℕ) (change : Change) (parts parts_new : List PartCounts) → Notes change lead from n true m.pages new parts parts_new
      → AreTruly change first from n m → Called may_give first m new
  begins_row : (lead from : ℕ) (takings row row_new : List ℕ) (parts parts_new : List PartCounts) → RowBegins lead from takings true m.pages new parts parts_new row row_new
      → AreSo may_give m from 0 (length row) (λ n x. asks_for (belief_of x) (taking_at takings n)) → Called may_give first m new
  orders_row : (lead from : ℕ) (table : TableFacts) (pins row : List ℕ) (order : RowOrder) (parts parts_new : List PartCounts)
      → OrdersNext table pins lead from row order m.pages new parts parts_new → Called may_give first m new
  row_done : (lead from begin done refused : ℕ) (row row_new : List ℕ) (parts parts_new : List PartCounts) → RowCameOut lead from begin done refused true m.pages new parts parts_new row row_new
      → AreSo may_give m from begin (done + refused) (row_outcome row begin done) → Called may_give first m new
  of_page : (i : ℕ) (x y : WindowPage) (pending : Pending) → slice_get m.pages i ≡ Some x → new ≡ slice_set m.pages i y
      → Calls (first + i) m.world x (m.orders i) y pending → Called may_give first m new
  to_ask : (lead number answer : ℕ) (facts : WindowFacts) (has_room is_passing : Bool) (parts parts_new : List PartCounts)
      → Turn (λ said x y p q. ToAsk facts has_room is_passing said x y p q) lead number answer m.pages new parts parts_new → Called may_give first m new
  answered : (lead number fingerprint answer : ℕ) (is_whole is_other has_room : Bool) (parts parts_new : List PartCounts)
      → Turn (λ said x y p q. Answered is_whole is_other has_room fingerprint said x y p q) lead number answer m.pages new parts parts_new → Called may_give first m new
  to_copy : (lead number fingerprint answer : ℕ) (facts : WindowFacts) (is_ready : Bool) (parts parts_new : List PartCounts)
      → Turn (ToCopy facts is_ready fingerprint) lead number answer m.pages new parts parts_new → Called may_give first m new
  copied : (lead number answer : ℕ) (facts : WindowFacts) (came : CopyOutcome) (parts parts_new : List PartCounts)
      → Turn (λ said x y p q. CameOfCopy facts said x y p q came) lead number answer m.pages new parts parts_new → CopyIsSo may_give m number came → Called may_give first m new
  loaned : (lead number frames answer : ℕ) (reply : LoanReply) (parts parts_new : List PartCounts)
      → Turn (λ said x y p q. CameOfLoan frames said x y p q reply) lead number answer m.pages new parts parts_new → LoanIsSo may_give m number reply → Called may_give first m new
  to_hold : (lead number answer : ℕ) (facts : WindowFacts) (is_split : Bool) (parts parts_new : List PartCounts)
      → Turn (ToHold facts is_split) lead number answer m.pages new parts parts_new → Called may_give first m new
  to_give_back : (lead number answer : ℕ) (facts : WindowFacts) (is_split has_room : Bool) (parts parts_new : List PartCounts)
      → Turn (ToGiveBack facts is_split has_room) lead number answer m.pages new parts parts_new → Called may_give first m new
  to_release : (lead place room count count_new : ℕ) (facts : WindowFacts) (pins places places_new : List ℕ) (parts parts_new : List PartCounts)
      → FindsAt facts pins lead place room count count_new m.pages new parts parts_new places places_new → Called may_give first m new
  released : (lead number answer : ℕ) (outcome : Outcome) (parts parts_new : List PartCounts) → Turn (λ said x y p q. Told outcome x y p q) lead number answer m.pages new parts parts_new
      → IsSoOf may_give m number outcome → Called may_give first m new
  begins_scan : (lead from n : ℕ) (scan : Scan) (table : TableFacts) (pins memory row row_new : List ℕ) (all : Bool) (parts parts_new : List PartCounts)
      → RowGoes (BeginsAt scan table pins from all memory) lead from n true m.pages new parts parts_new row row_new → Called may_give first m new
  scan_done : (lead from n : ℕ) (scan : Scan) (outcomes : List FindOutcome) (row row_new : List ℕ) (parts parts_new : List PartCounts)
      → RowGoes (GoesOnAt scan from outcomes) lead from n true m.pages new parts parts_new row row_new → CopiesAreSo first from m outcomes → Called may_give first m new
  follows : (lead from n : ℕ) (scan : Scan) (table : TableFacts) (pins memory before row row_new : List ℕ) (parts parts_new : List PartCounts)
      → RowGoes (FollowsAt scan table pins from memory before) lead from n true m.pages new parts parts_new row row_new → Called may_give first m new
  orders_home : (lead from n : ℕ) (table : TableFacts) (pins : List ℕ) (why : WindowFacts) (parts parts_new : List PartCounts)
      → Changes (λ j. IsCalled (facts_at table pins why (from + j))) lead from n true m.pages new parts parts_new → Called may_give first m new
  refused_home : (lead from n : ℕ) (parts parts_new : List PartCounts) → Changes (λ j. IsHome Refused) lead from n true m.pages new parts parts_new
      → HomesAreSo may_give m from n Refused → Called may_give first m new
  moved_home : (lead from n : ℕ) (parts parts_new : List PartCounts) → Changes (λ j. HasMoved) lead from n true m.pages new parts parts_new
      → HomesAreSo may_give m from n Done → Called may_give first m new
  copied_home : (lead from n : ℕ) (parts parts_new : List PartCounts) → Changes (λ j. IsCopied) lead from n true m.pages new parts parts_new
      → HomesAreSo may_give m from n Done → Called may_give first m new
  one_memory : (from n : ℕ) → OneMemory from n m.pages new → AreTruly (Uncovered true) first from n m → Called may_give first m new

-- Then the window is at a moment of its history, with these pages. What was stored and the mappings are as before, and each page reads what its guest
-- stored last.
pub record GoesOn (may_give : (ℕ → Bool) → ℕ → Bool) (first count : ℕ) (old : Moment) (pages : List WindowPage) : Type 0 where
  pub new : Moment
  pub history : History may_give first count new
  pub has : new.pages ≡ pages
  pub stored : new.stored ≡ old.stored
  pub world : new.world ≡ old.world
  pub reads : (i : ℕ) → i < count → Reads new.world (first + i) (new.stored (first + i))

abbrev pub EachCallGoesOn : Type 0
EachCallGoesOn =
    (may_give : (ℕ → Bool) → ℕ → Bool) (first count : ℕ) (m : Moment) (new : List WindowPage) → History may_give first count m → Called may_give first m new → GoesOn may_give first count m new
