-- Pages in a row that get memory of their own in place of frames.
use Rattle.std.specs.Prelude.{◌≡◌, ℕ, ◌+◌, ◌<◌, ◌≤◌, Bool, true, false, not, ◌&&◌, ◌||◌, List, length, Some, slice_get}
use Rattle.page_lender.specs.Calls.{IsDone, IsHeard, IsOrdered, order_due}
use Rattle.page_lender.specs.Decisions.{is_busy, shows}
use Rattle.page_lender.specs.declared.belief.Belief.{Belief}
use Rattle.page_lender.specs.declared.belief.Belief.TheVariants.{Private, Chosen, Copied, Turning, Shown, Leaving}
use Rattle.page_lender.specs.declared.belief.Homing.{Homing}
use Rattle.page_lender.specs.declared.belief.Homing.TheVariants.{Off, InPlace, Elsewhere}
use Rattle.page_lender.specs.declared.order.Notice.TheVariants.{Written}
use Rattle.page_lender.specs.declared.order.Outcome.{Outcome}
use Rattle.page_lender.specs.declared.order.Outcome.TheVariants.{Done, Refused}
use Rattle.window_pages.specs.Bytes.{belief_of, known_of}
use Rattle.window_pages.specs.Changed.{Becomes, Lends, lender_with, no_past}
use Rattle.window_pages.specs.Counted.{counts_then}
use Rattle.window_pages.specs.Known.{bars_of, lender_of, no_bars, shows_past, stays, takes}
use Rattle.window_pages.specs.declared.counts.PartCounts.{PartCounts}
use Rattle.window_pages.specs.declared.facts.WindowFacts.{WindowFacts}
use Rattle.window_pages.specs.declared.page.WindowPage.{WindowPage}
use Rattle.window_tables.specs.Changes.{Changed, RangeChanged}
use Rattle.window_tables.specs.Facts.{facts_at}
use Rattle.window_tables.specs.Tables.{Counted, can_note}
use Rattle.window_tables.specs.declared.changes.Change.TheVariants.{Uncovered}
use Rattle.window_tables.specs.declared.facts.TableFacts.{TableFacts}
use Rattle.window_tables.specs.declared.homes.steps.HomeStep.{HomeStep}
use Rattle.window_tables.specs.declared.homes.steps.HomeStep.TheVariants.{Order, Take, EndPast, Forget, ForgetOver, Hear}

-- ---- one page ----

-- a page that shows its frame is to get memory of its own
abbrev pub is_on : Homing → Bool
is_on Off = false
is_on InPlace = true
is_on Elsewhere = true

-- and this is believed of it
abbrev pub is_homing : Belief → Bool
is_homing Private = false
is_homing Chosen = false
is_homing Copied = false
is_homing (Turning stage target) = false
is_homing (Shown slot n homing) = is_on homing
is_homing (Leaving slot) = false

-- The page becomes this, whatever the counts of its part are, and they follow.
abbrev pub Whatever : (WindowPage → WindowPage → PartCounts → PartCounts → Type 0) → WindowPage → WindowPage → Type 0
Whatever Becomes old new = (part : PartCounts) → Becomes old new part (counts_then old new part)

-- A page that shows its frame gets its next order by these facts. Nothing becomes of another.
pub record IsCalled (facts : WindowFacts) (old new : WindowPage) : Type 0 where
  pub shown : shows (belief_of old) ≡ true → Whatever (Lends (IsOrdered (order_due (lender_of facts (known_of old)))) (bars_of facts (known_of old))) old new
  pub other : shows (belief_of old) ≡ false → new ≡ old

-- it is to get memory of its own, and an order of it is open that can have this outcome
abbrev pub hears : Outcome → WindowPage → Bool
hears outcome page = is_homing (belief_of page) && takes outcome (known_of page)

-- This came of its order to get memory of its own, if that is open. Nothing becomes of another page.
pub record IsHome (outcome : Outcome) (old new : WindowPage) : Type 0 where
  pub done : hears outcome old ≡ true → Whatever (Lends (IsDone outcome) no_bars) old new
  pub other : hears outcome old ≡ false → new ≡ old

abbrev pub outcome_of : Bool → Outcome
outcome_of true = Done
outcome_of false = Refused

-- What looks have found of a page over a frame counts no more. Nothing becomes of another.
pub record IsForgotten (old new : WindowPage) : Type 0 where
  pub over : (known_of old).over ≡ true → Whatever (Becomes (known_of old) true) old new
  pub other : (known_of old).over ≡ false → new ≡ old

-- The page's lender hears that it was written, unless an order is open that touches the page.
pub record HearsWritten (old new : WindowPage) : Type 0 where
  pub heard : is_busy (lender_with no_bars (known_of old)) ≡ false → Whatever (Lends (IsHeard Written) no_bars) old new
  pub other : is_busy (lender_with no_bars (known_of old)) ≡ true → new ≡ old

-- what becomes of a page by a step
abbrev pub Became : HomeStep → WindowFacts → WindowPage → WindowPage → Type 0
Became Order facts old new = IsCalled facts old new
Became (Take is_done) facts old new = IsHome (outcome_of is_done) old new
Became EndPast facts old new = Whatever (Becomes (no_past (known_of old)) (shows_past (known_of old))) old new
Became Forget facts old new = Whatever (Becomes (known_of old) true) old new
Became ForgetOver facts old new = IsForgotten old new
Became Hear facts old new = HearsWritten old new

-- One thing becomes of a page, and then another.
pub record Both (One Other : WindowPage → WindowPage → Type 0) (old new : WindowPage) : Type 0 where
  pub between : WindowPage
  pub first : One old between
  pub second : Other between new

-- Other memory was moved to its place. If it was to get it, that was done. What looks have found counts no more.
abbrev pub HasMoved : WindowPage → WindowPage → Type 0
HasMoved old new = Both (IsHome Done) (λ x y. Whatever (Becomes (known_of x) true) x y) old new

-- It got a copy of its own where it is. If it was to get that, that was done. It shows no frame of a lender that is gone.
abbrev pub IsCopied : WindowPage → WindowPage → Type 0
IsCopied old new = Both (IsHome Done) (λ x y. Whatever (Becomes (no_past (known_of x)) (shows_past (known_of x))) x y) old new

-- a page of the window comes home by a copy where it is: it showed a frame that it was to show no more, or one of a lender that is gone
abbrev pub comes_home : WindowPage → Bool
comes_home page = not (known_of page).out && (is_homing (belief_of page) || shows_past (known_of page))

-- Memory with what so many pages contained was moved to their places at once. What looks have found of those over frames counts no more before that,
-- and their lenders hear that they have memory of their own.
pub record OneMemory (first count : ℕ) (old new : List WindowPage) : Type 0 where
  pub between : List WindowPage
  pub hear : Changed (λ n. Both IsForgotten HearsWritten) first count old between
  pub moves : RangeChanged (Uncovered true) first count between new

-- ---- a range ----

-- The page at a place is what this makes of it.
pub record Stays (Becomes : WindowPage → WindowPage → Type 0) (place : ℕ) (pages : List WindowPage) : Type 0 where
  pub page : WindowPage
  pub there : slice_get pages place ≡ Some page
  pub becomes : Becomes page page

-- A step of each of so many pages from one place on. The counts of their parts follow.
pub record EachStep (step : HomeStep) (table : TableFacts) (pins : List ℕ) (why : WindowFacts) (lead first count : ℕ) (old new : List WindowPage) (parts parts_new : List PartCounts) : Type 0 where
  pub pages : Changed (λ n. Became step (facts_at table pins why (first + n))) first count old new
  pub counted : Counted lead old parts → Counted lead new parts_new

-- Each of so many pages from one place on becomes this, exactly if they are there and each page of the table has a part. Else nothing changes.
pub record Changes (Becomes : ℕ → WindowPage → WindowPage → Type 0) (lead first count : ℕ) (is_done : Bool) (old new : List WindowPage) (parts parts_new : List PartCounts) : Type 0 where
  pub done : is_done ≡ can_note lead first count old parts
  pub pages : is_done ≡ true → Changed Becomes first count old new
  pub counted : Counted lead old parts → Counted lead new parts_new
  pub same : is_done ≡ false → new ≡ old
  pub same_parts : is_done ≡ false → parts_new ≡ parts

-- ---- answers ----

-- So many answers are written, each by what was there before and by the page that lies so many pages behind the first one. The others stay.
pub record Answers (says : ℕ → Bool → WindowPage → Bool) (first count : ℕ) (pages : List WindowPage) (old new : List Bool) : Type 0 where
  pub length : length new ≡ length old
  pub inside : (n : ℕ) (was : Bool) (x : WindowPage) → n < count → slice_get old n ≡ Some was → slice_get pages (first + n) ≡ Some x → slice_get new n ≡ Some (says n was x)
  pub outside : (n : ℕ) → count ≤ n → slice_get new n ≡ slice_get old n

-- the page has to stay where it is, of which this was said: it has memory of its own
abbrev pub stays_at : TableFacts → List ℕ → WindowFacts → ℕ → ℕ → Bool → WindowPage → Bool
stays_at table pins why first n is_copy page = stays (facts_at table pins why (first + n)) is_copy (known_of page)
