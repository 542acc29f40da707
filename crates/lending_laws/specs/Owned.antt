-- The calls of a value that owns all windows of a process: each is a call for the pages of one window, and leaves the others as they were.
use Rattle.std.specs.Prelude.{◌≡◌, ℕ, ◌+◌, ◌<◌, Bool, true, false, List, length, Some, slice_get, slice_index_or}
use Rattle.lend_steps.specs.Copies.{copied_by}
use Rattle.lend_steps.specs.Loans.{reply_of}
use Rattle.lend_steps.specs.Releases.{released_as}
use Rattle.page_holds.specs.Rows.{taking_at}
use Rattle.page_holds.specs.Steps.{asks_for}
use Rattle.page_holds.specs.declared.rows.run.RowOrder.{RowOrder}
use Rattle.page_lender.specs.declared.order.Outcome.TheVariants.{Done, Refused}
use Rattle.page_looks.specs.declared.finds.step.FindOutcome.{FindOutcome}
use Rattle.process_lender.specs.Lists.{Answered, CameOfCopies, CameOfLoans, CameOfRelease, Chooses, ChoosesCopies, FindsReleases, NoAnswer, NoneFound}
use Rattle.process_lender.specs.Notices.{TakesNote}
use Rattle.process_lender.specs.Offers.{end_of, state_set}
use Rattle.process_lender.specs.Pages.{NotesPage}
use Rattle.process_lender.specs.Parts.{SetsWhole, part_noted, with_pins}
use Rattle.process_lender.specs.Rows.{BeginsRow, CameOfOrder, FindsNext, nothing_next}
use Rattle.process_lender.specs.Scans.{BeginsScan, CameOfSteps, FollowsChanges}
use Rattle.process_lender.specs.Windows.{InPages, InWindow, Lender, Window, window_at, window_changed}
use Rattle.process_lender.specs.declared.choice.Choice.{Choice}
use Rattle.process_lender.specs.declared.facts.ProcessFacts.{ProcessFacts}
use Rattle.process_lender.specs.declared.facts.WindowState.{WindowState}
use Rattle.process_lender.specs.declared.look.WindowScan.{WindowScan}
use Rattle.process_lender.specs.declared.notice.Notice.{Notice}
use Rattle.process_lender.specs.declared.page_notice.PageNotice.{PageNotice}
use Rattle.process_lender.specs.declared.part_notice.PartNotice.{PartNotice}
use Rattle.window_pages.specs.Bytes.{belief_of}
use Rattle.window_tables.specs.Tables.{Counted}
use Rattle.lending_laws.specs.Histories.{Moment, Reads}
use Rattle.lending_laws.specs.Lender.{AreSo, CopiesAreSo, CopyIsSo, HomesAreSo, IsSoOf, LoanIsSo, row_outcome}
use Rattle.lending_laws.specs.Notes.{ShowsNone}
use Rattle.lending_laws.specs.ProcessCalls.{GivesFor}
use Rattle.lending_laws.specs.Processes.{OthersStay, Process, ProcessHistory, Span, moment_of}

-- The process has the pages of each window as the lender has them. The window at a place has a number of its own there, and is open.
pub record Knows (number : ℕ → ℕ) (lender : Lender) (x : Process) : Type 0 where
  pub pages : (place : ℕ) (w : Window) → window_at place lender.windows ≡ Some w → x.pages (number place) ≡ w.pages
  pub is_open : (place : ℕ) (w : Window) → window_at place lender.windows ≡ Some w → x.is_open (number place) ≡ true
  pub apart : (i j : ℕ) (v w : Window) → window_at i lender.windows ≡ Some v → window_at j lender.windows ≡ Some w → number i ≡ number j → i ≡ j

-- so many pages from one on show no frame themselves
abbrev pub ShowNone : ℕ → ℕ → ℕ → Moment → Type 0
ShowNone first from count m = (n : ℕ) → n < count → ShowsNone (first + (from + n)) m.world

-- What is noted of so many pages is so. Memory is put at their places, or their content is given up, only where they show no frame. What is said of
-- their orders to get memory of their own came of these. That a lender is gone is none of these calls.
abbrev pub NoticeIsSo : ((ℕ → Bool) → ℕ → Bool) → ℕ → Moment → ℕ → ℕ → Notice → Type 0
NoticeIsSo gives first m from n (Notice.Covered frame) = Unit {0}
NoticeIsSo gives first m from n Notice.Uncovered = ShowNone first from n m
NoticeIsSo gives first m from n Notice.MovedThere = ShowNone first from n m
NoticeIsSo gives first m from n (Notice.ZerosMapped is_said) = ShowNone first from n m
NoticeIsSo gives first m from n Notice.Unmapped = ShowNone first from n m
NoticeIsSo gives first m from n Notice.Detached = ⊥
NoticeIsSo gives first m from n Notice.OneMemory = ShowNone first from n m
NoticeIsSo gives first m from n Notice.GivenUp = ShowNone first from n m
NoticeIsSo gives first m from n Notice.Left = Unit {0}
NoticeIsSo gives first m from n Notice.MovedHome = HomesAreSo gives m from n Done
NoticeIsSo gives first m from n Notice.CopiedHome = HomesAreSo gives m from n Done
NoticeIsSo gives first m from n Notice.RefusedHome = HomesAreSo gives m from n Refused
NoticeIsSo gives first m from n (Notice.CalledHome why) = Unit {0}

-- the page of this number isn't among the first n of a list
abbrev pub IsLater : ℕ → ℕ → List ℕ → Type 0
IsLater i n numbers = (j : ℕ) → j < n → slice_index_or numbers j 0 ≡ i → ⊥

-- The window once the first n pages of a list had their turn: all other pages and their orders are as they were, and so are what was stored and the
-- mappings.
pub record Between (m : Moment) (numbers : List ℕ) (n : ℕ) (now : Moment) : Type 0 where
  pub pages : (i : ℕ) → IsLater i n numbers → slice_get now.pages i ≡ slice_get m.pages i
  pub orders : (i : ℕ) → IsLater i n numbers → now.orders i ≡ m.orders i
  pub stored : now.stored ≡ m.stored
  pub world : now.world ≡ m.world

-- What is said of each page of a list is so when it has its turn.
abbrev pub EachIsSo : (ℕ → Moment → Type 0) → Moment → List ℕ → Type 0
EachIsSo IsSo m numbers = (n : ℕ) (now : Moment) → n < length numbers → Between m numbers n now → IsSo n now

-- A call for the window at a place, by its contract, whatever it returns. If it did something, what it says is so. A window that couldn't be offered, or
-- not be taken out, changes nothing.
pub data OwnedCall (gives : (ℕ → Bool) → ℕ → Bool) (first : ℕ) (m : Moment) (place : ℕ) (old new : Lender) : Type 0 where
  notes : (notice : Notice) (from n : ℕ) (is : Bool) → InWindow (TakesNote notice old.facts from n is) (is ≡ false) place old new
      → (is ≡ true → NoticeIsSo gives first m from n notice) → OwnedCall gives first m place old new
  begins_row : (from : ℕ) (takings row row_new : List ℕ) (is : Bool) → InPages (BeginsRow from takings is row row_new) (NoAnswer is row row_new) place old new
      → (is ≡ true → AreSo gives m from 0 (length row) (λ n x. asks_for (belief_of x) (taking_at takings n))) → OwnedCall gives first m place old new
  finds_next : (from : ℕ) (row : List ℕ) (order : RowOrder) → InPages (FindsNext old.facts from row order) (order ≡ nothing_next) place old new
      → OwnedCall gives first m place old new
  row_done : (from begin done refused : ℕ) (row row_new : List ℕ) (is : Bool) → InPages (CameOfOrder from begin done refused is row row_new) (NoAnswer is row row_new) place old new
      → (is ≡ true → AreSo gives m from begin (done + refused) (row_outcome row begin done)) → OwnedCall gives first m place old new
  begins_scan : (scan : WindowScan) (from : ℕ) (memory row row_new : List ℕ) (is : Bool) → InPages (BeginsScan old.facts scan from memory is row row_new) (NoAnswer is row row_new) place old new
      → OwnedCall gives first m place old new
  scan_done : (scan : WindowScan) (from : ℕ) (outcomes : List FindOutcome) (row row_new : List ℕ) (is : Bool) → InPages (CameOfSteps scan from outcomes is row row_new) (NoAnswer is row row_new) place old new
      → (is ≡ true → CopiesAreSo first from m outcomes) → OwnedCall gives first m place old new
  follows : (scan : WindowScan) (from : ℕ) (memory row row_new : List ℕ) (is : Bool) → InPages (FollowsChanges old.facts scan from memory is row row_new) (NoAnswer is row row_new) place old new
      → OwnedCall gives first m place old new
  chooses : (what : Choice) (numbers answers answers_new : List ℕ) (is : Bool) → InPages (Chooses what old.facts old.mappings numbers is answers answers_new) (NoAnswer is answers answers_new) place old new
      → OwnedCall gives first m place old new
  answered : (numbers fingerprints seen answers answers_new : List ℕ) (is : Bool) → InPages (Answered old.facts old.mappings numbers fingerprints seen is answers answers_new) (NoAnswer is answers answers_new) place old new
      → OwnedCall gives first m place old new
  to_copy : (numbers there fingerprints answers answers_new : List ℕ) (is : Bool) → InPages (ChoosesCopies old.facts numbers there fingerprints is answers answers_new) (NoAnswer is answers answers_new) place old new
      → OwnedCall gives first m place old new
  copied : (numbers outcomes answers answers_new : List ℕ) (is : Bool) → InPages (CameOfCopies old.facts numbers outcomes is answers answers_new) (NoAnswer is answers answers_new) place old new
      → (is ≡ true → EachIsSo (λ n now. CopyIsSo gives now (slice_index_or numbers n 0) (copied_by (slice_index_or outcomes n 0))) m numbers) → OwnedCall gives first m place old new
  loaned : (numbers slots given answers answers_new : List ℕ) (frames : ℕ) (is_heard is : Bool) → InPages (CameOfLoans numbers slots given frames is_heard is answers answers_new) (NoAnswer is answers answers_new) place old new
      → (is ≡ true → EachIsSo (λ n now. LoanIsSo gives now (slice_index_or numbers n 0) (reply_of is_heard (slice_index_or slots n 0) (slice_index_or given n 0))) m numbers) → OwnedCall gives first m place old new
  to_release : (from n count : ℕ) (places places_new : List ℕ) → InPages (FindsReleases old.facts from n count places places_new) (NoneFound count places places_new) place old new
      → OwnedCall gives first m place old new
  released : (numbers : List ℕ) (is_heard is : Bool) → InPages (CameOfRelease numbers is_heard is) (is ≡ false) place old new
      → (is ≡ true → EachIsSo (λ n now. IsSoOf gives now (slice_index_or numbers n 0) (released_as is_heard)) m numbers) → OwnedCall gives first m place old new
  notes_page : (page : ℕ) (notice : PageNotice) (is : Bool) → InPages (NotesPage notice page is) (is ≡ false) place old new → OwnedCall gives first m place old new
  ends : new ≡ end_of place (window_at place old.windows) old → OwnedCall gives first m place old new
  sets_facts : (facts : ProcessFacts) → new ≡ record old { facts = facts } → OwnedCall gives first m place old new
  sets_state : (state : WindowState) → new ≡ state_set place state (window_at place old.windows) old → OwnedCall gives first m place old new
  notes_part : (from : ℕ) (notice : PartNotice) → new ≡ window_changed (part_noted from notice) place (window_at place old.windows) old → OwnedCall gives first m place old new
  sets_whole : (from : ℕ) (is_whole is : Bool) → InWindow (SetsWhole from is_whole is) (is ≡ false) place old new → OwnedCall gives first m place old new
  sets_pins : (from n : ℕ) (is_pinned : Bool) → new ≡ window_changed (with_pins is_pinned from n) place (window_at place old.windows) old → OwnedCall gives first m place old new
  is_refused : new ≡ old → OwnedCall gives first m place old new

-- Then the process is at a moment of its history, and has the pages of each window as the lender has them. All windows of the lender but one are as they
-- were. Each page of each open window reads what its guest stored last.
pub record OwnedGoesOn (is_fair : Bool) (spans : ℕ → Span) (number : ℕ → ℕ) (place : ℕ) (x : Process) (old new : Lender) : Type 0 where
  pub now : Process
  pub history : ProcessHistory is_fair spans now
  pub knows : Knows number new now
  pub beside : (j : ℕ) → (j ≡ place → ⊥) → window_at j new.windows ≡ window_at j old.windows
  pub others : OthersStay (number place) x now
  pub stored : now.stored ≡ x.stored
  pub world : now.world ≡ x.world
  pub reads : (j i : ℕ) → now.is_open j ≡ true → i < (spans j).count → Reads now.world ((spans j).first + i) (now.stored ((spans j).first + i))

abbrev pub EachOwnedCallGoesOn : Type 0
EachOwnedCallGoesOn =
    (is_fair : Bool) (spans : ℕ → Span) (number : ℕ → ℕ) (place : ℕ) (x : Process) (gives : (ℕ → Bool) → ℕ → Bool) (old new : Lender) → ProcessHistory is_fair spans x → Knows number old x →
    GivesFor is_fair (number place) x gives → OwnedCall gives (spans (number place)).first (moment_of (number place) x) place old new → OwnedGoesOn is_fair spans number place x old new

-- The counts of the parts of each window are right of its pages.
abbrev pub AreCounted : Lender → Type 0
AreCounted lender = (place : ℕ) (w : Window) → window_at place lender.windows ≡ Some w → Counted w.lead w.pages w.counts

-- they stay so, whatever a call says
abbrev pub EachOwnedCallCounts : Type 0
EachOwnedCallCounts = (gives : (ℕ → Bool) → ℕ → Bool) (first : ℕ) (m : Moment) (place : ℕ) (old new : Lender) → AreCounted old → OwnedCall gives first m place old new → AreCounted new
