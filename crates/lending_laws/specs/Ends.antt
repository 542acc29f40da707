-- The end of a lender, which C notes of pages of a window, one part after another.
use Rattle.std.specs.Prelude.{◌≡◌, ℕ, ◌+◌, ◌<◌, Bool, true, List}
use Rattle.page_lender.specs.declared.order.Order.{Order}
use Rattle.window_pages.specs.declared.counts.PartCounts.{PartCounts}
use Rattle.window_pages.specs.declared.page.WindowPage.{WindowPage}
use Rattle.window_tables.specs.Tables.{Notes}
use Rattle.window_tables.specs.declared.changes.Change.TheVariants.{Detached}
use Rattle.lending_laws.specs.Histories.{CarriedOut, History, Moment, Reads}
use Rattle.lending_laws.specs.Processes.{OthersStay, Process, ProcessHistory, Span, moment_of}

-- It is noted of so many pages that their lender is gone, where all that was carried out of their orders is told.
pub record Ends (from n : ℕ) (m : Moment) (new : List WindowPage) : Type 0 where
  pub lead : ℕ
  pub parts : List PartCounts
  pub parts_new : List PartCounts
  pub notes : Notes Detached lead from n true m.pages new parts parts_new
  pub told : (j : ℕ) (order : Order) → j < n → m.orders (from + j) ≡ CarriedOut order → ⊥

-- Then the window is at a moment of its history, with these pages. What was stored is as before, and each page reads what its guest stored last.
pub record EndsWell (may_give : (ℕ → Bool) → ℕ → Bool) (first count : ℕ) (old : Moment) (pages : List WindowPage) : Type 0 where
  pub new : Moment
  pub history : History may_give first count new
  pub has : new.pages ≡ pages
  pub stored : new.stored ≡ old.stored
  pub reads : (i : ℕ) → i < count → Reads new.world (first + i) (new.stored (first + i))

abbrev pub EachEndIsWell : Type 0
EachEndIsWell =
    (may_give : (ℕ → Bool) → ℕ → Bool) (first count from n : ℕ) (m : Moment) (new : List WindowPage) → History may_give first count m → Ends from n m new → EndsWell may_give first count m new

-- In a process with many windows it is at a moment of its history, where window k has these pages. Other windows and what was stored are as before, and
-- each page of each open window reads what its guest stored last.
pub record ProcessEndsWell (is_fair : Bool) (spans : ℕ → Span) (k : ℕ) (old : Process) (pages : List WindowPage) : Type 0 where
  pub new : Process
  pub history : ProcessHistory is_fair spans new
  pub has : new.pages k ≡ pages
  pub is_open : new.is_open k ≡ true
  pub others : OthersStay k old new
  pub stored : new.stored ≡ old.stored
  pub reads : (j i : ℕ) → new.is_open j ≡ true → i < (spans j).count → Reads new.world ((spans j).first + i) (new.stored ((spans j).first + i))

abbrev pub EachEndIsWellInAll : Type 0
EachEndIsWellInAll =
    (is_fair : Bool) (spans : ℕ → Span) (k from n : ℕ) (x : Process) (pages : List WindowPage) → ProcessHistory is_fair spans x → x.is_open k ≡ true → Ends from n (moment_of k x) pages →
    ProcessEndsWell is_fair spans k x pages
