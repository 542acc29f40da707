-- The calls that C makes for the pages of one window of a process that has many.
use Rattle.std.specs.Prelude.{◌≡◌, ℕ, ◌+◌, ◌<◌, Bool, true, false, List}
use Rattle.window_pages.specs.declared.page.WindowPage.{WindowPage}
use Rattle.lending_laws.specs.Histories.{Reads}
use Rattle.lending_laws.specs.Lender.{Called}
use Rattle.lending_laws.specs.Processes.{OthersStay, Process, ProcessHistory, Span, may_give, moment_of}

-- By these answers a host gives window k only slots that it may give, and a fair one none that another window has.
pub record GivesFor (is_fair : Bool) (k : ℕ) (x : Process) (gives : (ℕ → Bool) → ℕ → Bool) : Type 0 where
  pub may : (slots : ℕ → Bool) (slot : ℕ) → gives slots slot ≡ true → may_give is_fair slots slot ≡ true
  pub apart : (slots : ℕ → Bool) (slot j : ℕ) → is_fair ≡ true → gives slots slot ≡ true → (j ≡ k → ⊥) → x.slots j slot ≡ false

-- Then the process is at a moment of its history, where window k has these pages. Other windows, what was stored and the mappings are as before, and
-- each page of each open window reads what its guest stored last.
pub record ProcessGoesOn (is_fair : Bool) (spans : ℕ → Span) (k : ℕ) (old : Process) (pages : List WindowPage) : Type 0 where
  pub new : Process
  pub history : ProcessHistory is_fair spans new
  pub has : new.pages k ≡ pages
  pub is_open : new.is_open k ≡ true
  pub others : OthersStay k old new
  pub stored : new.stored ≡ old.stored
  pub world : new.world ≡ old.world
  pub reads : (j i : ℕ) → new.is_open j ≡ true → i < (spans j).count → Reads new.world ((spans j).first + i) (new.stored ((spans j).first + i))

abbrev pub EachCallGoesOnInAll : Type 0
EachCallGoesOnInAll =
    (is_fair : Bool) (spans : ℕ → Span) (k : ℕ) (x : Process) (gives : (ℕ → Bool) → ℕ → Bool) (pages : List WindowPage) → ProcessHistory is_fair spans x → x.is_open k ≡ true →
    GivesFor is_fair k x gives → Called gives (spans k).first (moment_of k x) pages → ProcessGoesOn is_fair spans k x pages
