-- Pages of a list, one after another.
use Rattle.std.specs.Prelude.{◌≡◌, ℕ, ◌+◌, ◌<◌, ◌≤◌, Bool, true, false, List, length, slice_index_or, slice_set}
use Rattle.page_holds.specs.Rows.{PageChanges}
use Rattle.page_lender.specs.Calls.{IsDone}
use Rattle.page_lender.specs.declared.order.Outcome.{Outcome}
use Rattle.window_pages.specs.Bytes.{known_of}
use Rattle.window_pages.specs.Changed.{Lends}
use Rattle.window_pages.specs.Counted.{counts_then}
use Rattle.window_pages.specs.Known.{no_bars, takes}
use Rattle.window_pages.specs.declared.counts.PartCounts.{PartCounts}
use Rattle.window_pages.specs.declared.page.WindowPage.{WindowPage}
use Rattle.window_tables.specs.Tables.{Counted}

-- What a call does with a page: the answer to it, the page before and after, and the counts of its part before and after.
abbrev pub Deed : Type 1
Deed = ℕ → WindowPage → WindowPage → PartCounts → PartCounts → Type 0

-- This is done with the page of a number. If there is none, the answer is 0, and nothing changes.
pub data Turn (Does : Deed) (lead number answer : ℕ) (old new : List WindowPage) (parts parts_new : List PartCounts) : Type 0 where
  is_there : PageChanges (Does answer) lead number old new parts parts_new → Turn Does lead number answer old new parts parts_new
  is_not_there : length old ≤ number → answer ≡ 0 → new ≡ old → parts_new ≡ parts → Turn Does lead number answer old new parts parts_new

-- This is done with the first `n` pages of a list, one after another, and each answer is at the page's place in the list. What is done may depend on
-- that place.
pub data InTurn (Does : ℕ → Deed) (lead : ℕ) (numbers : List ℕ) (old : List WindowPage) (parts : List PartCounts) (answers : List ℕ) : ℕ → List WindowPage → List PartCounts → List ℕ → Type 0 where
  begins : InTurn Does lead numbers old parts answers 0 old parts answers
  goes_on : (n answer : ℕ) (now new : List WindowPage) (counts counts_new : List PartCounts) (said said_new : List ℕ)
      → InTurn Does lead numbers old parts answers n now counts said → n < length numbers
      → Turn (Does n) lead (slice_index_or numbers n 0) answer now new counts counts_new → said_new ≡ slice_set said n answer
      → InTurn Does lead numbers old parts answers (n + 1) new counts_new said_new

-- The same, where room is taken up by each answer: what is done may depend on how much is taken, and on the table then.
pub data InTurnWith (Does : ℕ → ℕ → List WindowPage → Deed) (Takes : ℕ → ℕ → List WindowPage → ℕ) (lead : ℕ) (numbers : List ℕ) (old : List WindowPage) (parts : List PartCounts) (answers : List ℕ) (taken : ℕ) : ℕ → ℕ → List WindowPage → List PartCounts → List ℕ → Type 0 where
  begins_with : InTurnWith Does Takes lead numbers old parts answers taken 0 taken old parts answers
  goes_on_with : (n answer has has_new : ℕ) (now new : List WindowPage) (counts counts_new : List PartCounts) (said said_new : List ℕ)
      → InTurnWith Does Takes lead numbers old parts answers taken n has now counts said → n < length numbers
      → Turn (Does n has now) lead (slice_index_or numbers n 0) answer now new counts counts_new → said_new ≡ slice_set said n answer
      → has_new ≡ has + Takes n answer now → InTurnWith Does Takes lead numbers old parts answers taken (n + 1) has_new new counts_new said_new

-- This is done with all pages of a list, exactly if `can`. Else nothing changes. The counts of the parts stay right.
pub record Each (Does : ℕ → Deed) (lead : ℕ) (numbers : List ℕ) (can is_done : Bool) (old new : List WindowPage) (parts parts_new : List PartCounts) (answers answers_new : List ℕ) : Type 0 where
  pub done : is_done ≡ can
  pub pages : is_done ≡ true → InTurn Does lead numbers old parts answers (length numbers) new parts_new answers_new
  pub counted : Counted lead old parts → Counted lead new parts_new
  pub same : is_done ≡ false → new ≡ old
  pub same_parts : is_done ≡ false → parts_new ≡ parts
  pub same_answers : is_done ≡ false → answers_new ≡ answers

-- The same of all pages of a list, whatever room is taken up then.
pub record AllInTurnWith (Does : ℕ → ℕ → List WindowPage → Deed) (Takes : ℕ → ℕ → List WindowPage → ℕ) (lead : ℕ) (numbers : List ℕ) (taken : ℕ) (old new : List WindowPage) (parts parts_new : List PartCounts) (answers answers_new : List ℕ) : Type 0 where
  pub has : ℕ
  pub turns : InTurnWith Does Takes lead numbers old parts answers taken (length numbers) has new parts_new answers_new

-- The same, exactly if `can`. Else nothing changes. The counts of the parts stay right.
pub record EachWith (Does : ℕ → ℕ → List WindowPage → Deed) (Takes : ℕ → ℕ → List WindowPage → ℕ) (lead : ℕ) (numbers : List ℕ) (taken : ℕ) (can is_done : Bool) (old new : List WindowPage) (parts parts_new : List PartCounts) (answers answers_new : List ℕ) : Type 0 where
  pub done : is_done ≡ can
  pub pages : is_done ≡ true → AllInTurnWith Does Takes lead numbers taken old new parts parts_new answers answers_new
  pub counted : Counted lead old parts → Counted lead new parts_new
  pub same : is_done ≡ false → new ≡ old
  pub same_parts : is_done ≡ false → parts_new ≡ parts
  pub same_answers : is_done ≡ false → answers_new ≡ answers

-- A page becomes another one by calls, after each of which the counts of its part follow.
pub data Followed (old : WindowPage) (part : PartCounts) : WindowPage → PartCounts → Type 0 where
  stays : (new : WindowPage) (part_new : PartCounts) → new ≡ old → part_new ≡ part → Followed old part new part_new
  follows : (between new : WindowPage) (part_between part_new : PartCounts) → Followed old part between part_between
      → part_new ≡ counts_then between new part_between → Followed old part new part_new

-- The outcome is taken exactly if an order of the page is open that can have it. Else nothing changes.
pub record Told (outcome : Outcome) (old new : WindowPage) (part part_new : PartCounts) : Type 0 where
  pub done : takes outcome (known_of old) ≡ true → Lends (IsDone outcome) no_bars old new part part_new
  pub page : takes outcome (known_of old) ≡ false → new ≡ old
  pub counts : takes outcome (known_of old) ≡ false → part_new ≡ part
