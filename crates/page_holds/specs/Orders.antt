-- Which step comes next at a row, and with which of its pages.
use Rattle.std.specs.Prelude.{◌≡◌, ℕ, ◌+◌, ◌-◌, ◌<◌, ◌≤◌, Bool, true, false, ◌&&◌, nat_eq, List, length, slice_get, slice_index_or}
use Rattle.std.specs.Option.{option_map_or}
use Rattle.page_holds.specs.declared.place.HoldStep.{HoldStep}
use Rattle.page_holds.specs.declared.place.HoldStep.TheVariants.{Over, Compare, CompareZeros, Map, GiveBack, PutBack, EndWatch}
use Rattle.window_pages.specs.Bytes.{belief_of}
use Rattle.window_pages.specs.Runs.{goes_on}
use Rattle.window_pages.specs.declared.counts.PartCounts.{PartCounts}
use Rattle.window_pages.specs.declared.facts.WindowFacts.{WindowFacts}
use Rattle.window_pages.specs.declared.page.WindowPage.{WindowPage}
use Rattle.window_tables.specs.Changes.{Changed}
use Rattle.window_tables.specs.Facts.{facts_at, only_called}
use Rattle.window_tables.specs.Tables.{Counted, can_note}
use Rattle.window_tables.specs.declared.facts.TableFacts.{TableFacts}
use Rattle.page_holds.specs.Bytes.{step_by}
use Rattle.page_holds.specs.Rows.{Asks, PageBecomes}
use Rattle.page_holds.specs.declared.rows.run.RowOrder.{RowOrder}

-- Steps come in this order: all are compared before anything is mapped, all is mapped before anything is put back, and watches end last.
abbrev pub rank : HoldStep → ℕ
rank Compare = 0
rank CompareZeros = 1
rank Map = 2
rank GiveBack = 3
rank PutBack = 4
rank EndWatch = 5
rank Over = 6

-- the step of the page at a place of the row, whose first page is the table's page `first`
abbrev pub step_at : ℕ → List WindowPage → List ℕ → ℕ → HoldStep
step_at first pages row n = option_map_or (λ page. step_by (belief_of page) (slice_index_or row n 0)) (slice_get pages (first + n)) Over

-- one call of the system can do the step with both: where frames are mapped, they are in a row
abbrev pub is_joined : HoldStep → WindowPage → WindowPage → Bool
is_joined Over x y = true
is_joined Compare x y = true
is_joined CompareZeros x y = true
is_joined Map x y = goes_on x y
is_joined GiveBack x y = true
is_joined PutBack x y = true
is_joined EndWatch x y = true

-- the same is so of the pages at a place of a table and behind it
abbrev pub are_joined : HoldStep → List WindowPage → ℕ → Bool
are_joined step pages place = option_map_or (λ x. option_map_or (is_joined step x) (slice_get pages (place + 1)) false) (slice_get pages place) false

-- the run of a step goes on behind a place of the row
abbrev pub runs_on : HoldStep → ℕ → List WindowPage → List ℕ → ℕ → Bool
runs_on step first pages row n = nat_eq (rank (step_at first pages row (n + 1))) (rank step) && are_joined step pages (first + n)

-- The order has the first of the steps that are the next ones of the row's first `count` pages, and the first page that has it.
pub record IsLeast (first : ℕ) (pages : List WindowPage) (row : List ℕ) (count : ℕ) (order : RowOrder) : Type 0 where
  pub least : (n : ℕ) → n < count → rank order.step ≤ rank (step_at first pages row n)
  pub before : (n : ℕ) → n < order.first → rank order.step < rank (step_at first pages row n)
  pub place : rank order.step < 6 → order.first < count
  pub step : rank order.step < 6 → step_at first pages row order.first ≡ order.step
  pub over : 6 ≤ rank order.step → order ≡ record { step = Over; first = 0; count = 0 }

-- Pages of a row, from its place `begin` on, have this step as their next one, and one call can do it with them. No more pages behind them can be added.
pub record IsRun (step : HoldStep) (first begin count : ℕ) (pages : List WindowPage) (row : List ℕ) : Type 0 where
  pub some : 0 < count
  pub within : begin + count ≤ length row
  pub each : (n : ℕ) → n < count → step_at first pages row (begin + n) ≡ step
  pub joined : (n : ℕ) → n + 1 < count → runs_on step first pages row (begin + n) ≡ true
  pub longest : begin + count < length row → runs_on step first pages row (begin + count - 1) ≡ false

-- The order says the first of the steps that are the next ones of the row's pages, and the first run of it. It is over once no page has a step left.
pub record IsNext (first : ℕ) (pages : List WindowPage) (row : List ℕ) (order : RowOrder) : Type 0 where
  pub least : IsLeast first pages row (length row) order
  pub run : rank order.step < 6 → IsRun order.step first order.first order.count pages row

-- what is so of the page at a place
abbrev pub facts_there : TableFacts → List ℕ → ℕ → WindowFacts
facts_there table pins place = facts_at table pins (only_called false) place

-- Each page of the row that isn't stuck, and to which writes may wait, gets its order by its facts, and this is the row's next order then. It is that,
-- exactly if the row's pages are there and each page of the table has a part. Else nothing changes, and it is over.
pub record OrdersNext (table : TableFacts) (pins : List ℕ) (lead first : ℕ) (row : List ℕ) (order : RowOrder) (old new : List WindowPage) (parts parts_new : List PartCounts) : Type 0 where
  pub asked : can_note lead first (length row) old parts ≡ true → Changed (λ n. PageBecomes (Asks (facts_there table pins (first + n)) (slice_index_or row n 0))) first (length row) old new
  pub next : can_note lead first (length row) old parts ≡ true → IsNext first new row order
  pub counted : Counted lead old parts → Counted lead new parts_new
  pub over : can_note lead first (length row) old parts ≡ false → order ≡ record { step = Over; first = 0; count = 0 }
  pub same : can_note lead first (length row) old parts ≡ false → new ≡ old
  pub same_parts : can_note lead first (length row) old parts ≡ false → parts_new ≡ parts
