-- What is done with pages of a window that are held in a row.
use Rattle.std.specs.Prelude.{ℕ, Bool, List}
use Rattle.page_holds.specs.Orders.{OrdersNext}
use Rattle.page_holds.specs.Rows.{RowBegins, RowCameOut}
use Rattle.page_holds.specs.declared.place.HoldStep.TheVariants.{Over}
use Rattle.page_holds.specs.declared.rows.run.RowOrder.{RowOrder}
use Rattle.window_pages.specs.declared.counts.PartCounts.{PartCounts}
use Rattle.window_pages.specs.declared.page.WindowPage.{WindowPage}
use Rattle.process_lender.specs.Windows.{Window, table_facts}
use Rattle.process_lender.specs.declared.facts.ProcessFacts.{ProcessFacts}

-- A row begins with a page.
abbrev pub BeginsRow : ℕ → List ℕ → Bool → List ℕ → List ℕ → Window → List WindowPage → List PartCounts → Type 0
BeginsRow first takings is row row_new w pages counts = RowBegins w.lead first takings is w.pages pages w.counts counts row row_new

-- Its next order is found.
abbrev pub FindsNext : ProcessFacts → ℕ → List ℕ → RowOrder → Window → List WindowPage → List PartCounts → Type 0
FindsNext facts first row order w pages counts = OrdersNext (table_facts facts w.state) w.pins w.lead first row order w.pages pages w.counts counts

-- It is taken what came of an order, which began with a page of the row.
abbrev pub CameOfOrder : ℕ → ℕ → ℕ → ℕ → Bool → List ℕ → List ℕ → Window → List WindowPage → List PartCounts → Type 0
CameOfOrder first begin done refused is row row_new w pages counts = RowCameOut w.lead first begin done refused is w.pages pages w.counts counts row row_new

-- nothing is done any more
abbrev pub nothing_next : RowOrder
nothing_next = record { step = Over; first = 0; count = 0 }
