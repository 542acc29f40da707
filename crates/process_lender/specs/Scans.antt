-- Scans of a window's parts.
use Rattle.std.specs.Prelude.{ℕ, Bool, List, length, slice_index_or}
use Rattle.page_looks.specs.declared.finds.step.FindOutcome.{FindOutcome}
use Rattle.part_scans.specs.Scans.{BeginsAt, FollowsAt, GoesOnAt, RowGoes, has_past}
use Rattle.part_scans.specs.declared.scan.Scan.{Scan}
use Rattle.window_pages.specs.declared.counts.PartCounts.{PartCounts}
use Rattle.window_pages.specs.declared.page.WindowPage.{WindowPage}
use Rattle.window_tables.specs.Tables.{part_at}
use Rattle.process_lender.specs.Windows.{Window, table_facts}
use Rattle.process_lender.specs.Offers.{new_part}
use Rattle.process_lender.specs.declared.facts.ProcessFacts.{ProcessFacts}
use Rattle.process_lender.specs.declared.look.WindowScan.{WindowScan}

-- a scan of the part of a page
abbrev pub scan_of : WindowScan → ℕ → Window → Scan
scan_of scan first w = record {
  config = scan.config;
  part = slice_index_or w.parts (part_at w.lead first) new_part;
  look = scan.look;
  zeros = scan.zeros;
  is_return = scan.is_return;
  ready = scan.ready;
}

-- A scan begins with a page, of which and of those behind it this memory is there.
abbrev pub BeginsScan : ProcessFacts → WindowScan → ℕ → List ℕ → Bool → List ℕ → List ℕ → Window → List WindowPage → List PartCounts → Type 0
BeginsScan facts scan first memory is row row_new w pages counts =
    RowGoes (BeginsAt (scan_of scan first w) (table_facts facts w.state) w.pins first (has_past (part_at w.lead first) w.counts) memory) w.lead first (length memory) is w.pages pages w.counts counts row row_new

-- It follows changes.
abbrev pub FollowsChanges : ProcessFacts → WindowScan → ℕ → List ℕ → Bool → List ℕ → List ℕ → Window → List WindowPage → List PartCounts → Type 0
FollowsChanges facts scan first memory is row row_new w pages counts =
    RowGoes (FollowsAt (scan_of scan first w) (table_facts facts w.state) w.pins first memory row) w.lead first (length memory) is w.pages pages w.counts counts row row_new

-- It is taken what came of its steps.
abbrev pub CameOfSteps : WindowScan → ℕ → List FindOutcome → Bool → List ℕ → List ℕ → Window → List WindowPage → List PartCounts → Type 0
CameOfSteps scan first outcomes is row row_new w pages counts =
    RowGoes (GoesOnAt (scan_of scan first w) first outcomes) w.lead first (length outcomes) is w.pages pages w.counts counts row row_new
