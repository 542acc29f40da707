-- What a merger keeps between its calls.
use Rattle.std.specs.Prelude.{◌≡◌, ℕ, ◌<◌, List, length, map, slice_index_or}
use Rattle.page_model.specs.Pages.{State}
use Rattle.page_model.specs.Journal.{asked, answers}
use Rattle.page_model.specs.declared.request.Entry.{Entry}
use Rattle.page_model.specs.declared.request.Request.{Request}
use Rattle.page_model.specs.declared.verdict.Verdict.{Verdict}
use Rattle.share_rings.specs.declared.merger_end.MergerEnd.{MergerEnd}
use Rattle.share_rings.specs.declared.closed_port.ClosedPort.{ClosedPort}
use Rattle.share_rings.specs.declared.port.Port.{Port}
use Rattle.share_rings.specs.Ends.{PairName, port_name, port_capacity, end_taken, end_given, end_name, end_view, closed_name, closed_view}

module _ {A : Type 0} where
  -- the requests taken at each end are its guest's requests in the journal, and the verdicts given are those of the journal's
  -- replay on this machine at that guest's places
  abbrev pub Keeps : (ℕ → List ℕ → ℕ) → State → List (MergerEnd A) → List Entry → Type 0
  Keeps hash machine ends journal =
      (i : ℕ) (d : MergerEnd A) → i < length ends →
      (end_taken (slice_index_or ends i d) ≡ asked i journal) × (end_given (slice_index_or ends i d) ≡ answers hash machine i journal)

  -- which rings the merger's ends belong to
  abbrev pub end_names : List (MergerEnd A) → List (PairName A)
  end_names ends = map end_name ends

  -- which rings the guests' ports belong to
  abbrev pub port_names : List (Port A) → List (PairName A)
  port_names ports = map port_name ports

  -- the capacities of the rings of the guests' ports
  abbrev pub port_capacities : List (Port A) → List ℕ
  port_capacities ports = map port_capacity ports

  -- which rings the guests' closed ports belong to
  abbrev pub closed_names : List (ClosedPort A) → List (PairName A)
  closed_names ports = map closed_name ports

  -- all that the merger's ends show
  abbrev pub end_views : List (MergerEnd A) → List (PairName A × (List Request × List Verdict) × ℕ)
  end_views ends = map end_view ends

  -- all that the guests' closed ports show
  abbrev pub closed_views : List (ClosedPort A) → List (PairName A × (List Request × List Verdict) × ℕ)
  closed_views ports = map closed_view ports
