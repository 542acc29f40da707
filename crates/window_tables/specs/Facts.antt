-- What is so of a page of a table.
use Rattle.std.specs.Prelude.{ℕ, Bool, false, ◌||◌, nat_lt, List, slice_index_or}
use Rattle.window_pages.specs.declared.facts.WindowFacts.{WindowFacts}
use Rattle.window_tables.specs.declared.facts.TableFacts.{TableFacts}

-- the page was pinned; where there is no table of pins none was
abbrev pub is_pinned : List ℕ → ℕ → Bool
is_pinned pins page = nat_lt 0 (slice_index_or pins page 0)

-- what is so of the page at a place, `why` besides
abbrev pub facts_at : TableFacts → List ℕ → WindowFacts → ℕ → WindowFacts
facts_at table pins why page = record {
  called = why.called;
  pinned = why.pinned || is_pinned pins page;
  may_pin = why.may_pin || table.may_pin || nat_lt 0 table.elsewhere;
  inherited = why.inherited || table.inherited;
  locked = why.locked || table.locked;
  leaves = why.leaves;
  ended = why.ended || table.ends || table.is_over;
}

-- nothing is so of a page, but perhaps that a call of the monitor changes it
abbrev pub only_called : Bool → WindowFacts
only_called called = record { called = called; pinned = false; may_pin = false; inherited = false; locked = false; leaves = false; ended = false }
