-- The rule by which reports are shown, and what its steps say.
use Rattle.std.specs.Prelude.{◌≡◌, ℕ, true, false, List, []}
use mathlib.Core.Option.{some}
use lib.ListN.{get_elem?}
use Rattle.page_model.specs.Parts.{Totals}
use Rattle.watched_machine.specs.declared.shown.Shown.{Shown}
use Rattle.watched_machine.specs.declared.seat.Seat.{Seat}
use Rattle.watched_machine.specs.Reports.{StartsWith}

-- the list whose last report is shown
abbrev pub list_shown : Shown → List Totals
list_shown x = x.told.history.log

-- a seat knows whose log it is, if it is tied, and has seen a front of the list
pub record Follows (x : Shown) (s : Seat) : Type 0 where
  pub history : s.is_tied ≡ true → s.history.book ≡ x.told.history.book
  pub seen : StartsWith (list_shown x) s.history.log

-- all that was ever seen is a front of the list that is shown
pub record ShowsLast (x : Shown) (seats : List Seat) : Type 0 where
  pub each : (i : ℕ) (s : Seat) → get_elem? seats i ≡ some s → Follows x s

-- a new watch knows nothing
abbrev pub newcomer : Seat
newcomer = record {
  is_tied = false;
  history = record {
    marker = record {};
    book = record { number = 0; log_name = 0; cells_name = 0 };
    names = [];
    log = [];
  };
}

-- it learns whose log it is, and no list
abbrev pub tied_only : Seat → Seat
tied_only s = record s { history = record s.history { log = [] } }

-- what a seat knows once it has seen or shown this
abbrev pub Knows : Shown → Seat → Type 0
Knows x s = (s.is_tied ≡ true) × (s.history ≡ x.told.history)

-- a watch reads what is shown: it has then seen the whole list
pub record Looks (before : Seat) (x y : Shown) (after : Seat) : Type 0 where
  pub knows : Knows y after
  pub history : before.is_tied ≡ true → before.history.book ≡ y.told.history.book
  pub seen : StartsWith (list_shown y) before.history.log

-- the publisher shows something
abbrev pub Replaces : Seat → Shown → Shown → Seat → Type 0
Replaces before x y after = Knows y after
