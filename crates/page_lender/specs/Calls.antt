-- What calls of a page's lender do, each in one record.
use Rattle.std.specs.Prelude.{◌≡◌, Bool, true, false, not, ◌||◌, ◌&&◌, if◌then◌else◌}
use Rattle.page_lender.specs.Decisions.{due, prepared, touches, leads, moves, is_given, is_barred, is_private, may_go_on, account, account_then}
use Rattle.page_lender.specs.Events.{DoneByEvents, StaysRight, HeardRightly}
use Rattle.page_lender.specs.Lender.{done_of, heard_of}
use Rattle.page_lender.specs.Slots.{NamesOwn}
use Rattle.page_lender.specs.declared.belief.Belief.{Belief}
use Rattle.page_lender.specs.declared.order.Notice.{Notice}
use Rattle.page_lender.specs.declared.order.Order.{Order}
use Rattle.page_lender.specs.declared.order.Order.TheVariants.{Wait}
use Rattle.page_lender.specs.declared.order.Outcome.{Outcome}
use Rattle.page_lender.specs.declared.page.PageLender.{PageLender}

-- what comes next at a page
abbrev pub order_due : PageLender → Order
order_due page = if page.ordered then Wait else due (prepared page.bars page.belief)

-- The order that comes next is given (`next`).
pub record IsOrdered (order : Order) (x y : PageLender) : Type 0 where
  pub is_due : order ≡ order_due x
  pub belief : y.belief ≡ (if x.ordered then x.belief else prepared x.bars x.belief)
  pub ordered : y.ordered ≡ (x.ordered || is_given order)
  pub bars : y.bars ≡ x.bars
  pub given : is_given order ≡ true → order ≡ due y.belief
  pub names : NamesOwn order y.belief
  pub barred : is_barred x.bars ≡ true → leads order ≡ false
  pub pinned : x.bars.pinned ≡ true → moves order ≡ false
  pub quiet : is_barred x.bars ≡ true → may_go_on x ≡ true → touches order ≡ false
  pub account : account y.belief ≡ account x.belief
  pub right : StaysRight x.belief y.belief

-- This outcome came of the order that was due (`done`).
pub record IsDone (outcome : Outcome) (x y : PageLender) : Type 0 where
  pub events : DoneByEvents x.belief (due x.belief) outcome y.belief
  pub belief : y.belief ≡ done_of x.belief outcome
  pub account : account y.belief ≡ account_then (due x.belief) outcome (account x.belief)
  pub ordered : y.ordered ≡ false
  pub bars : y.bars ≡ x.bars

-- the page can be chosen to be lent, or to be given back
abbrev pub is_free : PageLender → Bool
is_free page = is_private page.belief && not (is_barred page.bars)

-- The page is chosen, if it can be, and then this is believed of it (`choose` and `choose_zeros`).
pub record IsChosen (chosen : Belief) (x y : PageLender) : Type 0 where
  pub belief : y.belief ≡ (if is_free x then chosen else x.belief)
  pub ordered : y.ordered ≡ x.ordered
  pub bars : y.bars ≡ x.bars
  pub right : StaysRight x.belief y.belief

-- The page hears this (`heard`).
pub record IsHeard (notice : Notice) (x y : PageLender) : Type 0 where
  pub belief : y.belief ≡ heard_of x.belief notice
  pub right : HeardRightly x.belief y.belief
  pub account : account y.belief ≡ account x.belief
  pub ordered : y.ordered ≡ x.ordered
  pub bars : y.bars ≡ x.bars
