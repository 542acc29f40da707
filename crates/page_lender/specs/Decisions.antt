-- What a lender orders of a page, which outcomes an order has, and what the host may have for the page.
use Rattle.std.specs.Prelude.{◌≡◌, ℕ, Bool, true, false, not, ◌&&◌, ◌||◌, if◌then◌else◌, Option, Some, None}
use Rattle.page_lender.specs.declared.bars.Bars.{Bars}
use Rattle.page_lender.specs.declared.belief.Belief.{Belief}
use Rattle.page_lender.specs.declared.belief.Belief.TheVariants.{Private, Chosen, Copied, Turning, Shown, Leaving}
use Rattle.page_lender.specs.declared.belief.Homing.{Homing}
use Rattle.page_lender.specs.declared.belief.Homing.TheVariants.{Off, InPlace, Elsewhere}
use Rattle.page_lender.specs.declared.belief.Stage.{Stage}
use Rattle.page_lender.specs.declared.belief.Stage.TheVariants.{Ready, Held, Equal, LettingGo}
use Rattle.page_lender.specs.declared.belief.Target.{Target}
use Rattle.page_lender.specs.declared.belief.Target.TheVariants.{Frame, Zeros}
use Rattle.page_lender.specs.declared.order.Order.{Order}
use Rattle.page_lender.specs.declared.order.Order.TheVariants.{Wait, Copy, Lend, Hold, Compare, Map, LetGo, TakeHome, Release}
use Rattle.page_lender.specs.declared.order.Outcome.{Outcome}
use Rattle.page_lender.specs.declared.order.Outcome.TheVariants.{Done, Lent, Refused, Unknown}
use Rattle.page_lender.specs.declared.page.PageLender.{PageLender}

-- what is to be done with a page that has come so far on its way to this target
abbrev pub order_at : Stage → Target → Order
order_at Ready target = Hold target
order_at Held target = Compare target
order_at Equal target = Map target
order_at LettingGo target = LetGo target

-- with one that shows its frame
abbrev pub order_home : Homing → Order
order_home Off = Wait
order_home InPlace = TakeHome true
order_home Elsewhere = TakeHome false

-- with a page of which this is believed
abbrev pub due : Belief → Order
due Private = Wait
due Chosen = Copy
due Copied = Lend
due (Turning stage target) = order_at stage target
due (Shown slot n homing) = order_home homing
due (Leaving slot) = Release slot

-- nothing is lent, and nothing is asked
abbrev pub is_private : Belief → Bool
is_private Private = true
is_private Chosen = false
is_private Copied = false
is_private (Turning stage target) = false
is_private (Shown slot n homing) = false
is_private (Leaving slot) = false

-- writes to the page may wait
abbrev pub waits_at : Stage → Bool
waits_at Ready = false
waits_at Held = true
waits_at Equal = true
waits_at LettingGo = true

abbrev pub waiting : Belief → Bool
waiting Private = false
waiting Chosen = false
waiting Copied = false
waiting (Turning stage target) = waits_at stage
waiting (Shown slot n homing) = false
waiting (Leaving slot) = false

-- the page may show a frame itself
abbrev pub shows : Belief → Bool
shows Private = false
shows Chosen = false
shows Copied = false
shows (Turning stage target) = false
shows (Shown slot n homing) = true
shows (Leaving slot) = false

-- what the page was found to be equal to
abbrev pub equal_at : Stage → Target → Option Target
equal_at Ready target = None
equal_at Held target = None
equal_at Equal target = Some target
equal_at LettingGo target = None

abbrev pub equal_to : Belief → Option Target
equal_to Private = None
equal_to Chosen = None
equal_to Copied = None
equal_to (Turning stage target) = equal_at stage target
equal_to (Shown slot n homing) = None
equal_to (Leaving slot) = None

-- the order is carried out at the page, and not at the host alone
abbrev pub touches : Order → Bool
touches Wait = false
touches Copy = true
touches Lend = false
touches (Hold target) = true
touches (Compare target) = true
touches (Map target) = true
touches (LetGo target) = true
touches (TakeHome in_place) = true
touches (Release slot) = false

-- the order leads on to showing a frame, or to giving memory back
abbrev pub leads : Order → Bool
leads Wait = false
leads Copy = true
leads Lend = true
leads (Hold target) = true
leads (Compare target) = true
leads (Map target) = true
leads (LetGo target) = false
leads (TakeHome in_place) = false
leads (Release slot) = false

-- an order that was given
abbrev pub is_given : Order → Bool
is_given Wait = false
is_given Copy = true
is_given Lend = true
is_given (Hold target) = true
is_given (Compare target) = true
is_given (Map target) = true
is_given (LetGo target) = true
is_given (TakeHome in_place) = true
is_given (Release slot) = true

abbrev pub are_zeros : Target → Bool
are_zeros (Frame slot n) = false
are_zeros Zeros = true

-- the order gives a page other memory
abbrev pub moves : Order → Bool
moves Wait = false
moves Copy = false
moves Lend = false
moves (Hold target) = false
moves (Compare target) = false
moves (Map target) = are_zeros target
moves (LetGo target) = false
moves (TakeHome in_place) = not in_place
moves (Release slot) = false

-- something keeps the page from being lent
abbrev pub is_barred : Bars → Bool
is_barred bars = bars.called || bars.pinned || bars.inherited || bars.locked || bars.left || bars.ended

-- the page must not show a frame
abbrev pub must_own : Bars → Bool
must_own bars = bars.pinned || bars.inherited || bars.locked || bars.left || bars.ended

-- what is believed of a page that isn't to show this target, and to which no write waits
abbrev pub unshown : Target → Belief
unshown (Frame slot n) = Leaving slot
unshown Zeros = Private

-- of one that has come so far, and isn't to show this target any more
abbrev pub dropped : Stage → Target → Belief
dropped Ready target = unshown target
dropped Held target = Turning LettingGo target
dropped Equal target = Turning LettingGo target
dropped LettingGo target = Turning LettingGo target

-- whether a page that shows its frame is to get a copy of its own, and where
abbrev pub homing_by : Bars → Homing
homing_by bars = if must_own bars then (if bars.pinned then InPlace else Elsewhere) else Off

-- what is believed once bars are looked at
abbrev pub prepared : Bars → Belief → Belief
prepared bars Private = Private
prepared bars Chosen = if is_barred bars then Private else Chosen
prepared bars Copied = if is_barred bars then Private else Copied
prepared bars (Turning stage target) = if is_barred bars then dropped stage target else Turning stage target
prepared bars (Shown slot n homing) = Shown slot n (homing_by bars)
prepared bars (Leaving slot) = Leaving slot

-- an order that touches the page is open
abbrev pub is_busy : PageLender → Bool
is_busy page = page.ordered && touches (due page.belief)

-- an order that touches the page is open, or writes to it may wait
abbrev pub is_held : PageLender → Bool
is_held page = is_busy page || waiting page.belief

-- its memory may be exchanged for other memory: it isn't held, and nothing keeps it from being lent
abbrev pub is_movable : PageLender → Bool
is_movable page = not (is_held page) && not (is_barred page.bars)

-- a call of the monitor may go on that these bars are for
abbrev pub may_go_on : PageLender → Bool
may_go_on page = not (is_busy page) && not (waiting page.belief) && not (must_own page.bars && shows page.belief)

-- the bars from now on: a page that left stays so
abbrev pub joined : Bars → Bars → Bars
joined old bars = record bars { left = old.left || bars.left }

-- the order may bring a loan
abbrev pub can_bring : Order → Bool
can_bring Wait = false
can_bring Copy = false
can_bring Lend = true
can_bring (Hold target) = false
can_bring (Compare target) = false
can_bring (Map target) = false
can_bring (LetGo target) = false
can_bring (TakeHome in_place) = false
can_bring (Release slot) = false

-- the order may be done: any that is given, but for one that brings a loan or doesn't
abbrev pub can_be_done : Order → Bool
can_be_done order = is_given order && not (can_bring order)

-- what came of the order may be unknown: a copy to the buffer, a comparison and a mapping are done or not, and an order to the host stays open
-- until its answer is there
abbrev pub can_be_unknown : Order → Bool
can_be_unknown Wait = false
can_be_unknown Copy = false
can_be_unknown Lend = false
can_be_unknown (Hold target) = true
can_be_unknown (Compare target) = false
can_be_unknown (Map target) = false
can_be_unknown (LetGo target) = true
can_be_unknown (TakeHome in_place) = true
can_be_unknown (Release slot) = false

-- the outcome is one of the order's
abbrev pub is_outcome : Order → Outcome → Bool
is_outcome order Done = can_be_done order
is_outcome order (Lent slot n) = can_bring order
is_outcome order Refused = is_given order
is_outcome order Unknown = can_be_unknown order

-- the slot that the host has for the page
abbrev pub target_slot : Target → Option ℕ
target_slot (Frame slot n) = Some slot
target_slot Zeros = None

abbrev pub account : Belief → Option ℕ
account Private = None
account Chosen = None
account Copied = None
account (Turning stage target) = target_slot target
account (Shown slot n homing) = Some slot
account (Leaving slot) = Some slot

-- what the host has once a loan that was asked for has this outcome
abbrev pub lent_then : Outcome → Option ℕ → Option ℕ
lent_then Done old = old
lent_then (Lent slot n) old = Some slot
lent_then Refused old = None
lent_then Unknown old = old

-- what it has once a release of this slot has this outcome
abbrev pub released_then : ℕ → Outcome → Option ℕ → Option ℕ
released_then slot Done old = None
released_then slot (Lent other n) old = old
released_then slot Refused old = Some slot
released_then slot Unknown old = old

-- what it has after an outcome of an order: no other order changes it
abbrev pub account_then : Order → Outcome → Option ℕ → Option ℕ
account_then Wait outcome old = old
account_then Copy outcome old = old
account_then Lend outcome old = lent_then outcome old
account_then (Hold target) outcome old = old
account_then (Compare target) outcome old = old
account_then (Map target) outcome old = old
account_then (LetGo target) outcome old = old
account_then (TakeHome in_place) outcome old = old
account_then (Release slot) outcome old = released_then slot outcome old

-- the frame of a loan that isn't over
abbrev pub target_frame : Target → Option ℕ
target_frame (Frame slot n) = Some n
target_frame Zeros = None

abbrev pub frame_of : Belief → Option ℕ
frame_of Private = None
frame_of Chosen = None
frame_of Copied = None
frame_of (Turning stage target) = target_frame target
frame_of (Shown slot n homing) = Some n
frame_of (Leaving slot) = None
