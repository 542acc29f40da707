-- The slot that the host has for a page, beside the lender's account of it.
use Rattle.std.specs.Prelude.{◌≡◌, ℕ, true, Option, Some, None}
use Rattle.page_lender.specs.Decisions.{account, account_then, frame_of, is_outcome}
use Rattle.page_lender.specs.declared.belief.Belief.{Belief}
use Rattle.page_lender.specs.declared.belief.Belief.TheVariants.{Turning}
use Rattle.page_lender.specs.declared.belief.Stage.TheVariants.{Equal}
use Rattle.page_lender.specs.declared.belief.Target.TheVariants.{Frame, Zeros}
use Rattle.page_lender.specs.declared.order.Order.{Order}
use Rattle.page_lender.specs.declared.order.Order.TheVariants.{Wait, Copy, Lend, Hold, Compare, Map, LetGo, TakeHome, Release}
use Rattle.page_lender.specs.declared.order.Outcome.{Outcome}
use Rattle.page_lender.specs.declared.order.Outcome.TheVariants.{Done, Lent, Refused, Unknown}

-- An order names what is the page's own: a loan is asked for where the host has nothing, and a slot is released that the host has. Memory is
-- given back only of a page that was compared with zeros.
abbrev pub NamesOwn : Order → Belief → Type 0
NamesOwn Wait belief = Unit {0}
NamesOwn Copy belief = Unit {0}
NamesOwn Lend belief = account belief ≡ None
NamesOwn (Hold target) belief = Unit {0}
NamesOwn (Compare (Frame slot n)) belief = frame_of belief ≡ Some n
NamesOwn (Compare Zeros) belief = Unit {0}
NamesOwn (Map (Frame slot n)) belief = frame_of belief ≡ Some n
NamesOwn (Map Zeros) belief = belief ≡ Turning Equal Zeros
NamesOwn (LetGo target) belief = Unit {0}
NamesOwn (TakeHome in_place) belief = Unit {0}
NamesOwn (Release slot) belief = account belief ≡ Some slot

-- what the host has before and after a loan was asked for
abbrev pub LendsSlot : Outcome → Option ℕ → Option ℕ → Type 0
LendsSlot Done before after = after ≡ before
LendsSlot (Lent slot n) before after = after ≡ Some slot
LendsSlot Refused before after = after ≡ before
LendsSlot Unknown before after = after ≡ before

-- and where a slot was to be released
abbrev pub ReleasesSlot : Outcome → Option ℕ → Option ℕ → Type 0
ReleasesSlot Done before after = after ≡ None
ReleasesSlot (Lent slot n) before after = after ≡ before
ReleasesSlot Refused before after = after ≡ before
ReleasesSlot Unknown before after = after ≡ before

-- what the host has before and after an outcome of an order that is true: only orders to the host change it
abbrev pub HostDoes : Order → Outcome → Option ℕ → Option ℕ → Type 0
HostDoes Wait outcome before after = after ≡ before
HostDoes Copy outcome before after = after ≡ before
HostDoes Lend outcome before after = LendsSlot outcome before after
HostDoes (Hold target) outcome before after = after ≡ before
HostDoes (Compare target) outcome before after = after ≡ before
HostDoes (Map target) outcome before after = after ≡ before
HostDoes (LetGo target) outcome before after = after ≡ before
HostDoes (TakeHome in_place) outcome before after = after ≡ before
HostDoes (Release slot) outcome before after = ReleasesSlot outcome before after

-- Where an order named the page's own, the account stays right of what the host has.
abbrev pub KeepsAccount : Type 0
KeepsAccount =
    (belief : Belief) (order : Order) (outcome : Outcome) (before after : Option ℕ) → NamesOwn order belief → is_outcome order outcome ≡ true →
    before ≡ account belief → HostDoes order outcome before after → after ≡ account_then order outcome (account belief)
