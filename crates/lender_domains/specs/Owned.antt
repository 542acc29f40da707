-- The slots that a domain has for pages, beside what their lenders believe.
use Rattle.std.specs.Prelude.{◌≡◌, ℕ, true, false, List, [], ◌∷◌, Option, Some, None, slice_get, slice_set, ◌⊎◌}
use Rattle.std.specs.Option.{option_map}
use Rattle.lent_slots.specs.Slots.{is_of}
use Rattle.share_domain.specs.declared.holding.Slot.{Slot}
use Rattle.share_domain.specs.declared.holding.Loan.{Loan}
use Rattle.share_domain.specs.Domains.{DomainView, held_in, after_release, LendsIn}
use Rattle.window_events.specs.Windows.{Mappings, is_bare, step}
use Rattle.window_events.specs.declared.event.Event.{Event}
use Rattle.window_events.specs.declared.event.Event.TheVariants.{Release}
use Rattle.window_events.specs.declared.page.Page.{Page}
use Rattle.window_domains.specs.Agreement.{Agrees, Plays}
use Rattle.window_domains.specs.Calls.{releases}
use Rattle.page_lender.specs.Decisions.{account}
use Rattle.page_lender.specs.Events.{Believes}
use Rattle.page_lender.specs.declared.belief.Belief.{Belief}
use Rattle.page_lender.specs.declared.belief.Belief.TheVariants.{Private, Chosen, Copied, Turning, Shown, Leaving}
use Rattle.page_lender.specs.declared.belief.Stage.{Stage}
use Rattle.page_lender.specs.declared.belief.Stage.TheVariants.{Ready, Held, Equal, LettingGo}
use Rattle.page_lender.specs.declared.belief.Target.{Target}
use Rattle.page_lender.specs.declared.belief.Target.TheVariants.{Frame, Zeros}

-- `given` says which slot the domain has for each page, if any, and `slots` by which slot a page holds a frame, if by any. Each slot that the
-- domain has for a page is held by the page's client. No two pages have one. A page holds a frame only by its own.
pub record Owns (d : DomainView) (client_of : ℕ → ℕ) (given slots : List (Option Slot)) : Type 0 where
  pub held : (p : ℕ) (slot : Slot) → slice_get given p ≡ Some (Some slot) → is_of (client_of p) (held_in d.machines slot) ≡ true
  pub apart : (p q : ℕ) (slot : Slot) → slice_get given p ≡ Some (Some slot) → slice_get given q ≡ Some (Some slot) → p ≡ q
  pub own : (p : ℕ) (slot : Slot) → slice_get slots p ≡ Some (Some slot) → slice_get given p ≡ Some (Some slot)

-- by which slot a page holds a frame that has come so far on its way to this target, where the domain has this slot for it
abbrev pub HoldsAt : Stage → Target → Option Slot → Option Slot → Type 0
HoldsAt Ready target given held = held ≡ None
HoldsAt Held target given held = held ≡ None
HoldsAt Equal (Frame slot n) given held = held ≡ given
HoldsAt Equal Zeros given held = held ≡ None
HoldsAt LettingGo (Frame slot n) given held = (held ≡ None) ⊎ (held ≡ given)
HoldsAt LettingGo Zeros given held = held ≡ None

-- and one of which this is believed
abbrev pub HoldsBy : Belief → Option Slot → Option Slot → Type 0
HoldsBy Private given held = held ≡ None
HoldsBy Chosen given held = held ≡ None
HoldsBy Copied given held = held ≡ None
HoldsBy (Turning stage target) given held = HoldsAt stage target given held
HoldsBy (Shown slot n homing) given held = held ≡ given
HoldsBy (Leaving slot) given held = (held ≡ None) ⊎ (held ≡ given)

-- In every domain and mappings that agree, where what is believed of a page is right.
abbrev pub SlotsByBelief : Type 0
SlotsByBelief =
    (number : List ℕ → ℕ) (d : DomainView) (client_of : ℕ → ℕ) (given slots : List (Option Slot)) (w : Mappings) (p : ℕ) (belief : Belief) (own held : Option Slot) →
    Agrees number d slots w → Owns d client_of given slots → Believes belief w p → slice_get given p ≡ Some own → slice_get slots p ≡ Some held → HoldsBy belief own held

-- the slot that the domain has for the page, by the account that its lender gives
abbrev pub HasFor : (Slot → ℕ) → Target → Option Slot → Type 0
HasFor name (Frame slot n) own = option_map name own ≡ Some slot
HasFor name Zeros own = own ≡ None

abbrev pub HasBy : (Slot → ℕ) → Belief → Option Slot → Type 0
HasBy name Private own = own ≡ None
HasBy name Chosen own = own ≡ None
HasBy name Copied own = own ≡ None
HasBy name (Turning stage target) own = HasFor name target own
HasBy name (Shown slot n homing) own = option_map name own ≡ Some slot
HasBy name (Leaving slot) own = option_map name own ≡ Some slot

-- Slots have numbers, by any numbering. Where the account is right of the number of the page's slot, so is this.
abbrev pub AccountsByBelief : Type 0
AccountsByBelief = (name : Slot → ℕ) (belief : Belief) (own : Option Slot) → option_map name own ≡ account belief → HasBy name belief own

-- A loan for page p, which had none, whether its lender hears of it or not: the domain has its slot for p, and each other page has what it had.
abbrev pub LendsOwn : Type 0
LendsOwn =
    (d new : DomainView) (client_of : ℕ → ℕ) (given slots : List (Option Slot)) (m p : ℕ) (bytes : List ℕ) (loan : Loan) →
    LendsIn m (client_of p) bytes loan d new → Owns d client_of given slots → slice_get given p ≡ Some None → Owns new client_of (slice_set given p (Some loan.slot)) slots

-- the release of page p, if it holds a frame by some slot
abbrev pub release_of : ℕ → Option (Option Slot) → List Event
release_of p None = []
release_of p (Some None) = []
release_of p (Some (Some slot)) = Release p ∷ []

-- After a release of page p's slot: its events are those of p alone, and they are possible. Then domain and mappings agree, no other page's
-- slot changed, and each page has what it had.
pub record ReleasesAlone (number : List ℕ → ℕ) (new : DomainView) (client_of : ℕ → ℕ) (given slots : List (Option Slot)) (w : Mappings) (p : ℕ) : Type 0 where
  pub events : releases new 0 slots ≡ release_of p (slice_get slots p)
  pub plays : Plays w (release_of p (slice_get slots p)) (Agrees number new (slice_set slots p None))
  pub owns : Owns new client_of (slice_set given p None) (slice_set slots p None)

-- where page p doesn't show its frame
abbrev pub ReleasesOwn : Type 0
ReleasesOwn =
    (number : List ℕ → ℕ) (d : DomainView) (client_of : ℕ → ℕ) (given slots : List (Option Slot)) (w : Mappings) (p : ℕ) (slot : Slot) →
    Agrees number d slots w → Owns d client_of given slots → slice_get given p ≡ Some (Some slot) →
    ((page : Page) → slice_get w.pages p ≡ Some page → is_bare page.view ≡ false) →
    ReleasesAlone number (after_release (client_of p) slot d) client_of given slots w p

-- A page that shows a frame itself isn't released, whoever names its slot.
abbrev pub ReleaseIsRefused : Type 0
ReleaseIsRefused = (w : Mappings) (p : ℕ) (page : Page) → slice_get w.pages p ≡ Some page → is_bare page.view ≡ true → step w (Release p) ≡ None
