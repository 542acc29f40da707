-- Which events a domain's calls are.
use Rattle.std.specs.Prelude.{◌≡◌, ◌<◌, ◌*◌, ℕ, ◌+◌, Bool, true, false, if◌then◌else◌, List, [], ◌∷◌, length, map, replicate, Option, Some, None, is_none, slice_get, slice_set, unwrap_or}
use Rattle.lent_slots.specs.declared.holding.Holding.{Holding}
use Rattle.share_domain.specs.declared.config.DomainConfig.{DomainConfig}
use Rattle.share_domain.specs.declared.holding.Slot.{Slot}
use Rattle.share_domain.specs.declared.holding.Loan.{Loan}
use Rattle.share_domain.specs.Domains.{DomainView, held_in, region_frame, LendsIn, after_release, entered}
use Rattle.share_domain.specs.Leaving.{Leaves}
use Rattle.share_domain.specs.Made.{empty_domain}
use Rattle.window_events.specs.declared.event.Event.{Event}
use Rattle.window_events.specs.declared.event.Event.TheVariants.{Write, Guard, Unguard, Copy, Lend, Map, Release, Trim, Discard}
use Rattle.window_events.specs.declared.page.Page.{Page}
use Rattle.window_events.specs.declared.page.View.TheVariants.{Over}
use Rattle.window_events.specs.Windows.{Mappings, is_bare, is_held, step, run, start, last, view_of}
use Rattle.window_domains.specs.Agreement.{bytes_at, Agrees, Plays}

-- a domain that was made, and pages none of which has a slot
abbrev pub BeginsInAgreement : Type 0
BeginsInAgreement =
    (number : List ℕ → ℕ) (config : DomainConfig) (contents frames : List ℕ) → length frames ≡ config.machines * config.frames →
    Agrees number (empty_domain config) (replicate (length contents) None) (start contents frames)

-- Page p has no slot, and the buffer of its lender has this content.
pub record IsToBeLent (slots : List (Option Slot)) (w : Mappings) (p x : ℕ) : Type 0 where
  pub no_slot : slice_get slots p ≡ Some None
  pub page : Page
  pub at : slice_get w.pages p ≡ Some page
  pub buffer : page.copy ≡ Some x

-- A page that is lent: the page's copy goes into the loan's frame, and the page holds it.
abbrev pub LendsByEvent : Type 0
LendsByEvent =
    (number : List ℕ → ℕ) (d new : DomainView) (slots : List (Option Slot)) (w : Mappings) (m client p : ℕ) (bytes : List ℕ) (loan : Loan) →
    Agrees number d slots w → LendsIn m client bytes loan d new → IsToBeLent slots w p (number bytes) →
    Plays w (Lend p loan.frame ∷ []) (Agrees number new (slice_set slots p (Some loan.slot)))

-- what a frame gets that is filled early: if no page holds it, this content, and else nothing, since it has that content already
abbrev pub filled : Mappings → ℕ → ℕ → List Event
filled w n x = if is_held n w.pages then [] else Trim n x ∷ []

-- A page that is lent before it is guarded: the loan's frame gets the bytes, and no page holds it yet for that slot.
abbrev pub LendsEarly : Type 0
LendsEarly =
    (number : List ℕ → ℕ) (d new : DomainView) (slots : List (Option Slot)) (w : Mappings) (m client : ℕ) (bytes : List ℕ) (loan : Loan) →
    Agrees number d slots w → LendsIn m client bytes loan d new →
    Plays w (filled w loan.frame (number bytes)) (Agrees number new slots)

-- A page that is compared with the frame of such a slot, while it is guarded: it is lent, if its copy is what the frame has.
abbrev pub ComparesByEvent : Type 0
ComparesByEvent =
    (number : List ℕ → ℕ) (d : DomainView) (slots : List (Option Slot)) (w : Mappings) (p : ℕ) (bytes : List ℕ) (slot : Slot) (h : Holding) →
    Agrees number d slots w → held_in d.machines slot ≡ Some h → bytes_at d slot.machine h.frame ≡ Some bytes → IsToBeLent slots w p (number bytes) →
    Plays w (Lend p (region_frame d.frames slot.machine h.frame) ∷ []) (Agrees number d (slice_set slots p (Some slot)))

-- the page had a slot, which nobody holds now
abbrev pub is_lost : DomainView → Option Slot → Bool
is_lost d None = false
is_lost d (Some slot) = is_none (held_in d.machines slot)

-- the slot of a page that is left of this one
abbrev pub left : DomainView → Option Slot → Option Slot
left d slot = if is_lost d slot then None else slot

-- a release of each page, from page p on, whose slot nobody holds now
abbrev pub releases : DomainView → ℕ → List (Option Slot) → List Event
releases d p [] = []
releases d p (slot ∷ slots) = if is_lost d slot then Release p ∷ releases d (p + 1) slots else releases d (p + 1) slots

-- no page shows its frame itself whose slot nobody holds now
abbrev pub NoneShown : DomainView → List (Option Slot) → Mappings → Type 0
NoneShown d slots w =
    (p : ℕ) (slot : Option Slot) (page : Page) → slice_get slots p ≡ Some slot → slice_get w.pages p ≡ Some page →
    is_lost d slot ≡ true → is_bare page.view ≡ false

-- A slot that is released: a release of each page that has it, if the slot is the client's, and else nothing.
abbrev pub ReleasesByEvents : Type 0
ReleasesByEvents =
    (number : List ℕ → ℕ) (d : DomainView) (slots : List (Option Slot)) (w : Mappings) (client : ℕ) (slot : Slot) →
    let new : DomainView = after_release client slot d in
    Agrees number d slots w → NoneShown new slots w → Plays w (releases new 0 slots) (Agrees number new (map (left new) slots))

-- A client that leaves: a release of each page whose slot was released.
abbrev pub LeavesByEvents : Type 0
LeavesByEvents =
    (number : List ℕ → ℕ) (d new : DomainView) (slots : List (Option Slot)) (w : Mappings) (client count : ℕ) (room after : List ℕ) →
    Agrees number d slots w → Leaves client count room after d new → NoneShown new slots w →
    Plays w (releases new 0 slots) (Agrees number new (map (left new) slots))

-- A frame that is free may be trimmed.
abbrev pub TrimsByEvent : Type 0
TrimsByEvent =
    (number : List ℕ → ℕ) (d : DomainView) (slots : List (Option Slot)) (w : Mappings) (m mpn x : ℕ) →
    Agrees number d slots w → m < length d.machines → mpn < d.frames → bytes_at d m mpn ≡ None →
    Plays w (Trim (region_frame d.frames m mpn) x ∷ []) (Agrees number d slots)

-- A client that enters is no event.
abbrev pub EntersByNone : Type 0
EntersByNone =
    (number : List ℕ → ℕ) (d : DomainView) (slots : List (Option Slot)) (w : Mappings) (client : Option ℕ) →
    Agrees number d slots w → Agrees number (entered d client) slots w

-- an event of a guest or of a lender alone, in which the domain takes no part
abbrev pub is_own : Event → Bool
is_own (Write p x) = true
is_own (Guard p) = true
is_own (Unguard p) = true
is_own (Copy p) = true
is_own (Lend p n) = false
is_own (Map p) = true
is_own (Release p) = false
is_own (Trim n x) = false
is_own (Discard p) = true

-- Such an event leaves the agreement, possible or not.
abbrev pub KeepsAgreement : Type 0
KeepsAgreement =
    (number : List ℕ → ℕ) (d : DomainView) (slots : List (Option Slot)) (w : Mappings) (e : Event) →
    is_own e ≡ true → Agrees number d slots w → Agrees number d slots (unwrap_or (step w e) w)

-- A page that shows frame n itself: it has a slot of the domain, whose frame that is. That frame holds bytes whose number the page's guest
-- wrote last. They are the bytes that the guest wrote, if no others of the same number are.
pub record ShowsFrameOf (number : List ℕ → ℕ) (d : DomainView) (slots : List (Option Slot)) (written : Option ℕ) (p n : ℕ) : Type 0 where
  pub slot : Slot
  pub has : slice_get slots p ≡ Some (Some slot)
  pub holding : Holding
  pub held : held_in d.machines slot ≡ Some holding
  pub number_is : n ≡ region_frame d.frames slot.machine holding.frame
  pub bytes : List ℕ
  pub frame_has : bytes_at d slot.machine holding.frame ≡ Some bytes
  pub last : written ≡ Some (number bytes)
  pub same : (own : List ℕ) → written ≡ Some (number own) → (number bytes ≡ number own → bytes ≡ own) → bytes ≡ own

-- After any events, if the domain agrees with the mappings: the bytes of a frame that a page shows are what its guest wrote last.
abbrev pub ShowsBytes : Type 0
ShowsBytes =
    (number : List ℕ → ℕ) (d : DomainView) (slots : List (Option Slot)) (contents frames : List ℕ) (events : List Event) (p n : ℕ) →
    let w : Mappings = run step (start contents frames) events in
    Agrees number d slots w → view_of w p ≡ Some (Over n None) → ShowsFrameOf number d slots (last w p) p n
