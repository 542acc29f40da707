-- What guests, their lenders and a domain do, one thing after the other.
use Rattle.std.specs.Prelude.{◌≡◌, ◌<◌, ◌*◌, ℕ, true, List, [], ◌∷◌, ◌++◌, length, map, replicate, Option, Some, None, is_some, slice_set}
use Rattle.lent_slots.specs.declared.holding.Holding.{Holding}
use Rattle.share_domain.specs.declared.config.DomainConfig.{DomainConfig}
use Rattle.share_domain.specs.declared.holding.Slot.{Slot}
use Rattle.share_domain.specs.declared.holding.Loan.{Loan}
use Rattle.share_domain.specs.Domains.{DomainView, held_in, region_frame, LendsIn, after_release, entered}
use Rattle.share_domain.specs.Leaving.{Leaves}
use Rattle.share_domain.specs.Made.{empty_domain}
use Rattle.window_events.specs.declared.event.Event.{Event}
use Rattle.window_events.specs.declared.event.Event.TheVariants.{Lend, Trim}
use Rattle.window_events.specs.declared.page.View.TheVariants.{Over}
use Rattle.window_events.specs.Windows.{Mappings, step, run, start, shown, last, view_of}
use Rattle.window_events.specs.Played.{refused_from}
use Rattle.window_domains.specs.Agreement.{bytes_at, Agrees}
use Rattle.window_domains.specs.Calls.{IsToBeLent, filled, left, releases, NoneShown, is_own, ShowsFrameOf}

-- What there is at a time: the domain, the slot of each page, and the mappings.
pub record Moment : Type 0 where
  pub domain : DomainView
  pub slots : List (Option Slot)
  pub mappings : Mappings

-- Before anything happened: a domain that was made, and pages and frames with these contents.
abbrev pub at_first : DomainConfig → List ℕ → List ℕ → Moment
at_first config contents frames = record { domain = empty_domain config; slots = replicate (length contents) None; mappings = start contents frames }

-- What happens next: the events that it is, and the domain and the slots after it. What guests and lenders do alone must be possible.
-- Of the domain's calls only its contract is used.
pub data Happens (number : List ℕ → ℕ) (now : Moment) (events : List Event) (domain : DomainView) (slots : List (Option Slot)) : Type 0 where
  own : (e : Event) → is_own e ≡ true → is_some (step now.mappings e) ≡ true
      → events ≡ e ∷ [] → domain ≡ now.domain → slots ≡ now.slots → Happens number now events domain slots
  enters : (client : Option ℕ) → events ≡ [] → domain ≡ entered now.domain client → slots ≡ now.slots → Happens number now events domain slots
  lends : (m client p : ℕ) (bytes : List ℕ) (loan : Loan) → LendsIn m client bytes loan now.domain domain → IsToBeLent now.slots now.mappings p (number bytes)
      → events ≡ Lend p loan.frame ∷ [] → slots ≡ slice_set now.slots p (Some loan.slot) → Happens number now events domain slots
  lends_early : (m client : ℕ) (bytes : List ℕ) (loan : Loan) → LendsIn m client bytes loan now.domain domain
      → events ≡ filled now.mappings loan.frame (number bytes) → slots ≡ now.slots → Happens number now events domain slots
  compares : (p : ℕ) (bytes : List ℕ) (slot : Slot) (h : Holding) → held_in now.domain.machines slot ≡ Some h → bytes_at now.domain slot.machine h.frame ≡ Some bytes
      → IsToBeLent now.slots now.mappings p (number bytes) → events ≡ Lend p (region_frame now.domain.frames slot.machine h.frame) ∷ []
      → domain ≡ now.domain → slots ≡ slice_set now.slots p (Some slot) → Happens number now events domain slots
  releases_slot : (client : ℕ) (slot : Slot) → domain ≡ after_release client slot now.domain → NoneShown domain now.slots now.mappings
      → events ≡ releases domain 0 now.slots → slots ≡ map (left domain) now.slots → Happens number now events domain slots
  leaves : (client count : ℕ) (room after : List ℕ) → Leaves client count room after now.domain domain → NoneShown domain now.slots now.mappings
      → events ≡ releases domain 0 now.slots → slots ≡ map (left domain) now.slots → Happens number now events domain slots
  trims : (m mpn x : ℕ) → m < length now.domain.machines → mpn < now.domain.frames → bytes_at now.domain m mpn ≡ None
      → events ≡ Trim (region_frame now.domain.frames m mpn) x ∷ [] → domain ≡ now.domain → slots ≡ now.slots → Happens number now events domain slots

-- A history of any length from a first moment on, and all its events.
pub data History (number : List ℕ → ℕ) (first : Moment) : List Event → Moment → Type 0 where
  begins : History number first [] first
  goes_on : (events more : List Event) (now : Moment) (domain : DomainView) (slots : List (Option Slot)) → History number first events now → Happens number now more domain slots
      → History number first (events ++ more) (record { domain = domain; slots = slots; mappings = run step now.mappings more })

-- What is so after a history: each of its events was possible, and they made the mappings. Each page shows what its guest wrote last;
-- and where it shows a frame itself, it has a slot of the domain, whose frame holds the bytes of that content.
pub record IsRightAfter (number : List ℕ → ℕ) (first : Moment) (events : List Event) (now : Moment) : Type 0 where
  pub possible : refused_from 0 first.mappings events ≡ None
  pub mappings : now.mappings ≡ run step first.mappings events
  pub agrees : Agrees number now.domain now.slots now.mappings
  pub shows : (p : ℕ) → shown now.mappings p ≡ last now.mappings p
  pub frames : (p n : ℕ) → view_of now.mappings p ≡ Some (Over n None) → ShowsFrameOf number now.domain now.slots (last now.mappings p) p n

-- whatever happened, in any order
abbrev pub EveryHistoryIsRight : Type 0
EveryHistoryIsRight =
    (number : List ℕ → ℕ) (config : DomainConfig) (contents frames : List ℕ) (events : List Event) (now : Moment) → length frames ≡ config.machines * config.frames →
    History number (at_first config contents frames) events now → IsRightAfter number (at_first config contents frames) events now
