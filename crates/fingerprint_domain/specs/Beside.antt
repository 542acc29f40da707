-- Where a page is lent beside frames with its fingerprint, by what is kept of the frames.
use Rattle.std.specs.Prelude.{◌≡◌, ℕ, ◌<◌, ◌⊎◌, List, length, Option, Some, None, slice_index_or}
use Rattle.share_domain.specs.declared.holding.Loan.{Loan}
use Rattle.share_domain.specs.Domains.{DomainView, LendsIn, region_frame}
use Rattle.share_domain.specs.Open.{first_open}
use Rattle.fingerprint_domain.specs.Known.{IsRefused}

-- a frame of machine m has this fingerprint
pub record IsHeldAt (fingerprint frames m : ℕ) (held : List (Option ℕ)) : Type 0 where
  pub mpn : ℕ
  pub within : mpn < frames
  pub has : slice_index_or held (region_frame frames m mpn) None ≡ Some fingerprint

-- each machine with such a frame refuses a page of the client
abbrev pub AllRefuseKept : ℕ → List (Option ℕ) → ℕ → DomainView → Type 0
AllRefuseKept fingerprint held client d = (m : ℕ) → m < length d.machines → IsHeldAt fingerprint d.frames m held → IsRefused m client d

-- the page is lent at a machine with such a frame
pub record LendsKept (fingerprint : ℕ) (held : List (Option ℕ)) (client : ℕ) (page : List ℕ) (loan : Loan) (old new : DomainView) : Type 0 where
  pub there : loan.slot.machine < length old.machines
  pub at : IsHeldAt fingerprint old.frames loan.slot.machine held
  pub lends : LendsIn loan.slot.machine client page loan old new

-- the machine at which a page is lent has such a frame, or each that has one refuses the page and the machine is the first that is open
abbrev pub GoesKept : ℕ → List (Option ℕ) → ℕ → Loan → DomainView → Type 0
GoesKept fingerprint held client loan d =
    ((loan.slot.machine < length d.machines) × IsHeldAt fingerprint d.frames loan.slot.machine held)
    ⊎ (AllRefuseKept fingerprint held client d × (loan.slot.machine ≡ first_open d.machines))
