-- The fingerprints of a domain's frames in use.
use Rattle.std.specs.Prelude.{◌≡◌, ℕ, ◌<◌, ◌⊎◌, true, List, [], ◌∷◌, ◌++◌, length, map, Option, Some}
use Rattle.std.specs.Option.{option_map}
use Rattle.page_digest.specs.Hashes.{fold_hash}
use Rattle.machine_frames.specs.FrameMap.{FrameMap, frame}
use Rattle.lent_slots.specs.Slots.{MachineView}
use Rattle.share_domain.specs.declared.fault.LendFault.{LendFault}
use Rattle.share_domain.specs.declared.holding.Loan.{Loan}
use Rattle.share_domain.specs.Domains.{DomainView, IsIn, machine_at, LendsIn, RefusesIn}
use Rattle.share_domain.specs.Open.{first_open, is_open}

-- the domain, and the salt of the fingerprints
pub record KnownDomain : Type 0 where
  pub salt : ℕ
  pub domain : DomainView

-- the same salt beside another domain
abbrev pub with_domain : DomainView → KnownDomain → KnownDomain
with_domain domain k = record { salt = k.salt; domain = domain }

-- the fingerprints of these frames' bytes by the frames' numbers, none of a frame that is free
abbrev pub fingerprints_of : ℕ → FrameMap → List (Option ℕ)
fingerprints_of salt frames = map (λ held. option_map (λ bytes. fold_hash salt bytes) held) frames

-- those of the frames of all machines, as these are numbered: the frames of machine 0 first
abbrev pub fingerprints_in : ℕ → List MachineView → List (Option ℕ)
fingerprints_in salt [] = []
fingerprints_in salt (m ∷ ms) = fingerprints_of salt m.frames ++ fingerprints_in salt ms

-- a frame of a machine has bytes with this fingerprint
pub record HasFingerprint (salt fingerprint : ℕ) (m : MachineView) : Type 0 where
  pub mpn : ℕ
  pub bytes : List ℕ
  pub has : frame m.frames mpn ≡ Some bytes
  pub is : fold_hash salt bytes ≡ fingerprint

-- the machine refuses a page of this client
pub record IsRefused (m client : ℕ) (d : DomainView) : Type 0 where
  pub fault : LendFault
  pub refuses : RefusesIn m client fault d

-- each machine that has a frame with this fingerprint refuses a page of the client
abbrev pub AllRefuse : ℕ → ℕ → ℕ → DomainView → Type 0
AllRefuse salt fingerprint client d = (m : ℕ) → m < length d.machines → HasFingerprint salt fingerprint (machine_at d.machines m) → IsRefused m client d

-- A client's page was lent: at a machine that has a frame with its fingerprint. Only if each of those refuses it, or there is none, it
-- was lent at the first machine that is open.
pub record LendsFound (salt client : ℕ) (page : List ℕ) (loan : Loan) (old new : DomainView) : Type 0 where
  pub goes : HasFingerprint salt (fold_hash salt page) (machine_at old.machines loan.slot.machine)
      ⊎ (AllRefuse salt (fold_hash salt page) client old × (loan.slot.machine ≡ first_open old.machines))
  pub lends : LendsIn loan.slot.machine client page loan old new

-- A client's page was refused: by each machine that has a frame with its fingerprint, and by the first machine that is open, or machine 0
-- where none is.
pub record RefusesFound (salt client : ℕ) (page : List ℕ) (fault : LendFault) (old : DomainView) : Type 0 where
  pub each : AllRefuse salt (fold_hash salt page) client old
  pub refuses : RefusesIn (first_open old.machines) client fault old

-- no frame in use has other bytes with this page's fingerprint
abbrev pub IsUnmistaken : ℕ → List ℕ → DomainView → Type 0
IsUnmistaken salt page d = (m mpn : ℕ) (bytes : List ℕ) → frame (machine_at d.machines m).frames mpn ≡ Some bytes → fold_hash salt bytes ≡ fold_hash salt page → bytes ≡ page

-- a frame of the machine has these bytes
pub record HasBytes (page : List ℕ) (m : MachineView) : Type 0 where
  pub mpn : ℕ
  pub has : frame m.frames mpn ≡ Some page

-- Where a machine that has a frame with a page's bytes doesn't refuse it, and no frame has other bytes with its fingerprint, the page goes
-- to a machine that has a frame with its bytes.
abbrev pub EqualPagesMeet : Type 0
EqualPagesMeet =
    (salt client m : ℕ) (page : List ℕ) (loan : Loan) (old new : DomainView) → LendsFound salt client page loan old new → m < length old.machines
    → HasBytes page (machine_at old.machines m) → (IsRefused m client old → ⊥) → IsUnmistaken salt page old
    → HasBytes page (machine_at old.machines loan.slot.machine)

-- While a machine is open, no page of a client that is in is refused.
abbrev pub OpenRefusesNothing : Type 0
OpenRefusesNothing =
    (salt client m : ℕ) (page : List ℕ) (fault : LendFault) (d : DomainView) → m < length d.machines → is_open (machine_at d.machines m) ≡ true → IsIn d client
    → RefusesFound salt client page fault d → ⊥
