-- What the first lines of files say.
use Rattle.std.specs.Prelude.{◌≡◌, ◌≢◌, ℕ, ◌+◌, ◌^◌, ◌⊎◌, ◌<◌, ◌≤◌, ◌==◌, if◌then◌else◌, List, [], ◌∷◌, length, slice_index, slice_index_or, sum_by, take, Option, Some, None, Result, Ok, Err}
use Rattle.guest_digests.specs.Samples.{zeros_digest}
use Rattle.digest_text.specs.Fields.{Row}
use Rattle.fleet_census.specs.Fleets.{lines_of, pages_of, salt_of}
use Rattle.fleet_census.specs.States.{From, IsBehind, IsRead, Said}
use Rattle.fleet_census.specs.Steps.{guest_at, no_amount}
use Rattle.fleet_census.specs.Tournaments.{entry_at}
use Rattle.fleet_census.specs.declared.entry.Entry.{Entry}
use Rattle.fleet_census.specs.declared.fault.FleetFault.{FleetFault}
use Rattle.fleet_census.specs.declared.fault.FleetFault.TheVariants.{OutOfMemory, TooManyDigests, TooManyPages, OtherSample, Read, Line}
use Rattle.fleet_census.specs.declared.first.First.{First}
use Rattle.fleet_census.specs.declared.guest.FleetGuest.{FleetGuest}
use Rattle.fleet_census.specs.declared.open.Opening.{Opening}

-- the sample of a guest, as its first line says; 0 without a line
abbrev pub sample_of : List Row → ℕ
sample_of [] = 0
sample_of (row ∷ rows) = row.head.sample

-- this is what the first of the rows says
pub record IsOpened (rows : List Row) (first : First) : Type 0 where
  pub salt : first.salt ≡ salt_of rows
  pub pages : first.pages ≡ pages_of rows
  pub every : first.every ≡ sample_of rows

-- the first line was read, or a fault is reported
abbrev pub IsFirstRead : ℕ → Said → Option Said → Result First FleetFault → Type 0
IsFirstRead file said now (Ok first) = IsRead file said now (Ok first.entry) × ((rows : List Row) → said ≡ Ok rows → IsOpened rows first)
IsFirstRead file said now (Err fault) = IsRead file said now (Err fault)

-- all files are whole, and none of their lines was read
pub record AreWhole (fleet : List (List Row)) (rows_left : List (Option Said)) : Type 0 where
  pub rows_left_are : (file : ℕ) → file < length fleet → slice_index_or rows_left file None ≡ Some (Ok (slice_index_or fleet file []))
  pub rise : (file : ℕ) → file < length fleet → From 0 (lines_of (slice_index_or fleet file []))

-- a guest without contents
abbrev pub guest_start : List Row → FleetGuest
guest_start rows = record { pages = pages_of rows; zero = 0; distinct = no_amount; shared = no_amount; alone = no_amount }

-- the files before this one were opened
pub record IsOpenTo (fleet : List (List Row)) (turn : ℕ) (leaves : List Entry) (rows_left : List (Option Said)) (zeros : List ℕ)
    (guests : List FleetGuest)
    (opening : Opening) : Type 0 where
  pub behind : (file : ℕ) → file < turn → IsBehind (slice_index_or fleet file []) 0 (entry_at leaves file) (slice_index_or rows_left file None)
  pub unread : (file : ℕ) → turn ≤ file → file < length fleet → slice_index_or rows_left file None ≡ Some (Ok (slice_index_or fleet file []))
  pub zeros_are : (file : ℕ) → file < turn → slice_index zeros file ≡ zeros_digest (salt_of (slice_index_or fleet file []))
  pub guests_are : (file : ℕ) → file < turn → guest_at guests file ≡ guest_start (slice_index_or fleet file [])
  pub pages_are : opening.pages ≡ sum_by pages_of (take turn fleet)
  pub one : (file : ℕ) → file < turn
      → (sample_of (slice_index_or fleet file []) ≡ 0) ⊎ (sample_of (slice_index_or fleet file []) ≡ opening.every)
  pub some : (opening.every ≡ 0) ⊎ (file : ℕ) × (file < turn) × (sample_of (slice_index_or fleet file []) ≡ opening.every)

-- the first file that has another sample than one before it
pub record IsOther (fleet : List (List Row)) (number : ℕ) : Type 0 where
  pub within : number < length fleet
  pub first : ℕ
  pub before : first < number
  pub some : sample_of (slice_index_or fleet number []) ≢ 0
  pub other : sample_of (slice_index_or fleet number []) ≢ sample_of (slice_index_or fleet first [])
  pub one : (file : ℕ) → file < number
      → (sample_of (slice_index_or fleet file []) ≡ 0) ⊎ (sample_of (slice_index_or fleet file []) ≡ sample_of
      (slice_index_or fleet first []))

pub record IsJoint (old : Opening) (first : First) (new : Opening) : Type 0 where
  pub pages : new.pages ≡ old.pages + first.pages
  pub every : new.every ≡ (if old.every == 0 then first.every else old.every)
  pub one : (first.every ≡ 0) ⊎ (first.every ≡ new.every)

-- one more file is opened, or it has another sample, or the pages are too many
abbrev pub IsJoined : Opening → First → ℕ → Result Opening FleetFault → Type 0
IsJoined old first file (Ok new) = IsJoint old first new
IsJoined old first file (Err (OtherSample number)) = (number ≡ file) × (old.every ≢ 0) × (first.every ≢ 0) × (first.every ≢ old.every)
IsJoined old first file (Err TooManyPages) = 2 ^ 64 ≤ old.pages + first.pages
IsJoined old first file (Err (Line number fault)) = ⊥
IsJoined old first file (Err (Read number error)) = ⊥
IsJoined old first file (Err OutOfMemory) = ⊥
IsJoined old first file (Err TooManyDigests) = ⊥

-- all files are opened, or the first other sample is reported, or the pages are too many
abbrev pub IsOpen : List (List Row) → ℕ → List Entry → List (Option Said) → List ℕ → List FleetGuest → Result Opening FleetFault → Type 0
IsOpen fleet turn leaves rows_left zeros guests (Ok opening) = IsOpenTo fleet turn leaves rows_left zeros guests opening
IsOpen fleet turn leaves rows_left zeros guests (Err (OtherSample number)) = IsOther fleet number
IsOpen fleet turn leaves rows_left zeros guests (Err TooManyPages) = 2 ^ 64 ≤ sum_by pages_of fleet
IsOpen fleet turn leaves rows_left zeros guests (Err (Line number fault)) = Unit {0}
IsOpen fleet turn leaves rows_left zeros guests (Err (Read number error)) = Unit {0}
IsOpen fleet turn leaves rows_left zeros guests (Err OutOfMemory) = Unit {0}
IsOpen fleet turn leaves rows_left zeros guests (Err TooManyDigests) = ⊥
