-- All that the files list of one digest.
use Rattle.std.specs.Prelude.{◌≡◌, ℕ, ◌+◌, ◌^◌, ◌<◌, ◌≤◌, nat_lt, List, count_by, length, slice_index, slice_index_or, sum_by, take, [], Option, Result, Ok, Err}
use Rattle.guest_digests.specs.Samples.{zeros_digest}
use Rattle.digest_text.specs.Fields.{Row}
use Rattle.fleet_census.specs.Fleets.{all_copies, content_of, copies_of, holder_of, salt_of, zero_of}
use Rattle.fleet_census.specs.Holders.{AreRising, found, no_holder}
use Rattle.fleet_census.specs.States.{AreBehind, Said, passed}
use Rattle.fleet_census.specs.declared.content.Content.{Content}
use Rattle.fleet_census.specs.declared.content.Holder.{Holder}
use Rattle.fleet_census.specs.declared.entry.Entry.{Entry}
use Rattle.fleet_census.specs.declared.fault.FleetFault.{FleetFault}
use Rattle.fleet_census.specs.declared.fault.FleetFault.TheVariants.{OutOfMemory, TooManyDigests, TooManyPages, OtherSample, Read, Line}

-- these are the digests of pages of zeros under the guests' salts
pub record AreZeros (fleet : List (List Row)) (zeros : List ℕ) : Type 0 where
  pub each : (file : ℕ) → file < length fleet → slice_index zeros file ≡ zeros_digest (salt_of (slice_index_or fleet file []))

-- all files that list a digest were found and read on
pub record AreGathered (fleet : List (List Row)) (digest : ℕ) (leaves : List Entry) (rows_left : List (Option Said)) (holders : List Holder)
    (content : Content) : Type 0 where
  pub is : content ≡ content_of fleet digest
  pub known : (file : ℕ) → file < length fleet → found file holders ≡ holder_of file digest (slice_index_or fleet file [])
  pub rising : AreRising holders
  pub behind : AreBehind fleet (λ file. digest + 1) leaves rows_left

abbrev pub IsGathered : List (List Row) → ℕ → List Entry → List (Option Said) → List Holder → Result Content FleetFault → Type 0
IsGathered fleet digest leaves rows_left holders (Ok content) = AreGathered fleet digest leaves rows_left holders content
IsGathered fleet digest leaves rows_left holders (Err TooManyPages) = 2 ^ 64 ≤ all_copies fleet digest
IsGathered fleet digest leaves rows_left holders (Err (Line number fault)) = Unit {0}
IsGathered fleet digest leaves rows_left holders (Err (Read number error)) = Unit {0}
IsGathered fleet digest leaves rows_left holders (Err OutOfMemory) = Unit {0}
IsGathered fleet digest leaves rows_left holders (Err TooManyDigests) = ⊥
IsGathered fleet digest leaves rows_left holders (Err (OtherSample number)) = ⊥

-- the same of the files before one of them, of which as many as were taken come before it
pub record IsSoFar (fleet : List (List Row)) (digest turn : ℕ) (leaves : List Entry) (rows_left : List (Option Said)) (holders : List Holder)
    (content : Content) : Type 0 where
  pub count : ℕ
  pub enough : turn ≤ count
  pub within : count ≤ length fleet
  pub behind : AreBehind fleet (passed digest count) leaves rows_left
  pub copies : content.copies ≡ sum_by (copies_of digest) (take count fleet)
  pub zero : content.zero ≡ sum_by (zero_of digest) (take count fleet)
  pub holders_are : content.holders ≡ count_by (λ rows. nat_lt 0 (copies_of digest rows)) (take count fleet)
  pub known : (file : ℕ) → file < count → found file holders ≡ holder_of file digest (slice_index_or fleet file [])
  pub below : (i : ℕ) → i < length holders → (slice_index_or holders i no_holder).file < count
  pub rising : AreRising holders
