-- Reads that failed.
use Rattle.std.proofs.Common.{◌≡◌, ◌∙◌, ℕ, ◌<◌, List, length, map, get_or, set, length-set, get_or-set_same, refl, ap}
use Rattle.std.proofs.lemmas.List.{get_or-map}
use Rattle.std.specs.Prelude.{Option, Some, None, Result, Ok, Err, IfErr}
use Rattle.std.specs.declared.io.Error.{Error}
use Rattle.digest_text.specs.Unread.{failure_after}
use Rattle.digest_text.specs.declared.read_fault.ReadFault.{ReadFault}
use Rattle.digest_text.specs.declared.read_fault.ReadFault.TheVariants as reads
use Rattle.fleet_census.specs.Faults.{HasFailed, IsFailureOf, fault_of}
use Rattle.fleet_census.specs.Openings.{IsJoined}
use Rattle.fleet_census.specs.declared.fault.FleetFault.{FleetFault}
use Rattle.fleet_census.specs.declared.fault.FleetFault.TheVariants.{OutOfMemory, TooManyDigests, TooManyPages, OtherSample, Read, Line}
use Rattle.fleet_census.specs.declared.first.First.{First}
use Rattle.fleet_census.specs.declared.open.Opening.{Opening}

-- a fault of a reader that noted it
pub noted : (file : ℕ) (fault : ReadFault) (before after : Option Error) (rows_left : FleetFault) → rows_left ≡ fault_of file fault → after ≡ failure_after before (Err fault)
    → IsFailureOf file after rows_left
noted file reads.OutOfMemory before after rows_left e is = rw e tt
noted file (reads.Read error) before after rows_left e is = rw e (refl, is)
noted file (reads.Line line) before after rows_left e is = rw e tt

failed_at : (failures : List (Option Error)) (file : ℕ) (failure : Option Error) → get_or failures file None ≡ failure → (fault : FleetFault) → IsFailureOf file failure fault
    → HasFailed failures fault
failed_at failures file failure at OutOfMemory is = tt
failed_at failures file failure at TooManyDigests is = tt
failed_at failures file failure at TooManyPages is = tt
failed_at failures file failure at (OtherSample number) is = tt
failed_at failures file failure at (Read number error) is = rw is.0 (at ∙ is.1)
failed_at failures file failure at (Line number line) is = tt

module _ {T : Type 0} (noted_by : T → Option Error) (readers : List T) (file : ℕ) (within : file < length readers) (d new : T) where
  here : get_or (map noted_by (set readers file new)) file None ≡ noted_by new
  here =
      let inside : file < length (set readers file new) = rw length-set within in
      get_or-map noted_by (set readers file new) file d None inside ∙ ap noted_by (get_or-set_same readers file new d within)

  -- one of the readers noted it
  pub failed_on : (fault : FleetFault) → IsFailureOf file (noted_by new) fault → HasFailed (map noted_by (set readers file new)) fault
  failed_on fault is = failed_at (map noted_by (set readers file new)) file (noted_by new) here fault is

-- where a file is joined no read fails
pub joined_failed : (failures : List (Option Error)) (opening : Opening) (first : First) (turn : ℕ) (result : Result Opening FleetFault) → IsJoined opening first turn result
    → IfErr result (HasFailed failures)
joined_failed failures opening first turn (Ok more) joined = tt
joined_failed failures opening first turn (Err OutOfMemory) joined = tt
joined_failed failures opening first turn (Err TooManyDigests) joined = tt
joined_failed failures opening first turn (Err TooManyPages) joined = tt
joined_failed failures opening first turn (Err (OtherSample number)) joined = tt
joined_failed failures opening first turn (Err (Read number error)) joined = absurd joined
joined_failed failures opening first turn (Err (Line number fault)) joined = tt
