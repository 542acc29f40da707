-- Faults of files.
use Rattle.std.specs.Prelude.{◌≡◌, ℕ, List, slice_index_or, Option, Some, None}
use Rattle.std.specs.declared.io.Error.{Error}
use Rattle.digest_text.specs.declared.read_fault.ReadFault.{ReadFault}
use Rattle.digest_text.specs.declared.read_fault.ReadFault.TheVariants as reads
use Rattle.fleet_census.specs.declared.fault.FleetFault.{FleetFault}
use Rattle.fleet_census.specs.declared.fault.FleetFault.TheVariants as faults

-- the file at fault
abbrev pub file_of : FleetFault → Option ℕ
file_of faults.OutOfMemory = None
file_of faults.TooManyDigests = None
file_of faults.TooManyPages = None
file_of (faults.OtherSample file) = Some file
file_of (faults.Read file error) = Some file
file_of (faults.Line file line) = Some file

-- a fault of a file's reader, with the file's number
abbrev pub fault_of : ℕ → ReadFault → FleetFault
fault_of file reads.OutOfMemory = FleetFault.OutOfMemory
fault_of file (reads.Read error) = FleetFault.Read file error
fault_of file (reads.Line line) = FleetFault.Line file line

-- A read that failed is reported with the number of a file whose reader noted that error.
abbrev pub HasFailed : List (Option Error) → FleetFault → Type 0
HasFailed failures faults.OutOfMemory = Unit {0}
HasFailed failures faults.TooManyDigests = Unit {0}
HasFailed failures faults.TooManyPages = Unit {0}
HasFailed failures (faults.OtherSample file) = Unit {0}
HasFailed failures (faults.Read file error) = slice_index_or failures file None ≡ Some error
HasFailed failures (faults.Line file line) = Unit {0}

-- the same of one file, whose reader noted this
abbrev pub IsFailureOf : ℕ → Option Error → FleetFault → Type 0
IsFailureOf file failure faults.OutOfMemory = Unit {0}
IsFailureOf file failure faults.TooManyDigests = Unit {0}
IsFailureOf file failure faults.TooManyPages = Unit {0}
IsFailureOf file failure (faults.OtherSample number) = Unit {0}
IsFailureOf file failure (faults.Read number error) = (number ≡ file) × (failure ≡ Some error)
IsFailureOf file failure (faults.Line number line) = Unit {0}
