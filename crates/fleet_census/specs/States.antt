-- How far files were read.
use Rattle.std.specs.Prelude.{◌≡◌, ℕ, ◌+◌, ◌^◌, ◌<◌, ◌≤◌, ◌⊎◌, ◌==◌, nat_lt, if◌then◌else◌, List, [], ◌∷◌, ◌++◌, length, slice_index, slice_index_or, slice_set, Option, Some, None, Result, Ok, Err, IfSome}
use Rattle.guest_digests.specs.Counted.{listed_copies}
use Rattle.guest_digests.specs.declared.line.DigestLine.{DigestLine}
use Rattle.digest_text.specs.Fields.{Row}
use Rattle.digest_text.specs.Rows.{◌>>=◌}
use Rattle.digest_text.specs.declared.fault.LineFault.{LineFault}
use Rattle.digest_text.specs.declared.head.DigestHead.{DigestHead}
use Rattle.fleet_census.specs.Fleets.{copies_of, lines_of}
use Rattle.fleet_census.specs.Tournaments.{entry_at}
use Rattle.fleet_census.specs.declared.content.Holder.{Holder}
use Rattle.fleet_census.specs.declared.entry.Entry.{Entry}
use Rattle.fleet_census.specs.declared.entry.TheConstants.{AT_END, NO_FILE}
use Rattle.fleet_census.specs.declared.fault.FleetFault.{FleetFault}
use Rattle.fleet_census.specs.declared.fault.FleetFault.TheVariants.{OutOfMemory, TooManyDigests, TooManyPages, OtherSample, Read, Line}

-- what a file says: its rows, or its first fault
abbrev pub Said : Type 0
Said = Result (List Row) LineFault

-- the lines rise from this digest on, and each has a copy at least
abbrev pub From : ℕ → List DigestLine → Type 0
From low [] = Unit {0}
From low (line ∷ lines) = (low ≤ line.digest) × (1 ≤ line.copies) × From (line.digest + 1) lines

-- Of a file's lines these are left: all that list digests from this one on.
pub record IsLeft (lines : List DigestLine) (bound : ℕ) (left : List DigestLine) : Type 0 where
  pub same : (digest : ℕ) → bound ≤ digest → listed_copies digest lines ≡ listed_copies digest left
  pub from : From bound left

-- the line that an entry stands for, before those that weren't read
abbrev pub lines_left : Entry → List DigestLine → List DigestLine
lines_left entry lines = if entry.file == NO_FILE then lines else record { digest = entry.digest; copies = entry.copies } ∷ lines

-- an entry of this file
abbrev pub IsOwn : ℕ → Entry → Type 0
IsOwn file entry = (entry ≡ AT_END) ⊎ ((entry.file ≡ file) × (entry.digest < 2 ^ 128))

pub record AreOwn (leaves : List Entry) : Type 0 where
  pub each : (file : ℕ) → file < length leaves → IsOwn file (entry_at leaves file)

-- What a file says are the rows that were read, and then those that are left.
pub record IsChained (said : Said) (rows_left : Option Said) : Type 0 where
  pub done : List Row
  pub left : Said
  pub is : rows_left ≡ Some left
  pub whole : said ≡ (left >>= λ rest. Ok (done ++ rest))

-- The same of each file. Of as many of them as are opened the next line was read; one without a next line has no rows left.
pub record AreChained (files : List Said) (opened : ℕ) (leaves : List Entry) (rows_left : List (Option Said)) : Type 0 where
  pub each : (file : ℕ) → file < length files → IsChained (slice_index_or files file (Ok [])) (slice_index_or rows_left file None)
  pub ended : (file : ℕ) → file < opened → (entry_at leaves file).file ≡ NO_FILE → slice_index_or rows_left file None ≡ Some (Ok [])

-- Of a file's rows some are yet to be read, and these are what is left from a bound on.
pub record IsUnread (rows : List Row) (bound : ℕ) (rows_left : Option Said) : Type 0 where
  pub rest : List Row
  pub is : rows_left ≡ Some (Ok rest)
  pub left : IsLeft (lines_of rows) bound (lines_of rest)

-- the same where the entry was read, too
pub record IsBehind (rows : List Row) (bound : ℕ) (entry : Entry) (rows_left : Option Said) : Type 0 where
  pub rest : List Row
  pub is : rows_left ≡ Some (Ok rest)
  pub at_end : entry.file ≡ NO_FILE → rest ≡ []
  pub left : IsLeft (lines_of rows) bound (lines_left entry (lines_of rest))

-- the same of each file
pub record AreBehind (fleet : List (List Row)) (bound : ℕ → ℕ) (leaves : List Entry) (rows_left : List (Option Said)) : Type 0 where
  pub each : (file : ℕ) → file < length fleet
      → IsBehind (slice_index_or fleet file []) (bound file) (entry_at leaves file) (slice_index_or rows_left file None)

-- a fault is that of the file that it names
abbrev pub IsFaultOf : List Said → FleetFault → Type 0
IsFaultOf files (Line number fault) = (number < length files) × (slice_index_or files number (Ok []) ≡ Err fault)
IsFaultOf files (Read number error) = Unit {0}
IsFaultOf files OutOfMemory = Unit {0}
IsFaultOf files TooManyDigests = ⊥
IsFaultOf files TooManyPages = Unit {0}
IsFaultOf files (OtherSample number) = Unit {0}

-- it isn't the number of pages, nor the samples
abbrev pub IsNoOther : FleetFault → Type 0
IsNoOther (Line number fault) = Unit {0}
IsNoOther (Read number error) = Unit {0}
IsNoOther OutOfMemory = Unit {0}
IsNoOther TooManyDigests = ⊥
IsNoOther TooManyPages = ⊥
IsNoOther (OtherSample number) = ⊥

-- the files before this one were read beyond a digest, and the others up to it
abbrev pub passed : ℕ → ℕ → ℕ → ℕ
passed digest files file = if nat_lt file files then digest + 1 else digest

-- what was left begins with the line that the entry stands for
pub record IsLineOf (file : ℕ) (said left : Said) (entry : Entry) : Type 0 where
  pub head : DigestHead
  pub own : entry.file ≡ file
  pub rows_are : said ≡ (left >>= λ more. Ok (record { head = head; line = record { digest = entry.digest; copies = entry.copies } } ∷ more))

-- The next line of a file was read into an entry, or its end; or a fault is reported, with the file's number.
abbrev pub IsRead : ℕ → Said → Option Said → Result Entry FleetFault → Type 0
IsRead file said None result = ⊥
IsRead file said (Some left) (Ok entry) = ((entry ≡ AT_END) × (said ≡ Ok []) × (left ≡ Ok [])) ⊎ IsLineOf file said left entry
IsRead file said (Some left) (Err (Line number fault)) = (number ≡ file) × (said ≡ Err fault)
IsRead file said (Some left) (Err (Read number error)) = Unit {0}
IsRead file said (Some left) (Err OutOfMemory) = Unit {0}
IsRead file said (Some left) (Err TooManyDigests) = ⊥
IsRead file said (Some left) (Err TooManyPages) = ⊥
IsRead file said (Some left) (Err (OtherSample number)) = ⊥

-- one file was read on, and the others stay
pub record IsReadOn (file : ℕ) (before after : List (Option Said)) (result : Result Entry FleetFault) : Type 0 where
  pub now : Option Said
  pub others : after ≡ slice_set before file now
  pub next : IfSome (slice_index_or before file None) (λ said. IsRead file said now result)

-- no file from one to another lists the digest
pub record NoneBetween (fleet : List (List Row)) (digest from to : ℕ) : Type 0 where
  pub each : (file : ℕ) → from ≤ file → file < to → copies_of digest (slice_index_or fleet file []) ≡ 0

-- The first of the files from `count` on that lists a digest was found and read on.
pub record IsNextHolder (fleet : List (List Row)) (digest count : ℕ) (zeros : List ℕ) (leaves : List Entry) (rows_left : List (Option Said))
    (holder : Holder) : Type 0 where
  pub later : count ≤ holder.file
  pub within : holder.file < length fleet
  pub before : NoneBetween fleet digest count holder.file
  pub some : 1 ≤ holder.copies
  pub copies : holder.copies ≡ copies_of digest (slice_index_or fleet holder.file [])
  pub zero : holder.zero ≡ (if digest == slice_index zeros holder.file then holder.copies else 0)
  pub behind : AreBehind fleet (passed digest (holder.file + 1)) leaves rows_left

-- no file from `count` on lists it
pub record IsLastHolder (fleet : List (List Row)) (digest count : ℕ) (leaves : List Entry) (rows_left : List (Option Said)) : Type 0 where
  pub after : NoneBetween fleet digest count (length fleet)
  pub behind : AreBehind fleet (passed digest (length fleet)) leaves rows_left

abbrev pub IsTaken : List (List Row) → ℕ → ℕ → List ℕ → List Entry → List (Option Said) → Result (Option Holder) FleetFault → Type 0
IsTaken fleet digest count zeros leaves rows_left (Ok (Some holder)) = IsNextHolder fleet digest count zeros leaves rows_left holder
IsTaken fleet digest count zeros leaves rows_left (Ok None) = IsLastHolder fleet digest count leaves rows_left
IsTaken fleet digest count zeros leaves rows_left (Err fault) = IsNoOther fault

-- What files say was read on, or the fault of one of them is reported.
abbrev pub AreReadOn : {T : Type 0} → List Said → ℕ → List Entry → List (Option Said) → Result T FleetFault → Type 0
AreReadOn files opened leaves rows_left (Ok x) = AreChained files opened leaves rows_left
AreReadOn files opened leaves rows_left (Err fault) = IsFaultOf files fault

-- no file is at fault
pub record IsSound (said : Said) : Type 0 where
  pub rows : List Row
  pub is : said ≡ Ok rows

pub record AreSound (files : List Said) : Type 0 where
  pub each : (file : ℕ) → file < length files → IsSound (slice_index_or files file (Ok []))

-- all that the files say was read, or the fault of one of them is reported
abbrev pub IsReadWhole : {T : Type 0} → List Said → Result T FleetFault → Type 0
IsReadWhole files (Ok x) = AreSound files
IsReadWhole files (Err fault) = IsFaultOf files fault
