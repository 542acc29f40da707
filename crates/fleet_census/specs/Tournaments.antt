-- A tournament: which of many files has the least digest next.
use Rattle.std.specs.Prelude.{◌≡◌, ◌≢◌, ℕ, ◌+◌, ◌*◌, ◌^◌, ◌<◌, ◌≤◌, nat_lt, if◌then◌else◌, List, drop, length, slice_index_or}
use Rattle.fleet_census.specs.declared.entry.Entry.{Entry}

-- Entries go by digest, and those of equal digests by file.
abbrev pub key : Entry → ℕ
key entry = entry.digest * 2 ^ 32 + entry.file

abbrev pub lesser : Entry → Entry → Entry
lesser a b = if nat_lt (key b) (key a) then b else a

-- what stands behind the end of a list
abbrev pub nothing : Entry
nothing = record { digest = 0; copies = 0; file = 0 }

-- the entry with this number
abbrev pub entry_at : List Entry → ℕ → Entry
entry_at entries n = slice_index_or entries n nothing

-- winner n is the lesser of the entries 2n and 2n + 1
abbrev pub IsWon : List Entry → ℕ → Type 0
IsWon entries n = entry_at entries n ≡ lesser (entry_at entries (2 * n)) (entry_at entries (2 * n + 1))

-- all winners are right
pub record AreWon (files : ℕ) (entries : List Entry) : Type 0 where
  pub each : (n : ℕ) → 1 ≤ n → n < files → IsWon entries n

-- all winners but perhaps one
pub record AreWonBut (but files : ℕ) (entries : List Entry) : Type 0 where
  pub each : (n : ℕ) → 1 ≤ n → n < files → n ≢ but → IsWon entries n

-- the entries of the files
abbrev pub leaves : ℕ → List Entry → List Entry
leaves files entries = drop files entries

-- the entry is one of these, and none of them comes before it
pub record IsFirst (leaves : List Entry) (entry : Entry) : Type 0 where
  pub file : ℕ
  pub within : file < length leaves
  pub is : entry_at leaves file ≡ entry
  pub least : (n : ℕ) → n < length leaves → key entry ≤ key (entry_at leaves n)
