-- The notes on frames as a contract sees them.
use Rattle.std.specs.Prelude.{ℕ, ◌-◌, List, ◌++◌, Option, length, map, replicate, option_map}
use Rattle.std.specs.Int.{w64, from_le_bytes}
use Rattle.merge_core.specs.Pmap.{Known, unknown}
use Rattle.merge_core.specs.declared.notes.Note.{Note}

-- the hash of these little-endian bytes
abbrev pub code_of : Option (List ℕ) → Option ℕ
code_of bytes = option_map (from_le_bytes w64) bytes

abbrev pub known_of : Note → Known
known_of n = record { salt = n.salt; hash = code_of n.hash }

abbrev pub notes_in : List Note → List Known
notes_in notes = map known_of notes

-- the notes on this many frames: nothing is known of those past the list
abbrev pub notes_on : ℕ → List Note → List Known
notes_on frames notes = notes_in notes ++ replicate (frames - length notes) unknown
