-- A place in a list of packed entries: its entry and its link.
use Rattle.std.specs.Prelude.{ℕ, ◌-◌, ◌++◌, List, Option, Some, None, length, map, replicate}
use Rattle.packed_entries.specs.declared.entry.Entry.{Entry}
use Rattle.packed_entries.specs.declared.entry.Entry.TheVariants.{Hint}
use Rattle.packed_entries.specs.declared.packed.Packed.{Packed}
use Rattle.packed_entries.specs.Packing.{unpacked}

-- what is in a place where no entry was put yet
abbrev pub no_entry : Entry
no_entry = Hint 0 0 0 0

-- a place that is empty and has no link
abbrev pub empty_place : Packed
empty_place = record { entry = no_entry; link = 0 }

abbrev pub packed_or : Option Packed → Packed
packed_or None = empty_place
packed_or (Some p) = p

-- the packed entry in 16 bytes that can be read
abbrev pub packed_in : List ℕ → Packed
packed_in bytes = packed_or (unpacked bytes)

abbrev pub with_link : Packed → ℕ → Packed
with_link p link = record p { link = link }

abbrev pub with_entry : Packed → Entry → Packed
with_entry p entry = record p { entry = entry }

abbrev pub link_of : Packed → ℕ
link_of p = p.link

abbrev pub entry_of : Packed → Entry
entry_of p = p.entry

-- the entries of this many places: of those that were reached, and no entry in each of the others
abbrev pub entries_of : List Packed → ℕ → List Entry
entries_of packed capacity = map entry_of packed ++ replicate (capacity - length packed) no_entry
