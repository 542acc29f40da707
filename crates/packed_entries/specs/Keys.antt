-- What entries are found by.
use Rattle.std.specs.Prelude.{ℕ, ◌%◌, ◌^◌, Bool, false, ◌==◌, List, [], ◌∷◌, Option, Some, None, if◌then◌else◌}
use Rattle.packed_entries.specs.declared.key.Key.{Key}
use Rattle.packed_entries.specs.declared.key.Key.TheVariants as key
use Rattle.packed_entries.specs.declared.entry.Entry.{Entry}
use Rattle.packed_entries.specs.declared.entry.Entry.TheVariants.{Shared, Hint}

-- the low 32 bits of a hash, or a hint's key
abbrev pub truncated : Key → ℕ
truncated (key.Shared hash) = hash % 2 ^ 32
truncated (key.Hint number) = number

-- what an entry is found by
abbrev pub key_of : Entry → Key
key_of (Shared hash mpn count) = key.Shared hash
key_of (Hint number guest ppn mpn) = key.Hint number

-- whether an entry is found by a key
abbrev pub has_key : Key → Entry → Bool
has_key (key.Shared wanted) (Shared hash mpn count) = wanted == hash
has_key (key.Shared wanted) (Hint number guest ppn mpn) = false
has_key (key.Hint wanted) (Shared hash mpn count) = false
has_key (key.Hint wanted) (Hint number guest ppn mpn) = wanted == number

-- the first of these entries that is found by the key
abbrev pub first_with : Key → List Entry → Option Entry
first_with k [] = None
first_with k (e ∷ es) = if has_key k e then Some e else first_with k es

-- the entries, with another instead of the first that is found by the key
abbrev pub with_other : Key → Entry → List Entry → List Entry
with_other k new [] = []
with_other k new (e ∷ es) = if has_key k e then new ∷ es else e ∷ with_other k new es

-- the entries without the first that is found by the key
abbrev pub without_first : Key → List Entry → List Entry
without_first k [] = []
without_first k (e ∷ es) = if has_key k e then es else e ∷ without_first k es

-- the MPN and the count of a shared frame
abbrev pub shared_parts : Option Entry → Option (ℕ × ℕ)
shared_parts None = None
shared_parts (Some (Shared hash mpn count)) = Some (mpn, count)
shared_parts (Some (Hint number guest ppn mpn)) = None

-- the guest, the PPN and the MPN of a hint frame
abbrev pub hint_parts : Option Entry → Option (ℕ × ℕ × ℕ)
hint_parts None = None
hint_parts (Some (Shared hash mpn count)) = None
hint_parts (Some (Hint number guest ppn mpn)) = Some (guest, ppn, mpn)

-- the count in the field of an entry: 0 for that of a hint frame, or for no entry
abbrev pub field_in : Option Entry → ℕ
field_in None = 0
field_in (Some (Shared hash mpn count)) = count
field_in (Some (Hint number guest ppn mpn)) = 0
