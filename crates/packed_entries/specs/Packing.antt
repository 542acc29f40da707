-- A packed entry: two big-endian words of 64 bits, whose fields are listed from the most significant bit down.
use Rattle.std.specs.Prelude.{ℕ, ◌+◌, ◌*◌, ◌/◌, ◌%◌, ◌^◌, List, ◌++◌, take, drop, Option}
use Rattle.std.specs.Prelude.{Some, None, if◌then◌else◌, ◌==◌, nat_lt, Bool, not, false}
use Rattle.std.specs.Int.{w64, to_be_bytes, from_be_bytes}
use Rattle.packed_entries.specs.declared.entry.Entry.{Entry}
use Rattle.packed_entries.specs.declared.entry.Entry.TheVariants.{Shared, Hint}
use Rattle.packed_entries.specs.declared.packed.Packed.{Packed}

-- the word of an MPN of 24 bits, a count of 16, a link of 23 and a tag of 1
abbrev pub tail_word : ℕ → ℕ → ℕ → ℕ → ℕ
tail_word mpn count link tag = ((mpn * 2 ^ 16 + count) * 2 ^ 23 + link) * 2 + tag

-- the word of a truncated hash of 32 bits, a guest of 8 and a PPN of 24
abbrev pub hint_word : ℕ → ℕ → ℕ → ℕ
hint_word key guest ppn = (key * 2 ^ 8 + guest) * 2 ^ 24 + ppn

-- the first word: that of a shared frame's entry is its hash
abbrev pub first_word : Entry → ℕ
first_word (Shared hash mpn count) = hash
first_word (Hint key guest ppn mpn) = hint_word key guest ppn

-- the second word: the entry of a shared frame has tag 1, that of a hint frame count 0 and tag 0
abbrev pub second_word : Entry → ℕ → ℕ
second_word (Shared hash mpn count) link = tail_word mpn count link 1
second_word (Hint key guest ppn mpn) link = tail_word mpn 0 link 0

-- the entry of a shared frame, if its numbers fit
abbrev pub packed_shared : ℕ → ℕ → ℕ → ℕ → Option Packed
packed_shared hash mpn count link =
    if nat_lt mpn (2 ^ 24)
    then (if nat_lt link (2 ^ 23) then Some (record { entry = Shared hash mpn count; link = link }) else None)
    else None

-- the entry of a hint frame, if its numbers fit
abbrev pub packed_hint : ℕ → ℕ → ℕ → ℕ → ℕ → Option Packed
packed_hint key guest ppn mpn link =
    if nat_lt ppn (2 ^ 24)
    then (if nat_lt mpn (2 ^ 24)
    then (if nat_lt link (2 ^ 23) then Some (record { entry = Hint key guest ppn mpn; link = link }) else None)
    else None)
    else None

-- the bytes of a packed entry
abbrev pub packed_bytes : Packed → List ℕ
packed_bytes p = to_be_bytes w64 (first_word p.entry) ++ to_be_bytes w64 (second_word p.entry p.link)

-- the field of `width` bits of a word, with `low` bits below it
abbrev pub bits_of : ℕ → ℕ → ℕ → ℕ
bits_of word low width = word / 2 ^ low % 2 ^ width

-- the entry in two words: none if the tag is 0 and the count isn't
abbrev pub entry_of_words : ℕ → ℕ → Option Entry
entry_of_words first second =
    if bits_of second 0 1 == 1
    then Some (Shared first (bits_of second 40 24) (bits_of second 24 16))
    else (if bits_of second 24 16 == 0
    then Some (Hint (bits_of first 32 32) (bits_of first 24 8) (bits_of first 0 24) (bits_of second 40 24))
    else None)

abbrev pub linked_entry : Option Entry → ℕ → Option Packed
linked_entry None link = None
linked_entry (Some entry) link = Some (record { entry = entry; link = link })

abbrev pub unpacked_words : ℕ → ℕ → Option Packed
unpacked_words first second = linked_entry (entry_of_words first second) (bits_of second 1 23)

-- the word that begins at a place of the bytes
abbrev pub word_at : List ℕ → ℕ → ℕ
word_at bytes at = from_be_bytes w64 (take 8 (drop at bytes))

-- the packed entry in 16 bytes
abbrev pub unpacked : List ℕ → Option Packed
unpacked bytes = unpacked_words (word_at bytes 0) (word_at bytes 8)

-- the tag is 0 and the count isn't
abbrev pub is_refused : List ℕ → Bool
is_refused bytes =
    if bits_of (word_at bytes 8) 0 1 == 0 then not (bits_of (word_at bytes 8) 24 16 == 0) else false
