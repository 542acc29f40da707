-- Transfers that are under way.
use Rattle.std.specs.Prelude.{ℕ, ◌+◌, ◌-◌, ◌^◌, min, Bool, true, false, not, ◌&&◌, nat_lt, if◌then◌else◌, List, length, slice_index_or, slice_set}
use Rattle.std.specs.List.{position_or_len}
use Rattle.window_tables.specs.declared.pins.transfers.Transfer.{Transfer}

-- a transfer is at this place
abbrev pub is_taken : Transfer → Bool
is_taken t = t.is_there

-- none is
abbrev pub is_free : Transfer → Bool
is_free t = not t.is_there

-- the first free place, or the number of places
abbrev pub first_free : List Transfer → ℕ
first_free ts = position_or_len is_free ts

-- A transfer is under way of bytes between these two. One of no byte is of the place where it begins.
abbrev pub meets : ℕ → ℕ → Transfer → Bool
meets begin end t = t.is_there && (nat_lt begin t.end && nat_lt t.begin end)

abbrev pub transfer_of : ℕ → ℕ → Transfer
transfer_of begin end = record { begin = begin; end = end; is_there = true }

abbrev pub no_transfer : Transfer
no_transfer = record { begin = 0; end = 0; is_there = false }

-- a place once its transfer has ended
abbrev pub freed : Transfer → Transfer
freed t = record t { is_there = false }

-- with one more transfer, if there is a place for it
abbrev pub with_begun : ℕ → ℕ → List Transfer → List Transfer
with_begun begin end ts = slice_set ts (first_free ts) (transfer_of begin end)

-- without the transfer at this place, if there is such a place
abbrev pub with_ended : ℕ → List Transfer → List Transfer
with_ended place ts = slice_set ts place (freed (slice_index_or ts place no_transfer))

-- how many are elsewhere once one more has begun
abbrev pub elsewhere_begun : List Transfer → ℕ → ℕ
elsewhere_begun ts elsewhere = if nat_lt (first_free ts) (length ts) then elsewhere else min (elsewhere + 1) (2 ^ 64 - 1)

-- and once one has ended at this place
abbrev pub elsewhere_ended : ℕ → List Transfer → ℕ → ℕ
elsewhere_ended place ts elsewhere = if nat_lt place (length ts) then elsewhere else elsewhere - 1
