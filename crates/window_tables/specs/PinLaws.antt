-- What tables of transfers are worth, and counts of pins.
use Rattle.std.specs.Prelude.{◌≡◌, ℕ, ◌+◌, ◌<◌, ◌≤◌, ◌^◌, Bool, true, false, ◌&&◌, nat_eq, nat_le, nat_lt, if◌then◌else◌, List, [], ◌∷◌, length, slice_index_or}
use Rattle.std.specs.List.{count_by, list_any}
use Rattle.window_tables.specs.declared.pins.transfers.Transfer.{Transfer}
use Rattle.window_tables.specs.Transfers.{elsewhere_begun, elsewhere_ended, first_free, is_taken, meets, no_transfer, transfer_of, with_begun, with_ended}
use Rattle.window_tables.specs.Pins.{can_pin, can_unpin, pinned, unpinned}

-- a table of transfers, and how many are elsewhere
pub record Transfers : Type 0 where
  pub table : List Transfer
  pub elsewhere : ℕ

abbrev pub begun : Transfers → ℕ → ℕ → Transfers
begun w begin end = record { table = with_begun begin end w.table; elsewhere = elsewhere_begun w.table w.elsewhere }

abbrev pub ended : Transfers → ℕ → Transfers
ended w place = record { table = with_ended place w.table; elsewhere = elsewhere_ended place w.table w.elsewhere }

-- a transfer begins, or the one at a place ends
pub data Call : Type 0 where
  begins : ℕ → ℕ → Call
  ends : ℕ → Call

abbrev pub moved : Transfers → Call → Transfers
moved w (begins begin end) = begun w begin end
moved w (ends place) = ended w place

abbrev pub after : Transfers → List Call → Transfers
after w [] = w
after w (c ∷ cs) = after (moved w c) cs

abbrev pub is_end_of : ℕ → Call → Bool
is_end_of place (begins begin end) = false
is_end_of place (ends other) = nat_eq place other

-- A transfer that got a place is under way until it ends, whatever others begin and end meanwhile.
abbrev pub StaysUnderWay : Type 0
StaysUnderWay =
    (w : Transfers) (begin end : ℕ) → first_free w.table < length w.table → (calls : List Call) → list_any (is_end_of (first_free w.table)) calls ≡ false →
    (from to : ℕ) → meets from to (transfer_of begin end) ≡ true → list_any (meets from to) (after (begun w begin end) calls).table ≡ true

-- how many transfers that have a place are under way of these bytes
abbrev pub met : ℕ → ℕ → List Transfer → ℕ
met from to ts = count_by (meets from to) ts

-- By a transfer that begins one more is under way, if it got a place. By one that ends it is one less. All others stay as they are.
abbrev pub BegunMeets : Type 0
BegunMeets =
    (w : Transfers) (begin end : ℕ) → first_free w.table < length w.table → (from to : ℕ) →
    met from to (begun w begin end).table ≡ met from to w.table + (if meets from to (transfer_of begin end) then 1 else 0)

abbrev pub BegunNowhere : Type 0
BegunNowhere =
    (w : Transfers) (begin end : ℕ) → length w.table ≤ first_free w.table → (begun w begin end).table ≡ w.table

abbrev pub EndedMeets : Type 0
EndedMeets =
    (w : Transfers) (place from to : ℕ) →
    met from to (ended w place).table + (if meets from to (slice_index_or w.table place no_transfer) then 1 else 0) ≡ met from to w.table

-- how many are under way
abbrev pub under_way : Transfers → ℕ
under_way w = count_by is_taken w.table + w.elsewhere

-- a list without the first of these numbers
abbrev pub without : ℕ → List ℕ → List ℕ
without n [] = []
without n (m ∷ ms) = if nat_eq n m then ms else m ∷ without n ms

-- Each transfer that ends is one that began and hasn't ended. `places`: where those are.
abbrev pub are_paired : Transfers → List ℕ → List Call → Bool
are_paired w places [] = true
are_paired w places (begins begin end ∷ calls) = are_paired (begun w begin end) (first_free w.table ∷ places) calls
are_paired w places (ends place ∷ calls) = list_any (nat_eq place) places && are_paired (ended w place) (without place places) calls

abbrev pub is_begin : Call → Bool
is_begin (begins begin end) = true
is_begin (ends place) = false

abbrev pub is_end : Call → Bool
is_end (begins begin end) = false
is_end (ends place) = true

-- As many are under way as began, less those that ended.
abbrev pub AllCounted : Type 0
AllCounted =
    (w : Transfers) → under_way w ≡ 0 → (calls : List Call) → are_paired w [] calls ≡ true → length calls < 2 ^ 64 →
    under_way (after w calls) + count_by is_end calls ≡ count_by is_begin calls

-- how many of the calls begin a transfer at a place, and how many end one there
abbrev pub begun_there : Transfers → List Call → ℕ
begun_there w [] = 0
begun_there w (begins begin end ∷ calls) = (if nat_lt (first_free w.table) (length w.table) then 1 else 0) + begun_there (begun w begin end) calls
begun_there w (ends place ∷ calls) = begun_there (ended w place) calls

abbrev pub ended_there : Transfers → List Call → ℕ
ended_there w [] = 0
ended_there w (begins begin end ∷ calls) = ended_there (begun w begin end) calls
ended_there w (ends place ∷ calls) = (if nat_lt place (length w.table) then 1 else 0) + ended_there (ended w place) calls

-- As many have a place as got one, less those that ended there.
abbrev pub ThereCounted : Type 0
ThereCounted =
    (w : Transfers) → under_way w ≡ 0 → (calls : List Call) → are_paired w [] calls ≡ true → length calls < 2 ^ 64 →
    count_by is_taken (after w calls).table + ended_there w calls ≡ begun_there w calls

-- where those are that haven't ended after these calls
abbrev pub places_after : Transfers → List ℕ → List Call → List ℕ
places_after w places [] = places
places_after w places (begins begin end ∷ calls) = places_after (begun w begin end) (first_free w.table ∷ places) calls
places_after w places (ends place ∷ calls) = places_after (ended w place) (without place places) calls

-- Each that got no place, and hasn't ended, is counted as one that is elsewhere.
abbrev pub ElsewhereCounted : Type 0
ElsewhereCounted =
    (w : Transfers) → under_way w ≡ 0 → (calls : List Call) → are_paired w [] calls ≡ true → length calls < 2 ^ 64 →
    count_by (nat_le (length (after w calls).table)) (places_after w [] calls) ≤ (after w calls).elsewhere

-- pages are pinned, or unpinned
pub data Pinning : Type 0 where
  pins : ℕ → ℕ → Pinning
  unpins : ℕ → ℕ → Pinning

abbrev pub changed : List ℕ → Pinning → List ℕ
changed ns (pins from count) = if can_pin from count ns then pinned from count ns else ns
changed ns (unpins from count) = if can_unpin from count ns then unpinned from count ns else ns

abbrev pub counts_after : List ℕ → List Pinning → List ℕ
counts_after ns [] = ns
counts_after ns (c ∷ cs) = counts_after (changed ns c) cs

-- the page is one of these
abbrev pub is_in : ℕ → ℕ → ℕ → Bool
is_in from count page = nat_le from page && nat_lt page (from + count)

-- the call pins the page; it unpins the page
abbrev pub does_pin : ℕ → List ℕ → Pinning → Bool
does_pin page ns (pins from count) = can_pin from count ns && is_in from count page
does_pin page ns (unpins from count) = false

abbrev pub does_unpin : ℕ → List ℕ → Pinning → Bool
does_unpin page ns (pins from count) = false
does_unpin page ns (unpins from count) = can_unpin from count ns && is_in from count page

-- how many of the calls do
abbrev pub times_pinned : ℕ → List ℕ → List Pinning → ℕ
times_pinned page ns [] = 0
times_pinned page ns (c ∷ cs) = (if does_pin page ns c then 1 else 0) + times_pinned page (changed ns c) cs

abbrev pub times_unpinned : ℕ → List ℕ → List Pinning → ℕ
times_unpinned page ns [] = 0
times_unpinned page ns (c ∷ cs) = (if does_unpin page ns c then 1 else 0) + times_unpinned page (changed ns c) cs

-- A page's count is the number of pins less that of unpins.
abbrev pub PinsCounted : Type 0
PinsCounted =
    (ns : List ℕ) (calls : List Pinning) (page : ℕ) →
    slice_index_or (counts_after ns calls) page 0 + times_unpinned page ns calls ≡ slice_index_or ns page 0 + times_pinned page ns calls
