-- What a machine notes of its clients, so that it finds a client's slots without a look at those before them.
use Rattle.std.specs.Prelude.{◌≡◌, ℕ, ◌+◌, ◌-◌, ◌<◌, ◌≤◌, ◌==◌, true, if◌then◌else◌, List, length, drop, Option, Some, None, nat_le, nat_lt}
use Rattle.std.specs.Prelude.{slice_set, slice_index_or}
use Rattle.std.specs.List.{position_from}
use Rattle.lent_slots.specs.declared.holding.Holding.{Holding}
use Rattle.lent_slots.specs.declared.holding.ClientSlots.{ClientSlots}
use Rattle.lent_slots.specs.Slots.{holding, is_of, held_by}

-- a client without slots
abbrev pub no_slots : ClientSlots
no_slots = record { count = 0; start = 0 }

-- what is noted of a client
abbrev pub noted_of : ℕ → List ClientSlots → ClientSlots
noted_of client clients = slice_index_or clients client no_slots

-- the client has no slot below this one
pub record NoneBelow (client start : ℕ) (slots : List (Option Holding)) : Type 0 where
  pub later : (ppn : ℕ) → is_of client (holding slots ppn) ≡ true → start ≤ ppn

-- what is noted of a client is so
pub record IsNoted (client : ℕ) (slots : List (Option Holding)) (noted : ClientSlots) : Type 0 where
  pub count : noted.count ≡ held_by client slots
  pub start : NoneBelow client noted.start slots

-- what is noted of each client is so
pub record AreNoted (slots : List (Option Holding)) (clients : List ClientSlots) : Type 0 where
  pub each : (client : ℕ) → client < length clients → IsNoted client slots (noted_of client clients)

-- the first place of a client that has one slot more
abbrev pub start_with : ℕ → ClientSlots → ℕ
start_with ppn noted = if noted.count == 0 then ppn else (if nat_le noted.start ppn then noted.start else ppn)

-- the same with one slot less
abbrev pub start_without : ℕ → ClientSlots → ℕ
start_without ppn noted = if noted.start == ppn then ppn + 1 else noted.start

-- the clients after a slot of one was lent, or released; a client that isn't noted changes nothing
abbrev pub with_more : ℕ → ℕ → List ClientSlots → List ClientSlots
with_more client ppn clients =
    let noted = noted_of client clients in
    slice_set clients client (record { count = noted.count + 1; start = start_with ppn noted })

abbrev pub with_less : ℕ → ℕ → List ClientSlots → List ClientSlots
with_less client ppn clients =
    let noted = noted_of client clients in
    slice_set clients client (record { count = noted.count - 1; start = start_without ppn noted })

-- the clients after one's first slot was found
abbrev pub with_start : ℕ → ℕ → List ClientSlots → List ClientSlots
with_start client ppn clients = slice_set clients client (record { count = (noted_of client clients).count; start = ppn })

-- where a client's first slot is sought from: nowhere, if it is noted that it has none
abbrev pub place_of : ℕ → List ClientSlots → Option ℕ
place_of client clients =
    if nat_lt client (length clients)
    then (if (noted_of client clients).count == 0 then None else Some (noted_of client clients).start)
    else Some 0

-- the first slot of a client from this one on
abbrev pub first_from : ℕ → ℕ → List (Option Holding) → Option ℕ
first_from client start slots = position_from (is_of client) start (drop start slots)
