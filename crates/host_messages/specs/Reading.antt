-- What bytes say, and the first fault of those that say nothing.
use Rattle.std.specs.Prelude.{ℕ, zero, suc, ◌*◌, ◌%◌, List, [], ◌∷◌, length, take, drop, Option, Some, None, Result, Ok, Err, nat_lt, not, ◌==◌, if◌then◌else◌}
use Rattle.std.specs.Int.{w32, w64, from_le_bytes}
use Rattle.host_messages.specs.declared.limits.TheConstants.{VERSION, MAX_IN_MESSAGE, HEAD_BYTES, NAME_BYTES, WANTED_BYTES, PASSING, HELLO, ASK, LEND, RELEASE}
use Rattle.host_messages.specs.declared.fault.MessageFault.{MessageFault}
use Rattle.host_messages.specs.declared.fault.MessageFault.TheVariants as fault
use Rattle.host_messages.specs.declared.item.Question.{Question}
use Rattle.host_messages.specs.declared.item.Lent.{Lent}
use Rattle.host_messages.specs.declared.client.ClientMessage.{ClientMessage}
use Rattle.host_messages.specs.declared.client.ClientMessage.TheVariants as client

-- the number in the four bytes from this place on, and in eight
abbrev pub u32_at : ℕ → List ℕ → ℕ
u32_at at bytes = from_le_bytes w32 (drop at bytes)

abbrev pub u64_at : ℕ → List ℕ → ℕ
u64_at at bytes = from_le_bytes w64 (drop at bytes)

abbrev pub question_at : List ℕ → Question
question_at bytes = record { page = u64_at 0 bytes % PASSING; fingerprint = u64_at 8 bytes; is_passing = not (nat_lt (u64_at 0 bytes) PASSING) }

abbrev pub slot_at : List ℕ → ℕ
slot_at bytes = u64_at 0 bytes

abbrev pub lent_at : List ℕ → Lent
lent_at bytes = record { slot = u64_at 0 bytes; frame = u32_at 8 bytes; sharers = u32_at 12 bytes }

-- so many items of this width
unfoldable pub items_at : {X : Type 0} → ℕ → (List ℕ → X) → ℕ → List ℕ → List X
items_at width item zero bytes = []
items_at width item (suc n) bytes = item (take width bytes) ∷ items_at width item n (drop width bytes)

-- what is wrong with so many items of this width in so many bytes
abbrev pub count_fault : ℕ → ℕ → ℕ → Option MessageFault
count_fault width count len =
    if nat_lt MAX_IN_MESSAGE count then Some fault.Count else if len == count * width then None else Some fault.Length

abbrev pub unless : {M : Type 0} → Option MessageFault → M → Result M MessageFault
unless None message = Ok message
unless (Some fault) message = Err fault

-- what follows the head of each kind
unfoldable pub hello_of : ℕ → List ℕ → Result ClientMessage MessageFault
hello_of version rest =
    if not (version == VERSION) then Err fault.Version
    else if length rest == 0 then Ok (client.Hello None)
    else if not (length rest == WANTED_BYTES) then Err fault.Length
    else Ok (client.Hello (Some (record { name = take NAME_BYTES rest; loans = u64_at NAME_BYTES rest })))

unfoldable pub ask_of : ℕ → List ℕ → Result ClientMessage MessageFault
ask_of count rest = unless (count_fault 16 count (length rest)) (client.Ask (record { items = items_at 16 question_at count rest }))

unfoldable pub lend_of : ℕ → List ℕ → Result ClientMessage MessageFault
lend_of count rest = unless (count_fault 0 count (length rest)) (client.Lend count)

unfoldable pub release_of : ℕ → List ℕ → Result ClientMessage MessageFault
release_of count rest = unless (count_fault 8 count (length rest)) (client.Release (record { items = items_at 8 slot_at count rest }))

abbrev pub client_of : ℕ → ℕ → List ℕ → Result ClientMessage MessageFault
client_of kind number rest =
    if kind == HELLO then hello_of number rest
    else if kind == ASK then ask_of number rest
    else if kind == LEND then lend_of number rest
    else if kind == RELEASE then release_of number rest
    else Err fault.Kind

-- a client's message
unfoldable pub client_at : List ℕ → Result ClientMessage MessageFault
client_at bytes = if nat_lt (length bytes) HEAD_BYTES then Err fault.Head else client_of (u32_at 0 bytes) (u32_at 4 bytes) (drop HEAD_BYTES bytes)
