-- What bytes of a host say, and the first fault of those that say nothing.
use Rattle.std.specs.Prelude.{ℕ, Bool, List, length, map, take, drop, Option, Some, None, Result, Ok, Err, nat_lt, not, ◌==◌, if◌then◌else◌}
use Rattle.std.specs.List.{list_any}
use Rattle.host_messages.specs.declared.limits.TheConstants.{VERSION, HEAD_BYTES, NAME_BYTES, WELCOME, SEEN, LOANS}
use Rattle.host_messages.specs.declared.fault.MessageFault.{MessageFault}
use Rattle.host_messages.specs.declared.fault.MessageFault.TheVariants as fault
use Rattle.host_messages.specs.declared.host.HostMessage.{HostMessage}
use Rattle.host_messages.specs.declared.host.HostMessage.TheVariants as host
use Rattle.host_messages.specs.Reading.{u32_at, lent_at, items_at, count_fault, unless}

-- what follows the head of each kind
unfoldable pub welcome_of : ℕ → List ℕ → Result HostMessage MessageFault
welcome_of version rest =
    if not (version == VERSION) then Err fault.Version
    else if not (length rest == 32) then Err fault.Length
    else Ok (host.Welcome (record { name = take NAME_BYTES rest; frames = u32_at 16 rest; salt = u32_at 20 rest; most = u32_at 24 rest; client_cpu = u32_at 28 rest }))

-- the byte is no answer
abbrev pub is_no_answer : ℕ → Bool
is_no_answer byte = nat_lt 1 byte

abbrev pub answer_of : ℕ → Bool
answer_of byte = byte == 1

-- the answers, unless one of them is none
abbrev pub answers_of : List ℕ → Result HostMessage MessageFault
answers_of rest = if list_any is_no_answer rest then Err fault.Answer else Ok (host.Seen (record { items = map answer_of rest }))

abbrev pub unless_at : Option MessageFault → Result HostMessage MessageFault → Result HostMessage MessageFault
unless_at None read = read
unless_at (Some fault) read = Err fault

unfoldable pub seen_of : ℕ → List ℕ → Result HostMessage MessageFault
seen_of count rest = unless_at (count_fault 1 count (length rest)) (answers_of rest)

unfoldable pub loans_of : ℕ → List ℕ → Result HostMessage MessageFault
loans_of count rest = unless (count_fault 16 count (length rest)) (host.Loans (record { items = items_at 16 lent_at count rest }))

abbrev pub host_of : ℕ → ℕ → List ℕ → Result HostMessage MessageFault
host_of kind number rest =
    if kind == WELCOME then welcome_of number rest
    else if kind == SEEN then seen_of number rest
    else if kind == LOANS then loans_of number rest
    else Err fault.Kind

-- a host's message
unfoldable pub host_at : List ℕ → Result HostMessage MessageFault
host_at bytes = if nat_lt (length bytes) HEAD_BYTES then Err fault.Head else host_of (u32_at 0 bytes) (u32_at 4 bytes) (drop HEAD_BYTES bytes)
