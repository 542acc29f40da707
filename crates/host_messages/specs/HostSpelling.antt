-- The bytes of each message of a host.
use Rattle.std.specs.Prelude.{◌≡◌, ℕ, ◌≤◌, Bool, true, false, List, ◌++◌, length, map}
use Rattle.std.specs.Int.{w32, to_le_bytes}
use Rattle.std.specs.List.{flat_map, AllByRecursion}
use Rattle.host_messages.specs.declared.limits.TheConstants.{VERSION, MAX_IN_MESSAGE, NAME_BYTES, WELCOME, SEEN, LOANS}
use Rattle.host_messages.specs.declared.host.Welcome.{Welcome}
use Rattle.host_messages.specs.declared.host.HostMessage.{HostMessage}
use Rattle.host_messages.specs.declared.host.HostMessage.TheVariants as host
use Rattle.host_messages.specs.Spelling.{head, lent_bytes, FitsU32, LentFits}

-- an answer to a question
abbrev pub answer_byte : Bool → ℕ
answer_byte true = 1
answer_byte false = 0

abbrev pub welcome_bytes : Welcome → List ℕ
welcome_bytes w = w.name ++ to_le_bytes w32 w.frames ++ to_le_bytes w32 w.salt ++ to_le_bytes w32 w.most ++ to_le_bytes w32 w.client_cpu

-- a host's message
abbrev pub host_bytes : HostMessage → List ℕ
host_bytes (host.Welcome welcome) = head WELCOME VERSION ++ welcome_bytes welcome
host_bytes (host.Seen answers) = head SEEN (length answers.items) ++ map answer_byte answers.items
host_bytes (host.Loans loans) = head LOANS (length loans.items) ++ flat_map lent_bytes loans.items

pub record WelcomeFits (w : Welcome) : Type 0 where
  pub name : length w.name ≡ NAME_BYTES
  pub frames : FitsU32 w.frames
  pub salt : FitsU32 w.salt
  pub most : FitsU32 w.most
  pub client_cpu : FitsU32 w.client_cpu

-- a host's message within the limits
abbrev pub HostFits : HostMessage → Type 0
HostFits (host.Welcome welcome) = WelcomeFits welcome
HostFits (host.Seen answers) = length answers.items ≤ MAX_IN_MESSAGE
HostFits (host.Loans loans) = (length loans.items ≤ MAX_IN_MESSAGE) × AllByRecursion LentFits loans.items
