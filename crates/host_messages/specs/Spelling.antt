-- The bytes of each message. All numbers are little endian.
use Rattle.std.specs.Prelude.{◌≡◌, ℕ, ◌+◌, ◌%◌, ◌≤◌, ◌<◌, ◌^◌, if◌then◌else◌, List, ◌++◌, length, Option, Some, None}
use Rattle.std.specs.Int.{w32, w64, to_le_bytes}
use Rattle.std.specs.List.{flat_map, AllByRecursion}
use Rattle.host_messages.specs.declared.limits.TheConstants.{VERSION, MAX_IN_MESSAGE, NAME_BYTES, PASSING, HELLO, ASK, LEND, RELEASE}
use Rattle.host_messages.specs.declared.item.Question.{Question}
use Rattle.host_messages.specs.declared.item.Lent.{Lent}
use Rattle.host_messages.specs.declared.client.Wanted.{Wanted}
use Rattle.host_messages.specs.declared.client.ClientMessage.{ClientMessage}
use Rattle.host_messages.specs.declared.client.ClientMessage.TheVariants as client

-- what each message begins with: its kind, and a number
abbrev pub head : ℕ → ℕ → List ℕ
head kind number = to_le_bytes w32 kind ++ to_le_bytes w32 number

-- the word that names a question's page: one that isn't to be noted has the highest bit
abbrev pub page_word : Question → ℕ
page_word q = if q.is_passing then q.page % PASSING + PASSING else q.page % PASSING

abbrev pub question_bytes : Question → List ℕ
question_bytes q = to_le_bytes w64 (page_word q) ++ to_le_bytes w64 q.fingerprint

abbrev pub slot_bytes : ℕ → List ℕ
slot_bytes slot = to_le_bytes w64 slot

abbrev pub lent_bytes : Lent → List ℕ
lent_bytes l = to_le_bytes w64 l.slot ++ to_le_bytes w32 l.frame ++ to_le_bytes w32 l.sharers

abbrev pub wanted_bytes : Wanted → List ℕ
wanted_bytes w = w.name ++ to_le_bytes w64 w.loans

-- a client's message
abbrev pub client_bytes : ClientMessage → List ℕ
client_bytes (client.Hello None) = head HELLO VERSION
client_bytes (client.Hello (Some wanted)) = head HELLO VERSION ++ wanted_bytes wanted
client_bytes (client.Ask questions) = head ASK (length questions.items) ++ flat_map question_bytes questions.items
client_bytes (client.Lend count) = head LEND count
client_bytes (client.Release slots) = head RELEASE (length slots.items) ++ flat_map slot_bytes slots.items

-- what a number of four bytes can be, and one of eight
abbrev pub FitsU32 : ℕ → Type 0
FitsU32 n = n < 2 ^ 32

abbrev pub FitsU64 : ℕ → Type 0
FitsU64 n = n < 2 ^ 64

pub record QuestionFits (q : Question) : Type 0 where
  pub page : q.page < PASSING
  pub fingerprint : FitsU64 q.fingerprint

pub record LentFits (l : Lent) : Type 0 where
  pub slot : FitsU64 l.slot
  pub frame : FitsU32 l.frame
  pub sharers : FitsU32 l.sharers

pub record WantedFits (w : Wanted) : Type 0 where
  pub name : length w.name ≡ NAME_BYTES
  pub loans : FitsU64 w.loans

abbrev pub HelloFits : Option Wanted → Type 0
HelloFits None = Unit {0}
HelloFits (Some wanted) = WantedFits wanted

-- a client's message within the limits
abbrev pub ClientFits : ClientMessage → Type 0
ClientFits (client.Hello wanted) = HelloFits wanted
ClientFits (client.Ask questions) = (length questions.items ≤ MAX_IN_MESSAGE) × AllByRecursion QuestionFits questions.items
ClientFits (client.Lend count) = count ≤ MAX_IN_MESSAGE
ClientFits (client.Release slots) = (length slots.items ≤ MAX_IN_MESSAGE) × AllByRecursion FitsU64 slots.items
