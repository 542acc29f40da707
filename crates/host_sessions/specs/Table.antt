-- Sessions by their numbers.
use Rattle.std.specs.Prelude.{ℕ, ◌+◌, ◌%◌, ◌^◌, Bool, true, false, ◌&&◌, ◌||◌, ◌==◌, if◌then◌else◌, List, [], Option, Some, None, slice_set, slice_index_or, position}
use Rattle.std.specs.Str.{bytes_eq}
use Rattle.arrayvec.specs.ArrayVec.{ArrayVec}
use Rattle.host_messages.specs.declared.client.Wanted.{Wanted}
use Rattle.host_messages.specs.declared.item.Lent.{Lent}
use Rattle.lent_slots.specs.Slots.{MachineView}
use Rattle.share_domain.specs.Totals.{slots_of}
use Rattle.host_sessions.specs.declared.allowance.Process.{Process}
use Rattle.host_sessions.specs.declared.allowance.Process.TheVariants as process
use Rattle.host_sessions.specs.declared.session.SessionFault.{SessionFault}
use Rattle.host_sessions.specs.declared.session.Link.{Link}
use Rattle.host_sessions.specs.declared.session.Link.TheVariants as link
use Rattle.host_sessions.specs.declared.session.Begun.{Begun}
use Rattle.host_sessions.specs.declared.session.Session.{Session}
use Rattle.host_sessions.specs.declared.session.Session.TheVariants as session

-- ---- one session

abbrev pub is_talking : Link → Bool
is_talking link.Talking = true
is_talking link.Gone = false
is_talking (link.Broken fault) = false
is_talking link.Ended = false

abbrev pub is_gone : Link → Bool
is_gone link.Talking = false
is_gone link.Gone = true
is_gone (link.Broken fault) = false
is_gone link.Ended = false

-- the link after the connection has ended
abbrev pub gone_link : Link → Link
gone_link link.Talking = link.Gone
gone_link link.Gone = link.Gone
gone_link (link.Broken fault) = link.Broken fault
gone_link link.Ended = link.Ended

abbrev pub linked : Begun → Link → Begun
linked b l = record { name = b.name; client = b.client; messages = b.messages; loans = b.loans; link = l }

-- a session after one more message, with so many replies to Lend
abbrev pub heard_with : Begun → ℕ → Begun
heard_with b loans = record { name = b.name; client = b.client; messages = (b.messages + 1) % 2 ^ 64; loans = loans; link = link.Talking }

-- a session after a message that lent nothing, and after one that lent
abbrev pub heard : Begun → Begun
heard b = heard_with b b.loans

abbrev pub lent : Begun → Begun
lent b = heard_with b ((b.loans + 1) % 2 ^ 64)

-- a session after its first message
abbrev pub new_session : List ℕ → ℕ → Begun
new_session name client = record { name = name; client = client; messages = 1; loans = 0; link = link.Talking }

abbrev pub is_free : Session → Bool
is_free session.Free = true
is_free (session.Silent name) = false
is_free (session.Refused fault) = false
is_free (session.Begun b) = false

-- the session takes messages: its connection has not ended, and nothing was at fault
abbrev pub takes : Session → Bool
takes session.Free = false
takes (session.Silent name) = true
takes (session.Refused fault) = false
takes (session.Begun b) = is_talking b.link

-- the session after a packet at fault
abbrev pub faulted : Session → SessionFault → Session
faulted session.Free fault = session.Free
faulted (session.Silent name) fault = session.Refused fault
faulted (session.Refused first) fault = session.Refused first
faulted (session.Begun b) fault = session.Begun (linked b (link.Broken fault))

-- the session after its connection has ended: one that has begun keeps its slots
abbrev pub gone : Session → Session
gone session.Free = session.Free
gone (session.Silent name) = session.Free
gone (session.Refused fault) = session.Free
gone (session.Begun b) = session.Begun (linked b (gone_link b.link))

-- the session has this name, and can be taken up
abbrev pub is_gone_as : List ℕ → Session → Bool
is_gone_as name session.Free = false
is_gone_as name (session.Silent other) = false
is_gone_as name (session.Refused fault) = false
is_gone_as name (session.Begun b) = is_gone b.link && bytes_eq b.name name

-- the session has this name; nothing was at fault in it, and its process has not ended
abbrev pub is_named : List ℕ → Session → Bool
is_named name session.Free = false
is_named name (session.Silent other) = false
is_named name (session.Refused fault) = false
is_named name (session.Begun b) = (is_talking b.link || is_gone b.link) && bytes_eq b.name name

-- ---- all of them

-- the session with a number, which is free where there is no such number
abbrev pub session_at : List Session → ℕ → Session
session_at sessions n = slice_index_or sessions n session.Free

-- the number that the next connection gets
abbrev pub next_number : List Session → Option ℕ
next_number sessions = position is_free sessions

-- the sessions after a connection with this number
abbrev pub connected : List ℕ → Option ℕ → List Session → List Session
connected name None sessions = sessions
connected name (Some n) sessions = slice_set sessions n (session.Silent name)

-- a session by its number, if it has this name
abbrev pub named_at : List Session → List ℕ → ℕ → Option ℕ
named_at sessions name n = if is_named name (session_at sessions n) then Some n else None

-- The session that a client takes up, of those that may be its process's: it has the name that the client wants. Where processes aren't
-- known, its connection has ended.
abbrev pub named_in : List Session → Process → List ℕ → Option ℕ
named_in sessions process.Unknown name = position (is_gone_as name) sessions
named_in sessions process.Alone name = None
named_in sessions (process.Beside n) name = named_at sessions name n

abbrev pub wanted_in : List Session → Process → Option Wanted → Option ℕ
wanted_in sessions p None = None
wanted_in sessions p (Some wanted) = named_in sessions p wanted.name

-- how many replies to Lend a client has got in it
abbrev pub loans_of : Option Wanted → ℕ
loans_of None = 0
loans_of (Some wanted) = wanted.loans

-- ---- the last reply to Lend of each session

abbrev pub Loans : Type 0
Loans = ArrayVec Lent

abbrev pub no_loans : Loans
no_loans = record { items = [] }

abbrev pub last_at : List Loans → ℕ → List Lent
last_at last n = (slice_index_or last n no_loans).items

-- those that a client doesn't know of: all of them, unless it has got as many replies as were sent
abbrev pub lost_of : Begun → ℕ → List Lent → List Lent
lost_of b loans last = if loans == b.loans then [] else last

-- what has begun, if anything has
abbrev pub begun_of : Session → Option Begun
begun_of session.Free = None
begun_of (session.Silent name) = None
begun_of (session.Refused fault) = None
begun_of (session.Begun b) = Some b

-- how many slots a session has among those of these machines: as many as its client holds
abbrev pub session_slots : List MachineView → Session → ℕ
session_slots machines session.Free = 0
session_slots machines (session.Silent name) = 0
session_slots machines (session.Refused fault) = 0
session_slots machines (session.Begun b) = slots_of b.client machines
