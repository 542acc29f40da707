-- What a packet of a session does.
use Rattle.std.specs.Prelude.{◌≡◌, ℕ, ◌-◌, true, false, ◌<◌, ◌≤◌, List, [], length, take, Option, Some, None, Result, Ok, Err, slice_set}
use Rattle.host_messages.specs.declared.client.ClientMessage.{ClientMessage}
use Rattle.host_messages.specs.declared.client.ClientMessage.TheVariants as client
use Rattle.host_messages.specs.declared.fault.MessageFault.{MessageFault}
use Rattle.host_messages.specs.declared.host.Welcome.{Welcome}
use Rattle.host_messages.specs.declared.item.Question.{Question}
use Rattle.host_messages.specs.declared.item.Lent.{Lent}
use Rattle.host_messages.specs.declared.limits.TheConstants.{MAX_IN_MESSAGE}
use Rattle.host_messages.specs.Reading.{client_at}
use Rattle.recent_fingerprints.specs.Notes.{Recent}
use Rattle.fingerprint_domain.specs.Known.{fingerprints_in}
use Rattle.share_domain.specs.Bytes.{BytesStay}
use Rattle.share_domain.specs.Domains.{DomainView, next_client, entered}
use Rattle.share_domain.specs.Totals.{slots_of}
use Rattle.host_sessions.specs.declared.answer.Received.{Received}
use Rattle.host_sessions.specs.declared.answer.Received.TheVariants as got
use Rattle.host_sessions.specs.declared.allowance.Allowance.{Allowance}
use Rattle.host_sessions.specs.declared.allowance.Process.{Process}
use Rattle.host_sessions.specs.declared.allowance.Process.TheVariants as process
use Rattle.host_sessions.specs.declared.session.SessionFault.{SessionFault}
use Rattle.host_sessions.specs.declared.session.SessionFault.TheVariants as fault
use Rattle.host_sessions.specs.declared.session.Begun.{Begun}
use Rattle.host_sessions.specs.declared.session.Session.{Session}
use Rattle.host_sessions.specs.declared.session.Session.TheVariants as session
use Rattle.host_sessions.specs.Table.{heard, heard_with, lent, new_session, takes, faulted, session_at, wanted_in, loans_of, begun_of, Loans, last_at, lost_of, session_slots}
use Rattle.host_sessions.specs.Turns.{answers_to, asked, freed_by, after_releases, slots_in, offered, held_back, LendsSome, kept_of, back_of}

-- the frames of all machines, the salt of fingerprints, the most slots of a session, the percentage of a processor that
-- clients learn, the domain, the last questions, the sessions by their numbers, and the last reply to Lend of each
pub record HostView : Type 0 where
  pub frames : ℕ
  pub salt : ℕ
  pub quota : ℕ
  pub client_cpu : ℕ
  pub domain : DomainView
  pub recent : Recent
  pub sessions : List Session
  pub last : List Loans

-- the host with other sessions, another session, other last questions, another domain, and another last reply of a session
abbrev pub with_sessions : HostView → List Session → HostView
with_sessions h sessions = record { frames = h.frames; salt = h.salt; quota = h.quota; client_cpu = h.client_cpu; domain = h.domain; recent = h.recent; sessions = sessions; last = h.last }

abbrev pub with_session : HostView → ℕ → Session → HostView
with_session h n s = with_sessions h (slice_set h.sessions n s)

abbrev pub with_recent : HostView → Recent → HostView
with_recent h recent = record { frames = h.frames; salt = h.salt; quota = h.quota; client_cpu = h.client_cpu; domain = h.domain; recent = recent; sessions = h.sessions; last = h.last }

abbrev pub with_domain : HostView → DomainView → HostView
with_domain h domain = record { frames = h.frames; salt = h.salt; quota = h.quota; client_cpu = h.client_cpu; domain = domain; recent = h.recent; sessions = h.sessions; last = h.last }

abbrev pub with_last : HostView → ℕ → List Lent → HostView
with_last h n loans = record { frames = h.frames; salt = h.salt; quota = h.quota; client_cpu = h.client_cpu; domain = h.domain; recent = h.recent; sessions = h.sessions; last = slice_set h.last n (record { items = loans }) }

-- ---- faults

-- the packet is at fault: its session takes no more, and nothing else changes
abbrev pub Breaks : ℕ → Session → SessionFault → Received → HostView → HostView → Type 0
Breaks n s f received old new = (received ≡ got.Fault f) × (new ≡ with_session old n (faulted s f))

-- ---- Hello

abbrev pub welcome_to : HostView → List ℕ → Welcome
welcome_to h name = record { name = name; frames = h.frames; salt = h.salt; most = MAX_IN_MESSAGE; client_cpu = h.client_cpu }

-- A session is taken up: the connection's number is its number now, and the old one is free. These loans are lost to its client, which
-- has got so many replies to Lend: their slots are released.
pub record Resumes (n before : ℕ) (b : Begun) (loans : ℕ) (lost : List Lent) (received : Received) (old new : HostView) : Type 0 where
  pub reply : received ≡ got.Resumed (welcome_to old b.name) before (record { items = freed_by b.client (slots_in lost) old.domain })
  pub now : new ≡ with_last (with_session (with_session (with_domain old (after_releases b.client (slots_in lost) old.domain)) before session.Free) n
      (session.Begun (heard_with b loans))) n []

-- (One that can be taken up has begun)
abbrev pub TakesUp : ℕ → ℕ → Option Begun → ℕ → Received → HostView → HostView → Type 0
TakesUp n before None loans received old new = (received ≡ got.NoSession) × (new ≡ old)
TakesUp n before (Some b) loans received old new = Resumes n before b loans (lost_of b loans (last_at old.last before)) received old new

-- a session begins, with a new client
abbrev pub Begins : ℕ → List ℕ → Option ℕ → Received → HostView → HostView → Type 0
Begins n name None received old new = Breaks n (session.Silent name) fault.Clients received old new
Begins n name (Some client) received old new =
    (received ≡ got.Welcome (welcome_to old name))
    × (new ≡ with_last (with_session (with_domain old (entered old.domain (Some client))) n (session.Begun (new_session name client))) n [])

abbrev pub Greets : ℕ → List ℕ → Option ℕ → ℕ → Received → HostView → HostView → Type 0
Greets n name None loans received old new = Begins n name (next_client old.domain) received old new
Greets n name (Some before) loans received old new = TakesUp n before (begun_of (session_at old.sessions before)) loans received old new

-- ---- the other messages, in a session that has begun

pub record Asks (n : ℕ) (b : Begun) (questions : List Question) (received : Received) (old new : HostView) : Type 0 where
  pub reply : received ≡ got.Seen (record { items = answers_to (fingerprints_in old.salt old.domain.machines) b.client questions old.recent })
  pub now : new ≡ with_session (with_recent old (asked (fingerprints_in old.salt old.domain.machines) b.client questions old.recent)) n (session.Begun (heard b))

pub record Releases (n : ℕ) (b : Begun) (slots : List ℕ) (received : Received) (old new : HostView) : Type 0 where
  pub reply : received ≡ got.Released (record { items = freed_by b.client slots old.domain })
  pub now : new ≡ with_session (with_domain old (after_releases b.client slots old.domain)) n (session.Begun (heard b))

-- (each slot that stays reads the same bytes after as before)
pub record LendsPages (n : ℕ) (b : Begun) (pages : List (List ℕ)) (others : ℕ) (received : Received) (old new : HostView) : Type 0 where
  pub loans : List Lent
  pub lends : LendsSome old.salt b.client old.quota pages others loans old.domain new.domain
  pub bytes : BytesStay old.domain new.domain
  pub reply : received ≡ got.Loans (record { items = loans })
  pub now : new ≡ with_last (with_session (with_domain old new.domain) n (session.Begun (lent b))) n loans

-- how many more slots a process may have, of which this session is and the one with this number
abbrev pub left_to : HostView → Begun → ℕ → ℕ
left_to h b other = h.quota - slots_of b.client h.domain.machines - session_slots h.domain.machines (session_at h.sessions other)

-- how many pages of a session's Lend may be lent: as many as the caller says, and no more than its process may have
abbrev pub most_in : HostView → Begun → ℕ → Process → ℕ
most_in h b most process.Unknown = most
most_in h b most process.Alone = most
most_in h b most (process.Beside other) = offered most (left_to h b other)

-- So many pages of the buffer are lent, but no more than `most`, if it has as many. (No message that was read names more than 128)
pub record LendsFirst (n : ℕ) (b : Begun) (count most : ℕ) (pages : List (List ℕ)) (received : Received) (old new : HostView) : Type 0 where
  pub enough : count ≤ MAX_IN_MESSAGE → offered count most ≤ length pages → LendsPages n b (take (offered count most) pages) (held_back count most) received old new
  pub short : length pages < offered count most → Breaks n (session.Begun b) fault.Pages received old new
  pub many : MAX_IN_MESSAGE < count → Breaks n (session.Begun b) fault.Pages received old new

-- ---- a session's step, by its state and the message

-- the first message
abbrev pub Opens : ℕ → Process → List ℕ → ClientMessage → Received → HostView → HostView → Type 0
Opens n may name (client.Hello wanted) received old new = Greets n name (wanted_in old.sessions may wanted) (loans_of wanted) received old new
Opens n may name (client.Ask questions) received old new = Breaks n (session.Silent name) fault.Early received old new
Opens n may name (client.Lend count) received old new = Breaks n (session.Silent name) fault.Early received old new
Opens n may name (client.Release slots) received old new = Breaks n (session.Silent name) fault.Early received old new

-- a later message
abbrev pub Talks : ℕ → ℕ → List (List ℕ) → Begun → ClientMessage → Received → HostView → HostView → Type 0
Talks n most pages b (client.Hello wanted) received old new = Breaks n (session.Begun b) fault.Again received old new
Talks n most pages b (client.Ask questions) received old new = Asks n b questions.items received old new
Talks n most pages b (client.Lend count) received old new = LendsFirst n b count most pages received old new
Talks n most pages b (client.Release slots) received old new = Releases n b slots.items received old new

abbrev pub Steps : ℕ → Allowance → List (List ℕ) → Session → ClientMessage → Received → HostView → HostView → Type 0
Steps n may pages session.Free message received old new = (received ≡ got.NoSession) × (new ≡ old)
Steps n may pages (session.Refused first) message received old new = (received ≡ got.NoSession) × (new ≡ old)
Steps n may pages (session.Silent name) message received old new = Opens n may.process name message received old new
Steps n may pages (session.Begun b) message received old new = Talks n (most_in old b may.most may.process) pages b message received old new

-- a packet of a session that takes messages
abbrev pub Hears : ℕ → Allowance → List (List ℕ) → Session → Result ClientMessage MessageFault → Received → HostView → HostView → Type 0
Hears n may pages s (Ok message) received old new = Steps n may pages s message received old new
Hears n may pages s (Err f) received old new = Breaks n s (fault.Message f) received old new

-- a packet of a session: nothing changes where it takes no messages
pub record Receives (n : ℕ) (bytes : List ℕ) (pages : List (List ℕ)) (may : Allowance) (received : Received) (old new : HostView) : Type 0 where
  pub heard-if : takes (session_at old.sessions n) ≡ true → Hears n may pages (session_at old.sessions n) (client_at bytes) received old new
  pub idle-if : takes (session_at old.sessions n) ≡ false → (received ≡ got.NoSession) × (new ≡ old)

-- ---- loans that are taken back

-- Those loans of a session's last reply to Lend that are in these frames are taken back: their slots are released, and of their pages the
-- reply says that they aren't lent.
pub record TakesBack (n : ℕ) (b : Begun) (frames : List ℕ) (loans : List Lent) (received : Received) (old new : HostView) : Type 0 where
  pub reply : received ≡ got.Loans (record { items = kept_of frames loans })
  pub now : new ≡ with_last (with_domain old (after_releases b.client (back_of frames loans) old.domain)) n (kept_of frames loans)

-- nothing changes where the session hasn't begun
abbrev pub TakesBackAt : ℕ → Session → List ℕ → Received → HostView → HostView → Type 0
TakesBackAt n session.Free frames received old new = (received ≡ got.NoSession) × (new ≡ old)
TakesBackAt n (session.Silent name) frames received old new = (received ≡ got.NoSession) × (new ≡ old)
TakesBackAt n (session.Refused fault) frames received old new = (received ≡ got.NoSession) × (new ≡ old)
TakesBackAt n (session.Begun b) frames received old new = TakesBack n b frames (last_at old.last n) received old new
