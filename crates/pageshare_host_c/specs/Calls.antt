-- Connections and sessions, as C names them.
use Rattle.std.specs.Prelude.{◌≡◌, ℕ, Bool, List, length, Option, Some, None, if◌then◌else◌, MatchBool, ◌==◌}
use Rattle.c_surface.specs.Statuses.{number_or, room_status}
use Rattle.c_surface.specs.Totals.{totals_of}
use Rattle.c_surface.specs.declared.status.TheConstants as status
use Rattle.c_surface.specs.declared.totals.DomainTotals.{DomainTotals}
use Rattle.share_domain.specs.Totals.{domain_totals}
use Rattle.host_sessions.specs.declared.session.Begun.{Begun}
use Rattle.host_sessions.specs.declared.session.Link.{Link}
use Rattle.host_sessions.specs.declared.session.Link.TheVariants as link
use Rattle.host_sessions.specs.declared.session.Session.{Session}
use Rattle.host_sessions.specs.declared.session.Session.TheVariants as session
use Rattle.share_domain.specs.Bytes.{BytesStay}
use Rattle.host_sessions.specs.Others.{SparesOthers}
use Rattle.host_sessions.specs.Table.{session_at, next_number, connected, gone, is_free, session_slots}
use Rattle.host_sessions.specs.Steps.{HostView, with_sessions, with_session}
use Rattle.host_sessions.specs.Ends.{Ends, EndsEmpty}
use Rattle.pageshare_host_c.specs.Hosts.{AtHost, of_made, made_status}
use Rattle.pageshare_host_c.specs.Packets.{fault_status}
use Rattle.pageshare_host_c.specs.declared.calls.KnownSession.{KnownSession}
use Rattle.pageshare_host_c.specs.declared.hosted.Hosted.{Hosted}

-- a connection gets the first number that no session has
pub record Connects (name : List ℕ) (result number number' : ℕ) (old new : HostView) : Type 0 where
  pub status-is : result ≡ room_status (next_number old.sessions)
  pub number-is : number' ≡ number_or number (next_number old.sessions)
  pub now : new ≡ with_sessions old (connected name (next_number old.sessions) old.sessions)

abbrev pub ConnectsAt : List ℕ → ℕ → ℕ → ℕ → Option Hosted → Option Hosted → Type 0
ConnectsAt name result number number' old new = AtHost ((result ≡ status.NO_MACHINE) × (number' ≡ number)) (λ h n. Connects name result number number' h n) old new

abbrev pub there_status : Session → ℕ
there_status s = if is_free s then status.NO_SESSION else status.OK

pub record Disconnects (number result : ℕ) (old new : HostView) : Type 0 where
  pub status-is : result ≡ there_status (session_at old.sessions number)
  pub now : new ≡ with_session old number (gone (session_at old.sessions number))

abbrev pub DisconnectsAt : ℕ → ℕ → Option Hosted → Option Hosted → Type 0
DisconnectsAt number result old new = AtHost (result ≡ status.NO_MACHINE) (λ h n. Disconnects number result h n) old new

-- a session's process has ended
abbrev pub end_status : Option ℕ → ℕ
end_status None = status.NO_SESSION
end_status (Some count) = status.OK

pub record EndsSession (number result : ℕ) (room after : List ℕ) (count count' : ℕ) (old new : HostView) : Type 0 where
  pub answer : Option ℕ
  pub ends : Ends number (session_at old.sessions number) answer room after old new
  pub others : SparesOthers (session_at old.sessions number) old.domain new.domain
  pub bytes : BytesStay old.domain new.domain
  pub status-is : result ≡ end_status answer
  pub count-is : count' ≡ number_or count answer

abbrev pub EndsWith : ℕ → ℕ → List ℕ → List ℕ → ℕ → ℕ → HostView → HostView → Type 0
EndsWith number result room after count count' old new =
    MatchBool (length room == 0) ((result ≡ status.SHORT) × (after ≡ room) × (count' ≡ count) × (new ≡ old)) (EndsSession number result room after count count' old new)

abbrev pub EndsAt : ℕ → ℕ → List ℕ → List ℕ → ℕ → ℕ → Option Hosted → Option Hosted → Type 0
EndsAt number result room after count count' old new =
    AtHost ((result ≡ status.NO_MACHINE) × (after ≡ room) × (count' ≡ count)) (λ h n. EndsWith number result room after count count' h n) old new

-- a session's connection has ended, and the session, too, if it has no slots
pub record EndsIfEmpty (number result : ℕ) (old new : HostView) : Type 0 where
  pub is_ended : Bool
  pub ends : EndsEmpty number (session_at old.sessions number) is_ended old new
  pub others : SparesOthers (session_at old.sessions number) old.domain new.domain
  pub bytes : BytesStay old.domain new.domain
  pub status-is : result ≡ (if is_ended then status.NO_SESSION else status.OK)

abbrev pub EndsEmptyAt : ℕ → ℕ → Option Hosted → Option Hosted → Type 0
EndsEmptyAt number result old new = AtHost (result ≡ status.NO_MACHINE) (λ h n. EndsIfEmpty number result h n) old new

-- what C gets of a session
abbrev pub state_of_link : Link → ℕ
state_of_link link.Talking = 2
state_of_link link.Gone = 3
state_of_link (link.Broken fault) = 4
state_of_link link.Ended = 5

abbrev pub state_of : Session → ℕ
state_of session.Free = 0
state_of (session.Silent name) = 1
state_of (session.Refused fault) = 4
state_of (session.Begun b) = state_of_link b.link

abbrev pub messages_of : Session → ℕ
messages_of session.Free = 0
messages_of (session.Silent name) = 0
messages_of (session.Refused fault) = 0
messages_of (session.Begun b) = b.messages

abbrev pub link_fault : Link → ℕ
link_fault link.Talking = status.OK
link_fault link.Gone = status.OK
link_fault (link.Broken fault) = fault_status fault
link_fault link.Ended = status.OK

abbrev pub fault_known : Session → ℕ
fault_known session.Free = status.OK
fault_known (session.Silent name) = status.OK
fault_known (session.Refused fault) = fault_status fault
fault_known (session.Begun b) = link_fault b.link

-- a session that has so many slots
abbrev pub known_session : ℕ → Session → KnownSession
known_session slots s = record { state = state_of s; slots = slots; fault = fault_known s; reserved = 0; messages = messages_of s }

abbrev pub session_status : ℕ → Option Hosted → ℕ
session_status number old = made_status (λ h. there_status (session_at h.sessions number)) old

abbrev pub known_or : KnownSession → ℕ → Session → KnownSession
known_or known slots s = if is_free s then known else known_session slots s

abbrev pub session_after : ℕ → KnownSession → Option Hosted → KnownSession
session_after number known old = of_made known (λ h. known_or known (session_slots h.domain.machines (session_at h.sessions number)) (session_at h.sessions number)) old

-- what a host counts
abbrev pub totals_after : DomainTotals → Option Hosted → DomainTotals
totals_after totals old = of_made totals (λ h. totals_of (domain_totals h.domain)) old
