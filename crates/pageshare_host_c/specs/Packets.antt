-- What C gets of a packet.
use Rattle.std.specs.Prelude.{◌≡◌, ℕ, ◌||◌, nat_lt, MatchBool, List, [], ◌++◌, length, drop, Option, Some, None}
use Rattle.c_surface.specs.declared.status.TheConstants as status
use Rattle.host_messages.specs.declared.fault.MessageFault.{MessageFault}
use Rattle.host_messages.specs.declared.fault.MessageFault.TheVariants as message
use Rattle.host_messages.specs.declared.limits.TheConstants.{MAX_IN_MESSAGE, MAX_MESSAGE_BYTES}
use Rattle.host_sessions.specs.declared.allowance.Allowance.{Allowance}
use Rattle.host_sessions.specs.declared.allowance.Process.TheVariants as process
use Rattle.host_sessions.specs.declared.answer.Received.{Received}
use Rattle.host_sessions.specs.declared.answer.Received.TheVariants as got
use Rattle.host_sessions.specs.declared.session.SessionFault.{SessionFault}
use Rattle.host_sessions.specs.declared.session.SessionFault.TheVariants as fault
use Rattle.share_domain.specs.Bytes.{BytesStay}
use Rattle.share_domain.specs.declared.number.TheConstants.{NO_FRAME}
use Rattle.host_sessions.specs.Others.{SparesOthers}
use Rattle.host_sessions.specs.Replies.{reply_of}
use Rattle.host_sessions.specs.Steps.{HostView, Receives}
use Rattle.host_sessions.specs.Table.{session_at}
use Rattle.pageshare_host_c.specs.Hosts.{AtHost}
use Rattle.pageshare_host_c.specs.declared.hosted.Hosted.{Hosted}
use Rattle.pageshare_host_c.specs.declared.receive.ReceivedPacket.{ReceivedPacket}

abbrev pub message_status : MessageFault → ℕ
message_status message.Head = status.FAULT_HEAD
message_status message.Kind = status.FAULT_KIND
message_status message.Version = status.FAULT_VERSION
message_status message.Count = status.FAULT_COUNT
message_status message.Length = status.FAULT_LENGTH
message_status message.Answer = status.FAULT_ANSWER

abbrev pub fault_status : SessionFault → ℕ
fault_status (fault.Message f) = message_status f
fault_status fault.Early = status.FAULT_EARLY
fault_status fault.Again = status.FAULT_AGAIN
fault_status fault.Pages = status.FAULT_PAGES
fault_status fault.Clients = status.FAULT_CLIENTS

abbrev pub status_of : Received → ℕ
status_of got.NoSession = status.NO_SESSION
status_of (got.Fault f) = fault_status f
status_of (got.Welcome welcome) = status.OK
status_of (got.Resumed welcome before freed) = status.OK
status_of (got.Seen answers) = status.OK
status_of (got.Loans loans) = status.OK
status_of (got.Released freed) = status.OK

-- the session that was taken up
abbrev pub resumed_of : Received → ℕ
resumed_of got.NoSession = NO_FRAME
resumed_of (got.Fault f) = NO_FRAME
resumed_of (got.Welcome welcome) = NO_FRAME
resumed_of (got.Resumed welcome before freed) = before
resumed_of (got.Seen answers) = NO_FRAME
resumed_of (got.Loans loans) = NO_FRAME
resumed_of (got.Released freed) = NO_FRAME

-- the frames that are free since
abbrev pub frees_of : Received → List ℕ
frees_of got.NoSession = []
frees_of (got.Fault f) = []
frees_of (got.Welcome welcome) = []
frees_of (got.Resumed welcome before freed) = freed.items
frees_of (got.Seen answers) = []
frees_of (got.Loans loans) = []
frees_of (got.Released freed) = freed.items

-- a buffer with these at its front
abbrev pub put_front : List ℕ → List ℕ → List ℕ
put_front xs room = xs ++ drop (length xs) room

abbrev pub refused : ℕ → ReceivedPacket
refused why = record { status = why; reply_bytes = 0; freed = 0; resumed = NO_FRAME }

-- C gets what came of a packet: the reply's bytes, and the frames that are free since
pub record Gives (received : Received) (returned : ReceivedPacket) (reply reply' freed freed' : List ℕ) : Type 0 where
  pub returned-is : returned ≡ record { status = status_of received; reply_bytes = length (reply_of received); freed = length (frees_of received); resumed = resumed_of received }
  pub reply-is : reply' ≡ put_front (reply_of received) reply
  pub freed-is : freed' ≡ put_front (frees_of received) freed

-- nothing was done, and nothing written
pub record IsRefused (why : ℕ) (returned : ReceivedPacket) (reply reply' freed freed' : List ℕ) : Type 0 where
  pub returned-is : returned ≡ refused why
  pub reply-is : reply' ≡ reply
  pub freed-is : freed' ≡ freed

-- all is allowed that a packet can ask for where processes aren't known
abbrev pub all_allowed : Allowance
all_allowed = record { most = MAX_IN_MESSAGE; process = process.Unknown }

-- A packet that a host received. Each slot of a client that the session isn't of afterwards is still held by it, with the same frame; and
-- each slot that stays a client's reads the same bytes after as before
pub record ReceivesPacket (session : ℕ) (bytes : List ℕ) (pages : List (List ℕ)) (returned : ReceivedPacket) (reply reply' freed freed' : List ℕ) (old new : HostView) : Type 0 where
  pub received : Received
  pub receives : Receives session bytes pages all_allowed received old new
  pub others : SparesOthers (session_at new.sessions session) old.domain new.domain
  pub stay : BytesStay old.domain new.domain
  pub gives : Gives received returned reply reply' freed freed'

-- a packet for which there are buffers
abbrev pub ReceivesWith : ℕ → List ℕ → List (List ℕ) → ReceivedPacket → List ℕ → List ℕ → List ℕ → List ℕ → HostView → HostView → Type 0
ReceivesWith session bytes pages returned reply reply' freed freed' old new =
    MatchBool (nat_lt (length reply) MAX_MESSAGE_BYTES || nat_lt (length freed) MAX_IN_MESSAGE)
    (IsRefused status.SHORT returned reply reply' freed freed' × (new ≡ old))
    (ReceivesPacket session bytes pages returned reply reply' freed freed' old new)

abbrev pub ReceivesAt : ℕ → List ℕ → List (List ℕ) → ReceivedPacket → List ℕ → List ℕ → List ℕ → List ℕ → Option Hosted → Option Hosted → Type 0
ReceivesAt session bytes pages returned reply reply' freed freed' old new =
    AtHost (IsRefused status.NO_MACHINE returned reply reply' freed freed') (λ h n. ReceivesWith session bytes pages returned reply reply' freed freed' h n) old new
