-- What C gets of a packet, with what the reply to it says.
use Rattle.std.specs.Prelude.{◌≡◌, ℕ, ◌||◌, nat_lt, MatchBool, ◌==◌, if◌then◌else◌, List, [], ◌∷◌, length, Option}
use Rattle.c_surface.specs.declared.status.TheConstants as status
use Rattle.host_messages.specs.declared.item.Lent.{Lent}
use Rattle.host_messages.specs.declared.limits.TheConstants.{MAX_IN_MESSAGE, MAX_MESSAGE_BYTES, WELCOME, SEEN, LOANS}
use Rattle.host_sessions.specs.declared.allowance.Allowance.{Allowance}
use Rattle.host_sessions.specs.declared.allowance.Process.{Process}
use Rattle.host_sessions.specs.declared.allowance.Process.TheVariants as process
use Rattle.host_sessions.specs.declared.answer.Received.{Received}
use Rattle.host_sessions.specs.declared.answer.Received.TheVariants as got
use Rattle.share_domain.specs.Bytes.{BytesStay}
use Rattle.share_domain.specs.declared.number.TheConstants.{NO_FRAME}
use Rattle.host_sessions.specs.Others.{SparesOthers}
use Rattle.host_sessions.specs.Steps.{HostView, Receives, TakesBackAt}
use Rattle.host_sessions.specs.Table.{session_at}
use Rattle.pageshare_host_c.specs.Hosts.{AtHost}
use Rattle.pageshare_host_c.specs.Packets.{Gives, put_front}
use Rattle.pageshare_host_c.specs.declared.hosted.Hosted.{Hosted}
use Rattle.pageshare_host_c.specs.declared.receive.ReceivedPacket.{ReceivedPacket}
use Rattle.pageshare_host_c.specs.declared.serve.PacketAllowance.{PacketAllowance}
use Rattle.pageshare_host_c.specs.declared.serve.ServedPacket.{ServedPacket}

-- the reply's kind; 0: there is none
abbrev pub kind_of : Received → ℕ
kind_of got.NoSession = 0
kind_of (got.Fault f) = 0
kind_of (got.Welcome welcome) = WELCOME
kind_of (got.Resumed welcome before freed) = WELCOME
kind_of (got.Seen answers) = SEEN
kind_of (got.Loans loans) = LOANS
kind_of (got.Released freed) = 0

-- how many questions the reply answers
abbrev pub answers_in : Received → ℕ
answers_in got.NoSession = 0
answers_in (got.Fault f) = 0
answers_in (got.Welcome welcome) = 0
answers_in (got.Resumed welcome before freed) = 0
answers_in (got.Seen answers) = length answers.items
answers_in (got.Loans loans) = 0
answers_in (got.Released freed) = 0

-- the frames of loans, one for each page
unfoldable pub frames_of : List Lent → List ℕ
frames_of [] = []
frames_of (lent ∷ loans) = lent.frame ∷ frames_of loans

-- the frames of the loans in the reply
abbrev pub loaned_in : Received → List ℕ
loaned_in got.NoSession = []
loaned_in (got.Fault f) = []
loaned_in (got.Welcome welcome) = []
loaned_in (got.Resumed welcome before freed) = []
loaned_in (got.Seen answers) = []
loaned_in (got.Loans loans) = frames_of loans.items
loaned_in (got.Released freed) = []

-- what C gets of a packet, with what the reply says
abbrev pub with_received : ReceivedPacket → ℕ → ℕ → ℕ → ServedPacket
with_received got kind answers loans = record {
  status = got.status;
  reply_bytes = got.reply_bytes;
  freed = got.freed;
  resumed = got.resumed;
  kind = kind;
  answers = answers;
  loans = loans;
}

abbrev pub unserved : ℕ → ServedPacket
unserved why = record { status = why; reply_bytes = 0; freed = 0; resumed = NO_FRAME; kind = 0; answers = 0; loans = 0 }

-- C gets what came of a packet. The frames are those that are free since, or those of the loans: never both, and so the later ones
-- stand where the earlier ones did
pub record Shows (received : Received) (served : ServedPacket) (reply reply' frames frames' : List ℕ) : Type 0 where
  pub got : ReceivedPacket
  pub gives : Gives received got reply reply' (put_front (loaned_in received) frames) frames'
  pub served-is : served ≡ with_received got (kind_of received) (answers_in received) (length (loaned_in received))

-- nothing was done, and nothing written
pub record IsUnserved (why : ℕ) (served : ServedPacket) (reply reply' frames frames' : List ℕ) : Type 0 where
  pub served-is : served ≡ unserved why
  pub reply-is : reply' ≡ reply
  pub frames-is : frames' ≡ frames

-- which other session is of the process, by its number: there is none where there is no number
abbrev pub process_of : ℕ → Process
process_of beside = if beside == NO_FRAME then process.Alone else process.Beside beside

-- what C allows a packet
abbrev pub allowance_of : PacketAllowance → Allowance
allowance_of may = record { most = may.most; process = process_of may.beside }

-- A packet that a host received, as `Packets` has it, with what the reply says
pub record ServesPacket (session : ℕ) (bytes : List ℕ) (pages : List (List ℕ)) (may : PacketAllowance) (served : ServedPacket) (reply reply' frames frames' : List ℕ) (old new : HostView) : Type 0 where
  pub received : Received
  pub receives : Receives session bytes pages (allowance_of may) received old new
  pub others : SparesOthers (session_at new.sessions session) old.domain new.domain
  pub stay : BytesStay old.domain new.domain
  pub shows : Shows received served reply reply' frames frames'

-- a packet for which there are buffers
abbrev pub ServesWith : ℕ → List ℕ → List (List ℕ) → PacketAllowance → ServedPacket → List ℕ → List ℕ → List ℕ → List ℕ → HostView → HostView → Type 0
ServesWith session bytes pages may served reply reply' frames frames' old new =
    MatchBool (nat_lt (length reply) MAX_MESSAGE_BYTES || nat_lt (length frames) MAX_IN_MESSAGE)
    (IsUnserved status.SHORT served reply reply' frames frames' × (new ≡ old))
    (ServesPacket session bytes pages may served reply reply' frames frames' old new)

abbrev pub ServesAt : ℕ → List ℕ → List (List ℕ) → PacketAllowance → ServedPacket → List ℕ → List ℕ → List ℕ → List ℕ → Option Hosted → Option Hosted → Type 0
ServesAt session bytes pages may served reply reply' frames frames' old new =
    AtHost (IsUnserved status.NO_MACHINE served reply reply' frames frames') (λ h n. ServesWith session bytes pages may served reply reply' frames frames' h n) old new

-- Loans of a session's last reply that are in these frames, taken back. The reply and the frames are those of its pages afterwards.
pub record WithdrawsLoans (session : ℕ) (missing : List ℕ) (served : ServedPacket) (reply reply' frames frames' : List ℕ) (old new : HostView) : Type 0 where
  pub received : Received
  pub takes_back : TakesBackAt session (session_at old.sessions session) missing received old new
  pub others : SparesOthers (session_at new.sessions session) old.domain new.domain
  pub stay : BytesStay old.domain new.domain
  pub shows : Shows received served reply reply' frames frames'

abbrev pub WithdrawsWith : ℕ → List ℕ → ServedPacket → List ℕ → List ℕ → List ℕ → List ℕ → HostView → HostView → Type 0
WithdrawsWith session missing served reply reply' frames frames' old new =
    MatchBool (nat_lt (length reply) MAX_MESSAGE_BYTES || nat_lt (length frames) MAX_IN_MESSAGE)
    (IsUnserved status.SHORT served reply reply' frames frames' × (new ≡ old))
    (WithdrawsLoans session missing served reply reply' frames frames' old new)

abbrev pub WithdrawsAt : ℕ → List ℕ → ServedPacket → List ℕ → List ℕ → List ℕ → List ℕ → Option Hosted → Option Hosted → Type 0
WithdrawsAt session missing served reply reply' frames frames' old new =
    AtHost (IsUnserved status.NO_MACHINE served reply reply' frames frames') (λ h n. WithdrawsWith session missing served reply reply' frames frames' h n) old new
