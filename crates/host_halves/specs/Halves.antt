-- A session of a host as the host's half of a session.
use Rattle.std.specs.Prelude.{◌≡◌, ℕ, Bool, ◌⊎◌, ◌<◌, ◌≤◌, ◌==◌, nat_eq, true, false, if◌then◌else◌, List, [], length, Option, Some, None}
use Rattle.lent_slots.specs.declared.holding.Holding.{Holding}
use Rattle.share_domain.specs.declared.number.TheConstants.{SLOTS_APART, NO_FRAME}
use Rattle.share_domain.specs.Domains.{DomainView, machine_at, held_in, region_frame, entered}
use Rattle.share_domain.specs.Numbers.{slot_by}
use Rattle.host_sessions.specs.declared.session.Begun.{Begun}
use Rattle.host_sessions.specs.declared.session.Link.{Link}
use Rattle.host_messages.specs.declared.item.Lent.{Lent}
use Rattle.host_sessions.specs.Table.{heard, heard_with, linked, lost_of, new_session}
use Rattle.host_sessions.specs.Table as table
use Rattle.host_sessions.specs.Table.{session_at, last_at}
use Rattle.host_sessions.specs.declared.allowance.Allowance.{Allowance}
use Rattle.host_sessions.specs.declared.answer.Received.{Received}
use Rattle.host_sessions.specs.declared.answer.Received.TheVariants as got
use Rattle.host_sessions.specs.declared.session.Session.{Session}
use Rattle.host_sessions.specs.declared.session.Session.TheVariants as session
use Rattle.host_sessions.specs.Ends.{Ends, EndsEmpty}
use Rattle.host_sessions.specs.Own.{HasOwn}
use Rattle.host_sessions.specs.Steps.{HostView, Receives, TakesBackAt}
use Rattle.host_sessions.specs.Turns.{after_releases, slots_in, LendsSome, kept_of, back_of}
use Rattle.session_laws.specs.World.{HostSide, fresh, released, resumed, lent, AreFree}

-- the number of the frame that a slot of a machine has, if it is the client's
abbrev pub frame_if : ℕ → ℕ → ℕ → Option Holding → Option ℕ
frame_if client frames machine None = None
frame_if client frames machine (Some h) = if h.client == client then Some (region_frame frames machine h.frame) else None

abbrev pub frame_for : ℕ → DomainView → ℕ → Option ℕ
frame_for client d number = frame_if client d.frames (slot_by number).machine (held_in d.machines (slot_by number))

-- a session that has begun, with this last reply to Lend, over a domain: this is the host's half
pub record IsHalf (b : Begun) (last : List Lent) (d : DomainView) (h : HostSide) : Type 0 where
  pub name : h.name ≡ Some b.name
  pub loans : h.loans ≡ b.loans
  pub last-is : h.last ≡ last
  pub held : (number : ℕ) → h.held number ≡ frame_for b.client d number

-- a release that the host hears does what it does to the half
abbrev pub ReleasesHalf : Type 0
ReleasesHalf =
    (b : Begun) (last : List Lent) (slots : List ℕ) (d : DomainView) (h : HostSide) → IsHalf b last d h →
    IsHalf (heard b) last (after_releases b.client slots d) (released slots h)

-- and so does taking the session up
abbrev pub ResumesHalf : Type 0
ResumesHalf =
    (b : Begun) (loans : ℕ) (last : List Lent) (d : DomainView) (h : HostSide) → IsHalf b last d h →
    IsHalf (heard_with b loans) [] (after_releases b.client (slots_in (lost_of b loans last)) d) (resumed loans h)

-- A domain's slots have their numbers, and no frame has the number that stands for none.
pub record HasNumbers (d : DomainView) : Type 0 where
  pub slots : (m : ℕ) → length (machine_at d.machines m).slots ≤ SLOTS_APART
  pub frames : (m mpn : ℕ) → mpn < length (machine_at d.machines m).frames → nat_eq (region_frame d.frames m mpn) NO_FRAME ≡ false

-- and so does a lend, by slots that were free, however many of its pages the caller lets be lent
abbrev pub LendsHalf : Type 0
LendsHalf =
    (salt quota others : ℕ) (b : Begun) (last : List Lent) (pages : List (List ℕ)) (loans : List Lent) (old new : DomainView) (h : HostSide) → HasNumbers old → IsHalf b last old h →
    LendsSome salt b.client quota pages others loans old new → IsHalf (table.lent b) loans new (lent loans h) × AreFree loans h.held

-- A lend some of whose loans are taken back does what a lend does that never lent their pages: it is the reply then that the half knows of.
abbrev pub TakesBackHalf : Type 0
TakesBackHalf =
    (salt quota others : ℕ) (b : Begun) (last : List Lent) (pages : List (List ℕ)) (loans : List Lent) (frames : List ℕ) (old mid : DomainView) (h : HostSide) → HasNumbers old → IsHalf b last old h →
    LendsSome salt b.client quota pages others loans old mid →
    IsHalf (table.lent b) (kept_of frames loans) (after_releases b.client (back_of frames loans) mid) (lent (kept_of frames loans) h) × AreFree (kept_of frames loans) h.held

-- A session that begins with a client that has no slots is the half of one that has just begun.
abbrev pub BeginsHalf : Type 0
BeginsHalf =
    (name : List ℕ) (client : ℕ) (d : DomainView) → ((number : ℕ) → frame_for client d number ≡ None) →
    IsHalf (new_session name client) [] (entered d (Some client)) (fresh name)

-- Questions, a packet at fault and the end of a connection leave a half as it is.
abbrev pub AsksHalf : Type 0
AsksHalf = (b : Begun) (last : List Lent) (d : DomainView) (h : HostSide) → IsHalf b last d h → IsHalf (heard b) last d h

abbrev pub LinksHalf : Type 0
LinksHalf = (b : Begun) (link : Link) (last : List Lent) (d : DomainView) (h : HostSide) → IsHalf b last d h → IsHalf (linked b link) last d h

-- ---- what other sessions do

-- session number k of a host is this half
pub record HasHalf (k : ℕ) (b : Begun) (v : HostView) (h : HostSide) : Type 0 where
  pub begun : session_at v.sessions k ≡ session.Begun b
  pub half : IsHalf b (last_at v.last k) v.domain h

-- a packet took session number k up
abbrev pub takes_up : ℕ → Received → Bool
takes_up k got.NoSession = false
takes_up k (got.Fault f) = false
takes_up k (got.Welcome welcome) = false
takes_up k (got.Resumed welcome before freed) = before == k
takes_up k (got.Seen answers) = false
takes_up k (got.Loans loans) = false
takes_up k (got.Released freed) = false

-- A packet of another connection leaves a session's half as it is, unless it takes the session up.
abbrev pub OthersKeepHalf : Type 0
OthersKeepHalf =
    (n k : ℕ) (bytes : List ℕ) (pages : List (List ℕ)) (may : Allowance) (received : Received) (old new : HostView) (b : Begun) (h : HostSide) →
    HasOwn old → (k ≡ n → ⊥) → takes_up k received ≡ false → Receives n bytes pages may received old new → HasHalf k b old h → HasHalf k b new h

-- What is taken back of another session leaves it as it is, too.
abbrev pub BacksKeepHalf : Type 0
BacksKeepHalf =
    (n k : ℕ) (frames : List ℕ) (received : Received) (old new : HostView) (b : Begun) (h : HostSide) →
    HasOwn old → (k ≡ n → ⊥) → TakesBackAt n (session_at old.sessions n) frames received old new → HasHalf k b old h → HasHalf k b new h

-- ---- the end of a process

-- The end of another session leaves it as it is, too.
abbrev pub EndsKeepHalf : Type 0
EndsKeepHalf =
    (n k : ℕ) (result : Option ℕ) (room after : List ℕ) (old new : HostView) (b : Begun) (h : HostSide) →
    HasOwn old → (k ≡ n → ⊥) → Ends n (session_at old.sessions n) result room after old new → HasHalf k b old h → HasHalf k b new h

-- So does that of another session that is ended since it has no slots.
abbrev pub EmptiesKeepHalf : Type 0
EmptiesKeepHalf =
    (n k : ℕ) (result : Bool) (old new : HostView) (b : Begun) (h : HostSide) →
    HasOwn old → (k ≡ n → ⊥) → EndsEmpty n (session_at old.sessions n) result old new → HasHalf k b old h → HasHalf k b new h

-- A session is ended before its process only if its half has no slots, and otherwise nothing changes.
abbrev pub EmptyHalf : Type 0
EmptyHalf =
    (n : ℕ) (result : Bool) (old new : HostView) (b : Begun) (h : HostSide) → EndsEmpty n (session.Begun b) result old new → HasHalf n b old h →
    ((result ≡ true) × ((number : ℕ) → h.held number ≡ None)) ⊎ ((result ≡ false) × (new ≡ old))

-- Its own end frees slots, and changes no other one. When none is released any more, the half has none, and the session is gone.
pub record EndedHalf (n : ℕ) (b : Begun) (count : ℕ) (new : HostView) (h : HostSide) : Type 0 where
  pub held : (number : ℕ) → (frame_for b.client new.domain number ≡ h.held number) ⊎ (frame_for b.client new.domain number ≡ None)
  pub none : count ≡ 0 → (number : ℕ) → h.held number ≡ None
  pub gone : count ≡ 0 → session_at new.sessions n ≡ session.Free

abbrev pub EndsHalf : Type 0
EndsHalf =
    (n count : ℕ) (room after : List ℕ) (old new : HostView) (b : Begun) (h : HostSide) →
    HasOwn old → n < length old.sessions → Ends n (session.Begun b) (Some count) room after old new → HasHalf n b old h → EndedHalf n b count new h
