-- Both halves of a session, the messages between them, and what may happen.
use Rattle.std.specs.Prelude.{◌≡◌, ℕ, ◌+◌, ◌%◌, ◌^◌, Bool, true, false, not, ◌&&◌, ◌||◌, nat_eq, if◌then◌else◌, List, [], ◌∷◌, ◌++◌, length, Option, Some, None}
use Rattle.host_messages.specs.declared.client.Wanted.{Wanted}
use Rattle.host_messages.specs.declared.item.Lent.{Lent}
use Rattle.client_session.specs.declared.link.Link.TheVariants as link
use Rattle.client_session.specs.Sessions.{SessionView, nobody, is_greeting, is_talking, is_lent, is_named, is_answer, connected, parted, wanted_of, linked, taken_up, begun, confirmed, with_loan, with_unheard, may_ask, may_lend, may_give_up, due, said_more}

-- ---- slots: a function says of each slot which frame it has, if it is the client's

abbrev pub no_slots : ℕ → Option ℕ
no_slots s = None

-- the list has the slot
abbrev pub has : List ℕ → ℕ → Bool
has [] s = false
has (x ∷ xs) s = nat_eq x s || has xs s

-- in place of a frame's number: the page wasn't lent
abbrev pub not_a_frame : ℕ
not_a_frame = 4294967295

-- the frame that loans give a slot
abbrev pub is_loan_of : ℕ → Lent → Bool
is_loan_of s l = not (nat_eq l.frame not_a_frame) && nat_eq l.slot s

abbrev pub given_to : List Lent → ℕ → Option ℕ
given_to [] s = None
given_to (l ∷ ls) s = if is_loan_of s l then Some l.frame else given_to ls s

abbrev pub or_else : Option ℕ → Option ℕ → Option ℕ
or_else (Some n) o = Some n
or_else None o = o

abbrev pub unless : Option ℕ → Option ℕ → Option ℕ
unless (Some n) o = None
unless None o = o

-- the slots after loans were given, after they were taken back, and after slots were released
abbrev pub with_loans : List Lent → (ℕ → Option ℕ) → ℕ → Option ℕ
with_loans ls held s = or_else (given_to ls s) (held s)

abbrev pub without_loans : List Lent → (ℕ → Option ℕ) → ℕ → Option ℕ
without_loans ls held s = unless (given_to ls s) (held s)

abbrev pub without : List ℕ → (ℕ → Option ℕ) → ℕ → Option ℕ
without slots held s = if has slots s then None else held s

-- ---- the host's half: the session of this client, and its slots

-- The session's name, if it has begun. How many replies to Lend were sent in it, and the last of them. The client's slots.
pub record HostSide : Type 0 where
  pub name : Option (List ℕ)
  pub loans : ℕ
  pub last : List Lent
  pub held : ℕ → Option ℕ

-- the host has no session of the client, and one that has just begun
abbrev pub nothing : HostSide
nothing = record { name = None; loans = 0; last = []; held = no_slots }

abbrev pub fresh : List ℕ → HostSide
fresh name = record { name = Some name; loans = 0; last = []; held = no_slots }

-- The session is taken up by a client that has counted so many replies. If more were sent, the loans of the last one are taken back.
abbrev pub lost_by : ℕ → HostSide → List Lent
lost_by loans h = if nat_eq loans h.loans then [] else h.last

abbrev pub resumed : ℕ → HostSide → HostSide
resumed loans h = record { name = h.name; loans = loans; last = []; held = without_loans (lost_by loans h) h.held }

-- pages were lent, and slots released
abbrev pub next_loans : ℕ → ℕ
next_loans n = (n + 1) % 2 ^ 64

abbrev pub lent : List Lent → HostSide → HostSide
lent ls h = record { name = h.name; loans = next_loans h.loans; last = ls; held = with_loans ls h.held }

abbrev pub released : List ℕ → HostSide → HostSide
released slots h = record { name = h.name; loans = h.loans; last = h.last; held = without slots h.held }

-- the session that a client wants to take up is this one
abbrev pub is_session : Option Wanted → Option (List ℕ) → Bool
is_session None name = false
is_session (Some wanted) name = is_named wanted.name name

-- ---- the messages between them

pub data Said : Type 0 where
  Hello : Option Wanted → Said
  Ask : ℕ → Said
  Lend : ℕ → Said
  Release : List ℕ → Said

pub data Reply : Type 0 where
  Welcome : List ℕ → Reply
  Seen : ℕ → Reply
  Loans : List Lent → Reply

-- Both halves, the slots whose frames pages show, and what is under way. A connection brings each message once and in order, up to a point, and
-- then nothing more. `stands`: what the client says still reaches the host. `up` and `down`: what was said on the client's connection and
-- isn't heard yet. `stale`: what the client said on the connections before. The host may hear it until it hears Hello of the present one.
pub record World : Type 0 where
  pub host : HostSide
  pub client : SessionView
  pub shown : ℕ → Option ℕ
  pub stands : Bool
  pub stale : List Said
  pub up : List Said
  pub down : List Reply

-- before anything was said
abbrev pub start : World
start = record { host = nothing; client = nobody; shown = no_slots; stands = false; stale = []; up = []; down = [] }

abbrev pub sent : Bool → List Said → Said → List Said
sent true said m = said ++ m ∷ []
sent false said m = said

-- ---- what may happen

pub data Event : Type 0 where
  -- the client: it connects, its connection ends; it asks, lends, gives slots up and says releases; it hears a reply, which leaves these
  Connects : Event
  Parts : Event
  Asks : ℕ → Event
  Lends : ℕ → Event
  GivesUp : List ℕ → Event
  Says : Event
  TakesUp : List ℕ → List Reply → Event
  Begins : List ℕ → List Reply → Event
  HearsAnswers : ℕ → List Reply → Event
  HearsLoans : List Lent → List Reply → Event
  -- the host: it hears a message of the client's connection, which leaves these
  Resumes : Wanted → List Said → Event
  Starts : Option Wanted → List ℕ → List Said → Event
  Answers : ℕ → List Said → Event
  Grants : ℕ → List Lent → List Said → Event
  Frees : List ℕ → List Said → Event
  -- it hears one of a connection before, or never hears it
  OldResumes : Wanted → List Said → Event
  OldStarts : Option Wanted → List ℕ → List Said → Event
  OldGrants : ℕ → List Lent → List Said → Event
  OldFrees : List ℕ → List Said → Event
  Loses : Said → List Said → Event
  -- it ends the connection; it forgets a session that has no slots; it ends, and another one begins
  Closes : Event
  Forgets : Event
  Dies : Event

-- what it leaves
abbrev pub step : World → Event → World
step w Connects = record w { client = connected w.client; stands = true; stale = w.stale ++ w.up; up = Hello (wanted_of w.client) ∷ []; down = [] }
step w Parts = record w { client = parted w.client; stands = false; stale = w.stale ++ w.up; up = []; down = [] }
step w (Asks n) = record w { client = linked w.client (link.Asked n); up = sent w.stands w.up (Ask n) }
step w (Lends n) = record w { client = linked w.client (link.Lending n); up = sent w.stands w.up (Lend n) }
step w (GivesUp slots) = record w { client = with_unheard (w.client.unheard ++ slots) w.client; shown = without slots w.shown }
step w Says = record w { client = said_more w.client; up = sent w.stands w.up (Release (due w.client)) }
step w (TakesUp name rest) = record w { client = taken_up w.client; down = rest }
step w (Begins name rest) = record w { client = begun name; shown = no_slots; down = rest }
step w (HearsAnswers n rest) = record w { client = confirmed w.client; down = rest }
step w (HearsLoans ls rest) = record w { client = with_loan (confirmed w.client); shown = with_loans ls w.shown; down = rest }
step w (Resumes wanted rest) = record w { host = resumed wanted.loans w.host; stale = []; up = rest; down = w.down ++ Welcome wanted.name ∷ [] }
step w (Starts wanted name rest) = record w { host = fresh name; stale = []; up = rest; down = w.down ++ Welcome name ∷ [] }
step w (Answers n rest) = record w { up = rest; down = w.down ++ Seen n ∷ [] }
step w (Grants n ls rest) = record w { host = lent ls w.host; up = rest; down = w.down ++ Loans ls ∷ [] }
step w (Frees slots rest) = record w { host = released slots w.host; up = rest }
step w (OldResumes wanted rest) = record w { host = resumed wanted.loans w.host; stale = rest }
step w (OldStarts wanted name rest) = record w { host = fresh name; stale = rest }
step w (OldGrants n ls rest) = record w { host = lent ls w.host; stale = rest }
step w (OldFrees slots rest) = record w { host = released slots w.host; stale = rest }
step w (Loses m rest) = record w { stale = rest }
step w Closes = record w { stands = false; up = [] }
step w Forgets = record w { host = nothing }
step w Dies = record w { host = nothing; stands = false; stale = []; up = [] }

-- loans give no slot that the client has
abbrev pub AreFree : List Lent → (ℕ → Option ℕ) → Type 0
AreFree ls held = (s f : ℕ) → given_to ls s ≡ Some f → held s ≡ None

-- When it may happen. The client's calls return true. What is heard is the first of what is under way. The host gives slots that were
-- free; a session that begins has a name that the client doesn't know; only a session without slots is forgotten.
abbrev pub May : World → Event → Type 0
May w Connects = Unit {0}
May w Parts = Unit {0}
May w (Asks n) = may_ask w.client ≡ true
May w (Lends n) = may_lend n w.client ≡ true
May w (GivesUp slots) = may_give_up slots w.client ≡ true
May w Says = is_talking w.client.link ≡ true
May w (TakesUp name rest) = (w.down ≡ Welcome name ∷ rest) × (is_greeting w.client.link ≡ true) × (is_named name w.client.name ≡ true)
May w (Begins name rest) = (w.down ≡ Welcome name ∷ rest) × (is_greeting w.client.link ≡ true) × (is_named name w.client.name ≡ false)
May w (HearsAnswers n rest) = (w.down ≡ Seen n ∷ rest) × (is_answer n w.client ≡ true)
May w (HearsLoans ls rest) = (w.down ≡ Loans ls ∷ rest) × (is_lent (length ls) w.client.link ≡ true)
May w (Resumes wanted rest) = (w.up ≡ Hello (Some wanted) ∷ rest) × (is_named wanted.name w.host.name ≡ true)
May w (Starts wanted name rest) = (w.up ≡ Hello wanted ∷ rest) × (is_session wanted w.host.name ≡ false) × (is_named name w.client.name ≡ false)
May w (Answers n rest) = w.up ≡ Ask n ∷ rest
May w (Grants n ls rest) = (w.up ≡ Lend n ∷ rest) × AreFree ls w.host.held
May w (Frees slots rest) = w.up ≡ Release slots ∷ rest
May w (OldResumes wanted rest) = (w.stale ≡ Hello (Some wanted) ∷ rest) × (is_named wanted.name w.host.name ≡ true)
May w (OldStarts wanted name rest) = (w.stale ≡ Hello wanted ∷ rest) × (is_session wanted w.host.name ≡ false) × (is_named name w.client.name ≡ false)
May w (OldGrants n ls rest) = (w.stale ≡ Lend n ∷ rest) × AreFree ls w.host.held
May w (OldFrees slots rest) = w.stale ≡ Release slots ∷ rest
May w (Loses m rest) = w.stale ≡ m ∷ rest
May w Closes = Unit {0}
May w Forgets = (s : ℕ) → w.host.held s ≡ None
May w Dies = Unit {0}

-- ---- histories

abbrev pub run : World → List Event → World
run w [] = w
run w (e ∷ es) = run (step w e) es

abbrev pub MayAll : World → List Event → Type 0
MayAll w [] = Unit {0}
MayAll w (e ∷ es) = May w e × MayAll (step w e) es

-- it is so at the end of every history, and so at each moment
abbrev pub Always : (World → Type 0) → Type 0
Always P = (es : List Event) → MayAll start es → P (run start es)
