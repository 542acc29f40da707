-- The end of a session's connection, and of its process.
use Rattle.std.specs.Prelude.{◌≡◌, ◌≤◌, ℕ, Bool, true, false, List, Option, Some, None, if◌then◌else◌, ◌==◌, MatchOption}
use Rattle.recent_fingerprints.specs.Notes.{forgotten}
use Rattle.share_domain.specs.Leaving.{Leaves, StaysOut}
use Rattle.host_sessions.specs.declared.session.Link.TheVariants as link
use Rattle.host_sessions.specs.declared.session.Begun.{Begun}
use Rattle.host_sessions.specs.declared.session.Session.{Session}
use Rattle.host_sessions.specs.declared.session.Session.TheVariants as session
use Rattle.host_sessions.specs.Steps.{HostView, with_session, with_domain, with_recent}
use Rattle.host_sessions.specs.Table.{session_slots}

-- a session of an ended process after so many of its slots were released: none was left if none was released
abbrev pub ended : Begun → ℕ → Session
ended b count = if count == 0 then session.Free
    else session.Begun (record { name = b.name; client = b.client; messages = b.messages; loans = b.loans; link = link.Ended })

-- how many slots were released: none of a client that was out already
abbrev pub count_of : Option ℕ → ℕ
count_of None = 0
count_of (Some count) = count

-- The client of a session leaves the domain, by at most as many slots as the list of freed frames has places. Its questions are
-- forgotten. The number is free if it had no slot.
pub record EndsBegun (n : ℕ) (b : Begun) (count : ℕ) (room after : List ℕ) (old new : HostView) : Type 0 where
  pub answer : Option ℕ
  pub leaves : MatchOption answer (StaysOut b.client room after old.domain new.domain) (λ c. Leaves b.client c room after old.domain new.domain)
  pub counted : count ≡ count_of answer
  pub now : new ≡ with_session (with_recent (with_domain old new.domain) (forgotten b.client old.recent)) n (ended b (count_of answer))

-- A session's process has ended. Its client leaves the domain by at most as many slots as the list of freed frames has places.
-- Nothing happens if there is no session.
abbrev pub Ends : ℕ → Session → Option ℕ → List ℕ → List ℕ → HostView → HostView → Type 0
Ends n session.Free result room after old new = (result ≡ None) × (after ≡ room) × (new ≡ old)
Ends n (session.Silent name) result room after old new = (result ≡ Some 0) × (after ≡ room) × (new ≡ with_session old n session.Free)
Ends n (session.Refused fault) result room after old new = (result ≡ Some 0) × (after ≡ room) × (new ≡ with_session old n session.Free)
Ends n (session.Begun b) None room after old new = ⊥
Ends n (session.Begun b) (Some count) room after old new = EndsBegun n b count room after old new

-- A session ends, and no slot is released.
pub record EndsAtOnce (n : ℕ) (s : Session) (old new : HostView) : Type 0 where
  pub count : Option ℕ
  pub room : List ℕ
  pub after : List ℕ
  pub ends : Ends n s count room after old new
  pub none : count_of count ≡ 0

-- A session that has no slots ends. One that has some stays as it is.
pub record EndsEmpty (n : ℕ) (s : Session) (result : Bool) (old new : HostView) : Type 0 where
  pub empty : session_slots old.domain.machines s ≡ 0 → (result ≡ true) × EndsAtOnce n s old new
  pub held : 1 ≤ session_slots old.domain.machines s → (result ≡ false) × (new ≡ old)
