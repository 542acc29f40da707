-- Each session's client is its own.
use Rattle.std.specs.Prelude.{◌≡◌, ℕ, Bool, true, List, Option, slice_index_or}
use Rattle.share_domain.specs.declared.client.Presence.{Presence}
use Rattle.share_domain.specs.declared.client.Presence.TheVariants.{Out}
use Rattle.share_domain.specs.Totals.{is_present}
use Rattle.host_sessions.specs.declared.allowance.Allowance.{Allowance}
use Rattle.host_sessions.specs.declared.answer.Received.{Received}
use Rattle.host_sessions.specs.declared.config.HostConfig.{HostConfig}
use Rattle.host_sessions.specs.declared.session.Begun.{Begun}
use Rattle.host_sessions.specs.declared.session.Session.{Session}
use Rattle.host_sessions.specs.declared.session.Session.TheVariants as session
use Rattle.host_sessions.specs.Ends.{Ends, EndsEmpty}
use Rattle.host_sessions.specs.Made.{empty_host}
use Rattle.host_sessions.specs.Steps.{HostView, Receives, TakesBackAt, with_sessions, with_session}
use Rattle.host_sessions.specs.Table.{session_at, connected, next_number, gone}

-- each session that has begun has a client that has entered and isn't out, and no two sessions have the same
pub record AreOwn (sessions : List Session) (clients : List Presence) : Type 0 where
  pub here : (n : ℕ) (b : Begun) → session_at sessions n ≡ session.Begun b → is_present (slice_index_or clients b.client Out) ≡ true
  pub apart : (m n : ℕ) (b c : Begun) → session_at sessions m ≡ session.Begun b → session_at sessions n ≡ session.Begun c → b.client ≡ c.client → m ≡ n

abbrev pub HasOwn : HostView → Type 0
HasOwn h = AreOwn h.sessions h.domain.clients

-- it is so in a host with no session, and each call keeps it so
abbrev pub EmptyHasOwn : Type 0
EmptyHasOwn = (config : HostConfig) → HasOwn (empty_host config)

abbrev pub ConnectKeepsOwn : Type 0
ConnectKeepsOwn = (name : List ℕ) (h : HostView) → HasOwn h → HasOwn (with_sessions h (connected name (next_number h.sessions) h.sessions))

abbrev pub ReceiveKeepsOwn : Type 0
ReceiveKeepsOwn = (n : ℕ) (bytes : List ℕ) (pages : List (List ℕ)) (may : Allowance) (received : Received) (old new : HostView)
    → HasOwn old → Receives n bytes pages may received old new → HasOwn new

abbrev pub TakeBackKeepsOwn : Type 0
TakeBackKeepsOwn = (n : ℕ) (frames : List ℕ) (received : Received) (old new : HostView) → HasOwn old → TakesBackAt n (session_at old.sessions n) frames received old new → HasOwn new

abbrev pub DisconnectKeepsOwn : Type 0
DisconnectKeepsOwn = (n : ℕ) (h : HostView) → HasOwn h → HasOwn (with_session h n (gone (session_at h.sessions n)))

abbrev pub EndKeepsOwn : Type 0
EndKeepsOwn = (n : ℕ) (result : Option ℕ) (room after : List ℕ) (old new : HostView) → HasOwn old → Ends n (session_at old.sessions n) result room after old new → HasOwn new

abbrev pub EndEmptyKeepsOwn : Type 0
EndEmptyKeepsOwn = (n : ℕ) (result : Bool) (old new : HostView) → HasOwn old → EndsEmpty n (session_at old.sessions n) result old new → HasOwn new
