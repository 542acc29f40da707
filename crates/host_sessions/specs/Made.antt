-- A host before its first connection.
use Rattle.std.specs.Prelude.{ℕ, ◌*◌, ◌≤◌, replicate}
use Rattle.recent_fingerprints.specs.declared.limits.TheConstants.{MAX_PLACES}
use Rattle.recent_fingerprints.specs.Notes.{nothing_noted}
use Rattle.share_domain.specs.Made.{AreLimits, empty_domain}
use Rattle.host_sessions.specs.declared.config.HostConfig.{HostConfig}
use Rattle.host_sessions.specs.declared.session.Session.TheVariants as session
use Rattle.host_sessions.specs.Table.{no_loans}
use Rattle.host_sessions.specs.Steps.{HostView}

abbrev pub ArePlaces : ℕ → Type 0
ArePlaces n = (1 ≤ n) × (n ≤ MAX_PLACES)

-- there may be a host with these numbers
pub record AreHostLimits (config : HostConfig) : Type 0 where
  pub domain : AreLimits config.domain
  pub recent : ArePlaces config.recent

-- a host with no session: as many may be there as the domain has clients
abbrev pub empty_host : HostConfig → HostView
empty_host config = record {
  frames = config.domain.machines * config.domain.frames;
  salt = config.salt;
  quota = config.quota;
  client_cpu = config.client_cpu;
  domain = empty_domain config.domain;
  recent = nothing_noted config.recent config.domain.clients config.seed;
  sessions = replicate config.domain.clients session.Free;
  last = replicate config.domain.clients no_loans;
}
