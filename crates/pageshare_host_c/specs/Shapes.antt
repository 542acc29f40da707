-- The numbers of a host, and the first cause for which there is none with these numbers.
use Rattle.std.specs.Prelude.{ℕ, Bool, if◌then◌else◌}
use Rattle.c_surface.specs.Shapes.{shape_status}
use Rattle.c_surface.specs.declared.status.TheConstants as status
use Rattle.host_sessions.specs.declared.config.HostConfig.{HostConfig}
use Rattle.host_sessions.specs.Made.{AreHostLimits}
use Rattle.pageshare_host_c.specs.declared.shape.HostShape.{HostShape}

-- what a host is made of
abbrev pub config_of : HostShape → HostConfig
config_of s = record {
  domain = record { machines = s.machines; slots = s.slots; frames = s.frames; clients = s.sessions; salt = s.salt };
  recent = s.recent;
  seed = s.seed;
  salt = s.fingerprints;
  quota = s.quota;
  client_cpu = s.client_cpu;
}

-- the first cause for which no host is begun, or OK: whether the handle holds one, and the numbers
abbrev pub begin_cause : HostShape → Bool → ℕ
begin_cause s used = if used then status.IN_USE else shape_status (config_of s).domain s.recent

-- there is a host with these numbers
pub record IsFit (s : HostShape) : Type 0 where
  pub limits : AreHostLimits (config_of s)
