-- The numbers of a domain, and the first cause for which there is none with these numbers.
use Rattle.std.specs.Prelude.{ℕ, ◌*◌, Bool, ◌==◌, not, nat_lt, if◌then◌else◌}
use Rattle.c_surface.specs.Shapes.{shape_status}
use Rattle.c_surface.specs.declared.status.TheConstants as status
use Rattle.share_domain.specs.declared.config.DomainConfig.{DomainConfig}
use Rattle.pageshare_c.specs.declared.make.TheConstants.{WIDE_SHA256}
use Rattle.pageshare_c.specs.declared.shape.DomainShape.{DomainShape}

-- what share_domain takes of the numbers
abbrev pub config_of : DomainShape → DomainConfig
config_of s = record { machines = s.machines; slots = s.slots; frames = s.frames; clients = s.clients; salt = s.salt }

-- the first cause for which no domain is made, or OK: whether the handle holds one, the hash, and the numbers
abbrev pub make_cause : DomainShape → ℕ → Bool → ℕ
make_cause s hash used = if used then status.IN_USE else if nat_lt WIDE_SHA256 hash then status.HASH else shape_status (config_of s) s.recent

-- the same where the caller has room for so many pages
abbrev pub begin_cause : DomainShape → ℕ → ℕ → Bool → ℕ
begin_cause s hash pages used =
    if not (make_cause s hash used == status.OK) then make_cause s hash used
    else if pages == s.machines * s.frames then status.OK else status.REGION
