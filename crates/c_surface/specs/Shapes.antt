-- The numbers of a domain, and the first cause for which there is none with these numbers.
use Rattle.std.specs.Prelude.{ℕ, ◌≤◌, Option, Some, None, if◌then◌else◌}
use Rattle.recent_fingerprints.specs.declared.limits.TheConstants.{MAX_PLACES}
use Rattle.share_domain.specs.declared.config.DomainConfig.{DomainConfig}
use Rattle.share_domain.specs.declared.fault.DomainFault.{DomainFault}
use Rattle.share_domain.specs.Made.{AreLimits, is_outside, limit_fault}
use Rattle.c_surface.specs.Statuses.{domain_status}
use Rattle.c_surface.specs.declared.status.TheConstants as status

-- the status of the domain's fault, or if it has none, of how many questions it remembers
abbrev pub fault_status : Option DomainFault → ℕ → ℕ
fault_status (Some fault) recent = domain_status fault
fault_status None recent = if is_outside 1 MAX_PLACES recent then status.RECENT else status.OK

-- the status of the first number that no domain has, or OK: the domain's own, and how many questions it remembers
abbrev pub shape_status : DomainConfig → ℕ → ℕ
shape_status config recent = fault_status (limit_fault config) recent

-- there is a domain with these numbers, which remembers so many questions
pub record IsFit (config : DomainConfig) (places : ℕ) : Type 0 where
  pub limits : AreLimits config
  pub some_recent : 1 ≤ places
  pub recent : places ≤ MAX_PLACES
