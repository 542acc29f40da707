-- A domain that was begun, and waits for frames of its machines.
use Rattle.std.specs.Prelude.{◌≡◌, ℕ, ◌<◌, ◌≤◌}
use Rattle.recent_fingerprints.specs.Notes.{Recent}
use Rattle.pageshare_c.specs.declared.make.TheConstants.{WIDE_SHA256}
use Rattle.share_domain.specs.Given.{Given}
use Rattle.pageshare_c.specs.declared.shape.DomainShape.{DomainShape}
use Rattle.c_surface.specs.Shapes.{IsFit}
use Rattle.pageshare_c.specs.Shapes.{config_of}

-- a domain that was begun: its numbers, its hash, how many machines have their frames, and the questions
pub record BegunView : Type 0 where
  pub shape : DomainShape
  pub hash : ℕ
  pub given : ℕ
  pub recent : Recent

-- it waits for the frames of one machine at least
pub record Waits (shape : DomainShape) (hash : ℕ) (given : Given) : Type 0 where
  pub fit : IsFit (config_of shape) shape.recent
  pub known : hash ≤ WIDE_SHA256
  pub machines : given.machines ≡ shape.machines
  pub each : given.each ≡ shape.frames
  pub more : given.given < given.machines
