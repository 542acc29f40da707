-- A host that was begun, and waits for frames of its machines.
use Rattle.std.specs.Prelude.{◌≡◌, ℕ, ◌<◌}
use Rattle.share_domain.specs.Given.{Given}
use Rattle.pageshare_host_c.specs.declared.shape.HostShape.{HostShape}
use Rattle.pageshare_host_c.specs.Shapes.{IsFit}

-- a host that was begun: its numbers, and how many machines have their frames
pub record WaitingView : Type 0 where
  pub shape : HostShape
  pub given : ℕ

-- it waits for the frames of one machine at least
pub record Waits (shape : HostShape) (given : Given) : Type 0 where
  pub fit : IsFit shape
  pub machines : given.machines ≡ shape.machines
  pub each : given.each ≡ shape.frames
  pub more : given.given < given.machines
