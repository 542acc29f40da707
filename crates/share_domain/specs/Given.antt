-- The frames of a domain's machines, of which some are there.
use Rattle.std.specs.Prelude.{◌≡◌, ℕ, ◌+◌, ◌≤◌, List, length, replicate}
use Rattle.page_model.specs.declared.limits.TheConstants.{MAX_FRAMES}
use Rattle.machine_frames.specs.FrameMap.{FrameMap, no_frames}

-- how many machines there are, how many frames each has, and how many machines have theirs
pub record Given : Type 0 where
  pub machines : ℕ
  pub each : ℕ
  pub given : ℕ

abbrev pub none_given : ℕ → ℕ → Given
none_given machines each = record { machines = machines; each = each; given = 0 }

abbrev pub one_more : Given → Given
one_more g = record g { given = g.given + 1 }

-- those that are there are free, and there is room for the others
pub record AreGiven (machines each : ℕ) (frames : List FrameMap) (room : ℕ) : Type 0 where
  pub some : 1 ≤ each
  pub limit : each ≤ MAX_FRAMES
  pub free : frames ≡ replicate (length frames) (no_frames each)
  pub few : length frames ≤ machines
  pub room_for_all : machines ≤ room
