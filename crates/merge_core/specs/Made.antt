-- A machine before its first request.
use Rattle.std.specs.Prelude.{◌≡◌, length}
use Rattle.page_model.specs.Limits.{shapes}
use Rattle.page_model.specs.Parts.{MachineParts}
use Rattle.page_model.specs.Replay.{empty_state}
use Rattle.machine_frames.specs.FrameMap.{no_frames}
use Rattle.share_table.specs.TableMaps.{empty_table}
use Rattle.merge_core.specs.Shown.{Shown, state_of}

-- the machine has this shape: no page is mapped, all frames are free, and its table holds nothing
pub record IsNew (shape : MachineParts) (core : Shown) : Type 0 where
  pub empty : state_of core ≡ empty_state shape.frames (shapes shape.salts shape.pages)
  pub guests : length (state_of core).guests ≡ length shape.pages
  pub frames : core.frames ≡ no_frames shape.frames
  pub table : core.table ≡ empty_table shape.frames
