-- The pages that a storage has.
use Rattle.machine_frames.specs.PageLists.{PageList}
use Rattle.machine_frames.specs.declared.storage.Storage.{Storage}
use Rattle.machine_frames.specs.declared.storage.Storage.TheVariants.{Blocks, Rooms}

module _ {A : Type 0} where
  abbrev pub stored_in : Storage A → PageList
  stored_in (Blocks blocks) = blocks
  stored_in (Rooms rooms) = rooms
