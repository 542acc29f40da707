-- Several threads may read rooms.
use denote.Array.{Array}
use denote.Builtin.{u8}
use denote.Param.Send.{IsSync, array_sync, struct_sync, view_sync, sendable}
use denote.Struct.Declared as declared
use denote.Struct.Owning.{shape, to}
use Rattle.machine_frames.proofs.Crossing.{slots_sync}
use Rattle.machine_frames.specs.contracts.region.Memory as memory
use Rattle.machine_frames.specs.contracts.rooms.Rooms.TheInside as inside
use Rattle.machine_frames.specs.contracts.rooms.Rooms.{the_row}

page_sync : IsSync (Array u8 4096)
page_sync = array_sync u8 4096 (search sendable)

memory_sync : IsSync memory.the_field.row
memory_sync = struct_sync (declared.shape memory.the_type) (slots_sync (Array u8 4096) page_sync, tt)

inside_sync : IsSync inside.the_row
inside_sync =
    let O = inside.the_type in
    record { shared = λ d b o κ. ((struct_sync (shape O) (memory_sync, (search sendable, tt))).shared (to O d) b o κ, tt) }

pub sync : IsSync the_row
sync = view_sync _ _ _ _ _ inside_sync
