-- Rooms may go to another thread: they own pages, and room for pages, that nobody else has.
use denote.Array.{Array}
use denote.Builtin.{u8}
use denote.Param.Send.{IsSend, AllSend, array_send, owning_send, struct_send, view_send, sendable}
use denote.Struct.Declared as declared
use denote.Struct.Owning.{shape, fields, to}
use denote.Struct.Struct.{exits_of}
use Rattle.std_alloc.proofs.SendSync.{quiet}
use Rattle.machine_frames.proofs.Crossing.{slots_send}
use Rattle.machine_frames.specs.contracts.region.Memory as memory
use Rattle.machine_frames.specs.contracts.rooms.Rooms.TheInside as inside
use Rattle.machine_frames.specs.contracts.rooms.Rooms.{the_row}

page_send : IsSend (Array u8 4096)
page_send = array_send u8 4096 (search sendable)

memory_send : IsSend memory.the_field.row
memory_send = struct_send (declared.shape memory.the_type) (slots_send (Array u8 4096) page_send, tt)

inside_send : IsSend inside.the_row
inside_send =
    let O = inside.the_type in let all : AllSend (fields O) = (memory_send, (search sendable, tt)) in
    owning_send O all (λ d. tt) (λ k. quiet (to O) (exits_of k (fields O)) ((struct_send (shape O) all).leaving k))

pub send : IsSend the_row
send = view_send _ _ _ _ _ inside_send
