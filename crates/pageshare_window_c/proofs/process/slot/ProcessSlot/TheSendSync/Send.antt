-- A slot may go to another thread, since what it owns may.
use denote.Param.Send.{IsSend, AllSend, owning_send, struct_send, sendable}
use denote.Struct.Owning.{shape, fields, to}
use denote.Struct.Struct.{exits_of}
use Rattle.std_alloc.proofs.SendSync.{quiet}
use Rattle.c_handles.proofs.Held.{held_keyless}
use Rattle.pageshare_window_c.proofs.process.held.HeldProcess.TheSendSync as core
use Rattle.pageshare_window_c.specs.ProcessHeld.{lender_row}
use Rattle.pageshare_window_c.specs.contracts.process.slot.ProcessSlot.{the_row, the_type}

pub send : IsSend the_row
send =
    let all : AllSend (fields the_type) = (search sendable, tt) in
    owning_send the_type all (λ d. held_keyless lender_row core.the_send d.at d.lender)
    (λ k. quiet (to the_type) (exits_of k (fields the_type)) ((struct_send (shape the_type) all).leaving k))
