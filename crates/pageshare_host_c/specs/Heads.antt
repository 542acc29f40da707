-- What a packet says, before a session receives it.
use Rattle.std.specs.Prelude.{length, Result, Ok, Err}
use Rattle.host_messages.specs.declared.client.ClientMessage.{ClientMessage}
use Rattle.host_messages.specs.declared.client.ClientMessage.TheVariants as client
use Rattle.host_messages.specs.declared.fault.MessageFault.{MessageFault}
use Rattle.host_messages.specs.declared.limits.TheConstants.{HELLO, ASK, LEND, RELEASE}
use Rattle.pageshare_host_c.specs.declared.read.PacketHead.{PacketHead}

abbrev pub message_head : ClientMessage → PacketHead
message_head (client.Hello wanted) = record { kind = HELLO; count = 0 }
message_head (client.Ask questions) = record { kind = ASK; count = length questions.items }
message_head (client.Lend count) = record { kind = LEND; count = count }
message_head (client.Release slots) = record { kind = RELEASE; count = length slots.items }

-- bytes that are no message say nothing
abbrev pub head_of : Result ClientMessage MessageFault → PacketHead
head_of (Ok message) = message_head message
head_of (Err fault) = record { kind = 0; count = 0 }
