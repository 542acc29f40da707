-- The packet that replies to a packet.
use Rattle.std.specs.Prelude.{ℕ, List, []}
use Rattle.host_messages.specs.declared.host.HostMessage.TheVariants as host
use Rattle.host_messages.specs.HostSpelling.{host_bytes}
use Rattle.host_sessions.specs.declared.answer.Received.{Received}
use Rattle.host_sessions.specs.declared.answer.Received.TheVariants as got

-- no bytes: there is no reply
abbrev pub reply_of : Received → List ℕ
reply_of got.NoSession = []
reply_of (got.Fault fault) = []
reply_of (got.Welcome welcome) = host_bytes (host.Welcome welcome)
reply_of (got.Resumed welcome before freed) = host_bytes (host.Welcome welcome)
reply_of (got.Seen answers) = host_bytes (host.Seen answers)
reply_of (got.Loans loans) = host_bytes (host.Loans loans)
reply_of (got.Released freed) = []
