use Rattle.std.proofs.Common.{◌≡◌, take}
use Rattle.digest_text.proofs.name.GuestName.from_name.Given as goal

abbrev pub invariant-loop-byte : goal.invariant-loop-byte
invariant-loop-byte l = l.bytes.items ≡ take l.byte-index l.name
