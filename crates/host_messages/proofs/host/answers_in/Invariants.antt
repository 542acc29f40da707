use Rattle.std.proofs.Common.{◌≡◌, map, take}
use Rattle.arrayvec.specs.ArrayVec.{array_vec_len}
use Rattle.host_messages.specs.HostReading.{answer_of}
use Rattle.host_messages.proofs.host.answers_in.Given as goal

abbrev pub invariant-loop-byte : goal.invariant-loop-byte
invariant-loop-byte l = record {
  answers : l.answers.items ≡ map answer_of (take l.byte-index l.bytes);
  len : array_vec_len l.answers ≡ l.byte-index;
}
