use Rattle.std.proofs.Common.{◌≡◌, ◌+◌, ◌++◌, map, take}
use Rattle.arrayvec.specs.ArrayVec.{array_vec_len}
use Rattle.host_messages.specs.HostSpelling.{answer_byte}
use Rattle.host_messages.proofs.host.put_answers.Given as goal

abbrev pub invariant-loop-answer : goal.invariant-loop-answer
invariant-loop-answer l = record {
  bytes : l.packet.items ≡ l.fn.packet.items ++ map answer_byte (take l.answer-index l.answers);
  len : array_vec_len l.packet ≡ array_vec_len l.fn.packet + l.answer-index;
}
