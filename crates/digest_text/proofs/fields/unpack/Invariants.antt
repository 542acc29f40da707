use Rattle.std.proofs.Common.{◌≡◌, ◌*◌, length, take, drop}
use Rattle.hex.specs.Hex.{decode_pairs}
use Rattle.hex.proofs.Pairs.{prepend}
use Rattle.digest_text.proofs.fields.unpack.Given as goal

abbrev pub invariant-loop-at : goal.invariant-loop-at
invariant-loop-at l = record {
  long : length l.bytes ≡ 16;
  decoded : decode_pairs 0 l.word ≡ prepend (take l.at l.bytes) (decode_pairs (2 * l.at) (drop (2 * l.at) l.word));
}
