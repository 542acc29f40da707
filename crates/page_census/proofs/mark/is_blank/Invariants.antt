use Rattle.std.proofs.Common.{◌≡◌, take}
use Rattle.page_census.proofs.Blank.{all_bits}
use Rattle.page_census.proofs.mark.is_blank.Given as goal

abbrev pub invariant-loop-byte : goal.invariant-loop-byte
invariant-loop-byte l = l.bits ≡ all_bits (take l.byte-index l.page)
