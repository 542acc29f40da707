use Rattle.std.proofs.Common.{◌≡◌, length}
use Rattle.part_scans.proofs.Kept.{Noted}
use Rattle.part_scans.proofs.glances.find_numbers.Given as goal

abbrev pub invariant-loop-k : goal.invariant-loop-k
invariant-loop-k l = record {
  noted : Noted l.first l.pages l.places l.k l.numbers;
  length : length l.numbers ≡ length l.fn.numbers;
}
