use Rattle.std.proofs.Common.{◌≡◌, ◌≤◌, take}
use Rattle.std.specs.Prelude.{sum_by}
use Rattle.report_picture.specs.Parts.{zero_under}
use Rattle.report_picture.proofs.bar.has_zeros.Given as goal

abbrev pub invariant-loop-guest : goal.invariant-loop-guest
invariant-loop-guest l = record {
  sum : l.zeros ≡ sum_by (zero_under l.salt) (take l.guest-index l.guests);
  few : l.zeros ≤ 1;
}
