use Rattle.std.proofs.Common.{◌≡◌, ◌-◌, ◌^◌, min, take}
use Rattle.std.specs.Prelude.{sum_by}
use Rattle.report_text.specs.Reclaimed.{within_guest}
use Rattle.report_text.proofs.reclaimed.within_guests.Given as goal

abbrev pub invariant-loop-guest : goal.invariant-loop-guest
invariant-loop-guest l = record {
  sum : l.sum ≡ min (sum_by within_guest (take l.guest-index l.guests)) (2 ^ 64 - 1);
}
