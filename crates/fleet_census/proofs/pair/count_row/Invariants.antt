use Rattle.std.proofs.Common.{◌≡◌, ◌<◌, ℕ, length, take, get_or}
use Rattle.std.specs.Prelude.{Some}
use Rattle.fleet_census.specs.Holders.{AreRising, found}
use Rattle.fleet_census.specs.Pairs.{no_pair, pair_after}
use Rattle.fleet_census.proofs.pair.count_row.Given as goal

abbrev pub invariant-loop-other : goal.invariant-loop-other
invariant-loop-other g l = record {
  len : length l.row.items ≡ length l.fn.row.items;
  counted : AreRising l.others → (other : ℕ) → other < length l.fn.row.items → get_or l.row.items other no_pair
      ≡ pair_after l.content (get_or l.fn.row.items other no_pair) (Some l.holder) (found other (take l.other-index l.others));
}
