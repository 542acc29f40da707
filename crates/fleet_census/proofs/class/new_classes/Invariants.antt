use Rattle.std.proofs.Common.{◌≡◌, map, vec_len, vec_capacity}
use Rattle.std.specs.List.{range_with_len}
use Rattle.fleet_census.specs.Classes.{no_contents}
use Rattle.fleet_census.proofs.class.new_classes.Given as goal

abbrev pub invariant-loop-number : goal.invariant-loop-number
invariant-loop-number g l = record {
  classes : l.classes.items ≡ map no_contents (range_with_len 0 l.number);
  len : vec_len l.classes ≡ l.number;
  room : vec_capacity l.classes ≡ 65;
}
