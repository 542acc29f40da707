use Rattle.std.proofs.Common.{◌≡◌, ◌≤◌, length, take, vec_capacity, vec_len}
use Rattle.std.specs.Prelude.{filter}
use Rattle.fleet_census.specs.Classes.{has_contents}
use Rattle.fleet_census.proofs.class.push_classes.Given as goal

abbrev pub invariant-loop-class : goal.invariant-loop-class
invariant-loop-class g l = record {
  kept : l.copies.items ≡ filter has_contents (take l.class-index l.classes);
  len : vec_len l.copies ≤ l.class-index;
  room : length l.classes ≤ vec_capacity l.copies;
}
