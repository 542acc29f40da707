use Rattle.std.proofs.Common.{◌≡◌, ◌≤◌, map, vec_len, vec_capacity}
use Rattle.std.specs.Prelude.{filter}
use Rattle.std.specs.List.{range_with_len}
use Rattle.page_census.specs.Counted.{counted_class}
use Rattle.page_census.specs.Numbers.{fewest, has_contents, most}
use Rattle.page_census.proofs.table.copies_table.Given as goal

abbrev pub invariant-loop-number : goal.invariant-loop-number
invariant-loop-number g l = record {
  table : l.table.items ≡ filter has_contents (map (λ number. counted_class l.copies (fewest number) (most number)) (range_with_len 0 l.number));
  len : vec_len l.table ≤ l.number;
  room : 33 ≤ vec_capacity l.table;
}
