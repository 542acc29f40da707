use Rattle.std.proofs.Common.{◌≡◌, ◌++◌, drop, vec_len, vec_capacity, length, ◌≤◌}
use Rattle.page_model.specs.Limits.{shapes}
use Rattle.merge_core.specs.Pmap.{empty_pmap}
use Rattle.merge_core.specs.View.{pmap_in}
use Rattle.merge_core.proofs.make.new_guests.Given as goal

abbrev pub invariant-loop-i : goal.invariant-loop-i
invariant-loop-i g l = record {
  made : pmap_in l.guests.items ++ empty_pmap (shapes (drop l.i l.salts) (drop l.i l.pages)) ≡ empty_pmap (shapes l.salts l.pages);
  len : vec_len l.guests ≡ l.i;
  room : length l.pages ≤ vec_capacity l.guests;
}
