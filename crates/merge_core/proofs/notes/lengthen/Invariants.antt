use Rattle.std.proofs.Common.{◌≡◌, ◌+◌, ◌++◌, length, replicate, vec_capacity}
use Rattle.merge_core.specs.Pmap.{unknown}
use Rattle.merge_core.specs.Noted.{notes_in}
use Rattle.merge_core.proofs.notes.lengthen.Given as goal

abbrev pub invariant-loop : goal.invariant-loop
invariant-loop g l = record {
  made : notes_in l.notes.items ≡ notes_in l.fn.notes.items ++ replicate l.counter unknown;
  size : length l.notes.items ≡ length l.fn.notes.items + l.counter;
  capacity : vec_capacity l.notes ≡ vec_capacity l.fn.notes;
}
