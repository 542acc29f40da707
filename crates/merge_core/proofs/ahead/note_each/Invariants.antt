use Rattle.merge_core.specs.Kept.{OnlyNotes}
use Rattle.merge_core.proofs.ahead.note_each.Given as goal

abbrev pub invariant-loop-salt : goal.invariant-loop-salt
invariant-loop-salt g l = record {
  kept : OnlyNotes g.H.HashFunction.hash_of l.fn.held l.held;
}
