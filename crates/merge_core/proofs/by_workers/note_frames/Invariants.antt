use Rattle.merge_core.specs.Kept.{OnlyNotes}
use Rattle.merge_core.proofs.by_workers.note_frames.Given as goal

abbrev pub invariant-loop-n : goal.invariant-loop-n
invariant-loop-n g l = record {
  kept : OnlyNotes g.H.HashFunction.hash_of l.fn.held l.held;
}
