use Rattle.std.proofs.Common.{All}
use Rattle.merge_core.specs.Hashing.{IsPaged}
use Rattle.merge_core.specs.Kept.{OnlyNotes}
use Rattle.merge_core.specs.View.{pmap_of}
use Rattle.merge_core.proofs.ahead.note_hashes.Given as goal

abbrev pub invariant-loop-guest : goal.invariant-loop-guest
invariant-loop-guest g l = record {
  kept : OnlyNotes g.H.HashFunction.hash_of l.fn.held l.held;
  waiting : All (λ pair. IsPaged (pmap_of l.fn.held) pair.0 pair.1) l.waiting.items;
}
