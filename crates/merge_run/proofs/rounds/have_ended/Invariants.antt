use Rattle.merge_run.specs.Turns.{HaveEnded}
use Rattle.merge_run.proofs.rounds.have_ended.Given as goal

abbrev pub invariant-loop-guest : goal.invariant-loop-guest
invariant-loop-guest g l = record {
  ended : HaveEnded l.guest l.fn.ends;
}
