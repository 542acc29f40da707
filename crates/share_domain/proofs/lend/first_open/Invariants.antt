use Rattle.share_domain.proofs.Open.{NoneOpen}
use Rattle.share_domain.proofs.lend.first_open.Given as goal

-- no machine so far is open
abbrev pub invariant-loop-m : goal.invariant-loop-m
invariant-loop-m g l = NoneOpen l.machines.items l.m
