use Rattle.frame_fingerprints.proofs.Search.{IsSearch}
use Rattle.frame_fingerprints.proofs.chains.Chains.find.Given as goal

abbrev pub invariant-loop : goal.invariant-loop
invariant-loop g l = IsSearch l.self.nodes l.fingerprint l.each l.tried l.at l.counter l.self.heads.items
