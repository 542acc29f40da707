use Rattle.std.proofs.Common.{◌≡◌, ◌==◌, true, take}
use Rattle.std.specs.List.{list_all}
use Rattle.journal_text.proofs.writer.needs_salts.Given as goal

abbrev pub invariant-loop-salt : goal.invariant-loop-salt
invariant-loop-salt l = list_all (λ salt. salt == 0) (take l.salt-index l.salts) ≡ true
