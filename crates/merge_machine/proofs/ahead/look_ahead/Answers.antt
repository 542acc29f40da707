use Rattle.std.proofs.Common.{subst, sym}
use Rattle.merge_machine.specs.Ahead.{Finds}
use Rattle.merge_machine.proofs.ahead.look_ahead.Goals as goal

-- the journal has room
pub returns : goal.returns
returns g c = subst (λ full. Finds full c.args.end.now c.take_next.new.end c.take_next.result) (sym c.if-is_full.false) c.take_next.ensures
