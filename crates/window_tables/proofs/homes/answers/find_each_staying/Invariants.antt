use Rattle.window_tables.specs.Homes.{Answers, stays_at}
use Rattle.window_tables.proofs.homes.answers.find_each_staying.Given as goal

abbrev pub invariant-loop-n : goal.invariant-loop-n
invariant-loop-n l = Answers (stays_at l.table l.pins l.why l.first) l.first l.n l.pages l.fn.copies l.copies
