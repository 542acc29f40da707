use Rattle.std.proofs.Common.{ℕ, Result, Ok, Err}
use Rattle.std.specs.Prelude.{IfOk}
use Rattle.text_words.specs.declared.fault.Cause.{Cause}
use Rattle.journal_text.specs.declared.request.Line.{Line}
use Rattle.journal_text.specs.declared.request.Line.TheVariants.{Enters, Ends}
use Rattle.journal_text.specs.declared.said.SaidBy.{SaidBy}
use Rattle.journal_text.specs.Requests.{IsEnd}
use Rattle.journal_text.specs.Asked.{IsSaidBelow}
use Rattle.journal_text.proofs.request.read_line.Goals as goal

end_below : (n : ℕ) (r : Result (Line SaidBy) Cause) → IfOk r IsEnd → IfOk r (λ l. IsSaidBelow n l)
end_below n (Ok (Enters e)) h = absurd h
end_below n (Ok (Ends count)) h = tt
end_below n (Err cause) h = tt

pub returns-then-eq-clause-below : goal.returns-then-eq-clause-below
returns-then-eq-clause-below c = end_below _ _ c.end.ensures.ends
