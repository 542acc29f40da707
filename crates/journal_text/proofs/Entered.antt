-- What a reader of lines returns, with an entry in place of what was said.
use Rattle.std.proofs.Common.{◌≡◌, ℕ, List, Option, Some, None, Result, Ok, Err, refl, ap, ◌∙◌}
use Rattle.text_words.specs.declared.fault.Cause.{Cause}
use Rattle.journal_text.specs.declared.request.Line.{Line}
use Rattle.journal_text.specs.declared.request.Line.TheVariants.{Ends}
use Rattle.journal_text.specs.declared.said.SaidBy.{SaidBy}
use Rattle.text_words.specs.Words.{◌>>=◌, nothing_at, number_at}
use Rattle.journal_text.specs.Requests.{end_at}
use Rattle.journal_text.specs.Asked.{all_entered}

-- an end line has no entry
pub end_entered : (left : Option (List ℕ)) (r : Result (Line SaidBy) Cause) → r ≡ end_at left → all_entered r ≡ end_at left
unfolding end_at
end_entered left r same = ap all_entered same ∙ by (number_at left) where
  by : (read : Result (ℕ × Option (List ℕ)) Cause) → all_entered (read >>= λ count. nothing_at count.1 >>= λ _. Ok (Ends count.0)) ≡ (read >>= λ count. nothing_at count.1 >>= λ _. Ok (Ends count.0))
  by (Ok (n, None)) = refl
  by (Ok (n, Some bytes)) = refl
  by (Err cause) = refl
