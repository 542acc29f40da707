-- The line that says how a trace's play ended. Lines are counted from 1, and the first step is on line 3.
use Rattle.std.specs.Prelude.{ℕ, ◌+◌, List, ◌++◌, codes, decimal}
use Rattle.trace_text.specs.declared.outcome.Outcome.{Outcome}
use Rattle.trace_text.specs.declared.outcome.Outcome.TheVariants.{Right, NotPossible, Differs, NoPage}

-- the words that begin a line about a step
abbrev pub at_step : ℕ → List ℕ
at_step place = codes "line " ++ (decimal (place + 3) ++ codes ": ")

-- what the line says of a play in which each step was right
unfoldable pub possible_words : List ℕ
possible_words = codes " events, each possible; "

unfoldable pub shown_words : List ℕ
shown_words = codes " pages shown right"

abbrev pub right_line : ℕ → ℕ → List ℕ
right_line events looks = decimal events ++ (possible_words ++ (decimal looks ++ shown_words))

-- the line, without a line feed
unfoldable pub outcome_line : Outcome → List ℕ
outcome_line (Right events looks) = right_line events looks
outcome_line (NotPossible place) = at_step place ++ codes "not possible"
outcome_line (Differs place page seen said) =
    at_step place ++ (codes "page " ++ (decimal page ++ (codes " shows " ++ (decimal seen ++ (codes ", not " ++ decimal said)))))
outcome_line (NoPage place page) = at_step place ++ (codes "no page " ++ decimal page)
