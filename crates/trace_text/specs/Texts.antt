-- A trace's text: what it says, or its first fault.
use Rattle.std.specs.Prelude.{ℕ, ◌+◌, ◌^◌, nat_lt, Bool, if◌then◌else◌, List, [], ◌∷◌, Result, Ok, Err, length}
use Rattle.text_words.specs.declared.fault.TextFault.{TextFault}
use Rattle.text_words.specs.declared.fault.TextFault.TheVariants as faults
use Rattle.text_words.specs.Words.{◌>>=◌}
use Rattle.text_words.specs.Lines.{line_at, at_line, lines_of, is_whole}
use Rattle.trace_text.specs.declared.step.Step.{Step}
use Rattle.trace_text.specs.declared.trace.Trace.{Trace}
use Rattle.trace_text.specs.Lines.{header_of, sizes_of, step_of}

-- what a trace says: how many pages and frames there are, and what happens and is seen, in order
pub record Said : Type 0 where
  pub pages : ℕ
  pub frames : ℕ
  pub steps : List Step

-- What the lines from number n on say. whole: no byte comes after the last line feed.
unfoldable pub steps_from : ℕ → Bool → List (List ℕ) → Result (List Step) TextFault
steps_from n whole [] = if whole then Ok [] else Err (faults.Truncated n)
steps_from n whole (line ∷ lines) =
    at_line n (step_of line) >>= λ step. steps_from (n + 1) whole lines >>= λ steps. Ok (step ∷ steps)

-- what a text says from line n on
abbrev pub steps_in : ℕ → List ℕ → Result (List Step) TextFault
steps_in n text = steps_from n (is_whole text) (lines_of text)

-- a trace's text of any length
unfoldable pub trace_in : List ℕ → Result Said TextFault
trace_in text = do
  first ← line_at 1 text
  _ ← at_line 1 (header_of first.0)
  second ← line_at 2 first.1
  sizes ← at_line 2 (sizes_of second.0)
  steps ← steps_in 3 second.1
  Ok (record { pages = sizes.0; frames = sizes.1; steps = steps })

-- What a trace's text says, or its first fault. That it has at most MAX_TEXT_BYTES is checked first.
unfoldable pub trace_of : List ℕ → Result Said TextFault
trace_of text = if nat_lt (2 ^ 26) (length text) then Err faults.Long else trace_in text

-- a trace as the definitions have it
abbrev pub said_by : {A : Type 0} → Trace A → Said
said_by trace = record { pages = trace.pages; frames = trace.frames; steps = trace.steps.items }
