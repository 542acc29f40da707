-- What a text says from a line on, by its first line.
use Rattle.std.proofs.Common.{◌≡◌, ℕ, ◌+◌, ◌<◌, ◌==◌, Bool, true, false, cond, List, [], ◌∷◌, ◌++◌, length, refl, sym, ap, ◌∙◌, arith, Ok, Err, append-nil}
use Rattle.std.specs.List.{position_or_len, before_first, after_first}
use Rattle.std.proofs.lemmas.Bool.{eqb-true, ne_eqb, false≢true}
use Rattle.text_words.specs.Lines.{is_feed, lines_of, is_whole, onto_line}
use Rattle.text_words.specs.Words.{with_front}
use Rattle.text_words.specs.declared.fault.Cause.{Cause}
use Rattle.text_words.specs.declared.fault.TextFault.TheVariants as faults
use Rattle.text_words.proofs.Cuts.{front_on}
use Rattle.text_words.proofs.Lines.{lines_step, lines_end, whole_step}
use Rattle.trace_text.specs.declared.step.Step.{Step}
use Rattle.trace_text.specs.Lines.{step_of}
use Rattle.trace_text.specs.Texts.{steps_from, steps_in}

-- one more line
pub next_step : (n : ℕ) (front : List Step) (text line more : List ℕ) (step : Step) → position_or_len is_feed text < length text → line ≡ before_first is_feed text → more ≡ after_first is_feed text
    → step_of line ≡ Ok step → with_front front (steps_in n text) ≡ with_front (front ++ step ∷ []) (steps_in (n + 1) more)
unfolding steps_from
next_step n front text line more step within is behind said =
    let read : step_of (before_first is_feed text) ≡ Ok step = ap step_of (sym is) ∙ said in
    rw (behind, whole_step text within, lines_step text within, read) (front_on front step (steps_from (n + 1) (is_whole (after_first is_feed text)) (lines_of (after_first is_feed text))))

pub fault_step : (n : ℕ) (front : List Step) (text line : List ℕ) (cause : Cause) → position_or_len is_feed text < length text → line ≡ before_first is_feed text
    → step_of line ≡ Err cause → with_front front (steps_in n text) ≡ Err (faults.Line n cause)
unfolding steps_from
fault_step n front text line cause within is said =
    let read : step_of (before_first is_feed text) ≡ Err cause = ap step_of (sym is) ∙ said in
    rw (lines_step text within, read) refl

-- no more lines
pub last_step : (n : ℕ) (front : List Step) (text : List ℕ) → (length text == 0) ≡ true → with_front front (steps_in n text) ≡ Ok front
unfolding steps_from
last_step n front [] e = ap Ok (append-nil front)
last_step n front (b ∷ text) e = absurd (let none : length (b ∷ text) ≡ 0 = eqb-true (length (b ∷ text)) 0 e in omega (arith, none))

none_onto : (b : ℕ) (lines : List (List ℕ)) → onto_line b lines ≡ [] → lines ≡ []
none_onto b [] h = refl
none_onto b (line ∷ lines) h = cc

not_whole : (text : List ℕ) → lines_of text ≡ [] → (length text == 0) ≡ false → is_whole text ≡ false
not_whole [] none e = absurd (false≢true (sym e))
not_whole (b ∷ []) none e = one (is_feed b) none where
  one : (t : Bool) → cond {A = List (List ℕ)} t ([] ∷ []) [] ≡ [] → t ≡ false
  one true h = cc
  one false h = refl
not_whole (b ∷ c ∷ text) none e = not_whole (c ∷ text) (more (is_feed b) none) (ne_eqb (length (c ∷ text)) 0 (λ k. omega arith)) where
  more : (t : Bool) → cond {A = List (List ℕ)} t ([] ∷ lines_of (c ∷ text)) (onto_line b (lines_of (c ∷ text))) ≡ [] → lines_of (c ∷ text) ≡ []
  more true h = cc
  more false h = none_onto b (lines_of (c ∷ text)) h

pub cut_step : (n : ℕ) (front : List Step) (text : List ℕ) → position_or_len is_feed text ≡ length text → (length text == 0) ≡ false → with_front front (steps_in n text) ≡ Err (faults.Truncated n)
unfolding steps_from
cut_step n front text all some = rw (lines_end text all, not_whole text (lines_end text all) some) refl
