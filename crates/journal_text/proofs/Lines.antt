-- What a text enters, line by line.
use Rattle.std.proofs.Common.{◌≡◌, ℕ, ◌+◌, ◌<◌, Bool, true, false, ◌&&◌, cond, List, [], ◌∷◌, ◌++◌, length, refl, sym, ap, ◌∙◌, arith, ◌==◌, Result, Ok, Err}
use Rattle.std.specs.List.{position_or_len, before_first, after_first}
use Rattle.std.proofs.lemmas.Bool.{ne_eqb}
use Rattle.page_model.specs.declared.request.Entry.{Entry}
use Rattle.journal_text.specs.declared.request.Line.TheVariants.{Enters, Ends}
use Rattle.journal_text.specs.declared.request.Line.{Line}
use Rattle.text_words.specs.Lines.{is_feed, lines_of, is_whole, onto_line}
use Rattle.text_words.specs.Words.{with_front}
use Rattle.journal_text.specs.Texts.{is_none, body_from, body_in, ended, nothing_more, AreBelow}
use Rattle.std.proofs.lemmas.Grind.{elements}
use Rattle.text_words.specs.declared.fault.Cause.{Cause}
use Rattle.text_words.specs.declared.fault.TextFault.TheVariants as faults
use Rattle.text_words.proofs.Cuts.{front_on}
use Rattle.text_words.proofs.Lines.{lines_step, whole_step, lines_end}

none_onto : (b : ℕ) (lines : List (List ℕ)) → is_none (onto_line b lines) ≡ is_none lines
none_onto b [] = refl
none_onto b (line ∷ lines) = refl

-- some bytes make a line, or stand behind the last one
more_follows : (b : ℕ) (text : List ℕ) → (is_none (lines_of (b ∷ text)) && is_whole (b ∷ text)) ≡ false
more_follows b [] = one (is_feed b) where
  one : (t : Bool) → (is_none (cond t ([] ∷ []) []) && t) ≡ false
  one true = refl
  one false = refl
more_follows b (c ∷ text) = more (is_feed b) (more_follows c text) where
  more : (t : Bool) → (is_none (lines_of (c ∷ text)) && is_whole (c ∷ text)) ≡ false → (is_none (cond t ([] ∷ lines_of (c ∷ text)) (onto_line b (lines_of (c ∷ text)))) && is_whole (c ∷ text)) ≡ false
  more true later = refl
  more false later = ap (λ (x : Bool). x && is_whole (c ∷ text)) (none_onto b (lines_of (c ∷ text))) ∙ later

pub nothing_follows : (text : List ℕ) → (is_none (lines_of text) && is_whole text) ≡ (length text == 0)
nothing_follows [] = refl
nothing_follows (b ∷ text) = more_follows b text ∙ sym (ne_eqb (length (b ∷ text)) 0 (λ e. omega arith))

-- what a text enters, by its first line
pub body_end : {S X : Type 0} (read : S → List ℕ → Result (Line X) Cause) (after : S → X → S) (s : S) (n k : ℕ) (front : List X) (text : List ℕ) → position_or_len is_feed text ≡ length text
    → with_front front (body_in read after s n k text) ≡ Err (faults.Truncated n)
unfolding body_from
body_end read after s n k front text h = rw (lines_end text h) refl

pub body_fault : {S X : Type 0} (read : S → List ℕ → Result (Line X) Cause) (after : S → X → S) (s : S) (n k : ℕ) (front : List X) (text : List ℕ) (cause : Cause) → position_or_len is_feed text < length text
    → read s (before_first is_feed text) ≡ Err cause → with_front front (body_in read after s n k text) ≡ Err (faults.Line n cause)
unfolding body_from
body_fault read after s n k front text cause h said = rw (lines_step text h, said) refl

pub body_ended : {S X : Type 0} (read : S → List ℕ → Result (Line X) Cause) (after : S → X → S) (s : S) (n k : ℕ) (front : List X) (text : List ℕ) (count : ℕ) → position_or_len is_feed text < length text
    → read s (before_first is_feed text) ≡ Ok (Ends count) → with_front front (body_in read after s n k text) ≡ with_front front (nothing_more (ended n k (length (after_first is_feed text) == 0) count))
unfolding body_from
body_ended read after s n k front text count h said = rw (whole_step text h, lines_step text h, said, nothing_follows (after_first is_feed text)) refl

pub body_step : {S X : Type 0} (read : S → List ℕ → Result (Line X) Cause) (after : S → X → S) (s : S) (n k : ℕ) (front : List X) (text : List ℕ) (x : X) → position_or_len is_feed text < length text
    → read s (before_first is_feed text) ≡ Ok (Enters x)
    → with_front front (body_in read after s n k text) ≡ with_front (front ++ x ∷ []) (body_in read after (after s x) (n + 1) (k + 1) (after_first is_feed text))
unfolding body_from
body_step read after s n k front text x h said = rw (whole_step text h, lines_step text h, said) (front_on front x (body_in read after (after s x) (n + 1) (k + 1) (after_first is_feed text)))

pub below_push : (n : ℕ) (es : List Entry) (e : Entry) → AreBelow n es → e.guest < n → AreBelow n (es ++ e ∷ [])
below_push n es e h l = grind (arith, elements)
