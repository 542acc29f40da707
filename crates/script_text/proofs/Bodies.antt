-- What the lines of a script ask for, by the first of them.
use Rattle.std.proofs.Common.{◌≡◌, ℕ, ◌+◌, ◌<◌, ◌==◌, List, ◌∷◌, length, Ok, Err, refl}
use Rattle.std.specs.List.{position_or_len, before_first, after_first}
use Rattle.text_words.specs.declared.fault.Cause.{Cause}
use Rattle.text_words.specs.declared.fault.TextFault.TheVariants as faults
use Rattle.journal_text.specs.declared.request.Line.TheVariants.{Enters, Ends}
use Rattle.text_words.specs.Lines.{is_feed}
use Rattle.journal_text.specs.Texts.{body_from, ended, nothing_more}
use Rattle.text_words.specs.Words.{◌>>=◌}
use Rattle.text_words.proofs.Lines.{lines_step, lines_end, whole_step}
use Rattle.journal_text.proofs.Lines.{nothing_follows}
use Rattle.script_text.specs.declared.work.Item.{Item}
use Rattle.script_text.specs.Lines.{script_line_of, total_after}
use Rattle.script_text.specs.Texts.{items_in}

pub items_end : (guests most total n k : ℕ) (text : List ℕ) → position_or_len is_feed text ≡ length text → items_in guests most total n k text ≡ Err (faults.Truncated n)
unfolding body_from
items_end guests most total n k text h = rw (lines_end text h) refl

pub items_fault : (guests most total n k : ℕ) (text : List ℕ) (cause : Cause) → position_or_len is_feed text < length text
    → script_line_of guests most total (before_first is_feed text) ≡ Err cause → items_in guests most total n k text ≡ Err (faults.Line n cause)
unfolding body_from
items_fault guests most total n k text cause h said = rw (lines_step text h, said) refl

pub items_ended : (guests most total n k : ℕ) (text : List ℕ) (count : ℕ) → position_or_len is_feed text < length text
    → script_line_of guests most total (before_first is_feed text) ≡ Ok (Ends count) → items_in guests most total n k text ≡ nothing_more (ended n k (length (after_first is_feed text) == 0) count)
unfolding body_from
items_ended guests most total n k text count h said = rw (whole_step text h, lines_step text h, said, nothing_follows (after_first is_feed text)) refl

pub items_step : (guests most total n k : ℕ) (text : List ℕ) (item : Item) → position_or_len is_feed text < length text
    → script_line_of guests most total (before_first is_feed text) ≡ Ok (Enters item)
    → items_in guests most total n k text ≡ (items_in guests most (total_after total item) (n + 1) (k + 1) (after_first is_feed text) >>= λ items. Ok (item ∷ items))
unfolding body_from
items_step guests most total n k text item h said = rw (whole_step text h, lines_step text h, said) refl
