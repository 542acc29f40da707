-- Journals as texts, a line or a number at a time.
use Rattle.std.proofs.Common.{◌≡◌, ◌+◌, ◌<◌, ◌++◌, suc, ℕ, List, ◌∷◌, length, drop, get_or, ap, sym, ◌∙◌, add-one}
use Rattle.std.proofs.Math.Seq.{drop-cons}
use Rattle.page_model.specs.declared.request.Entry.{Entry}
use Rattle.text_words.specs.Printed.{counted}
use Rattle.journal_text.specs.Written.{entry_line, entry_lines, number_words}
use Rattle.std.specs.Prelude.{codes}

-- what is left of a list at a place
pub left_at : {X : Type 0} (xs : List X) (i : ℕ) (x : X) → i < length xs → x ≡ get_or xs i x → drop i xs ≡ x ∷ drop (i + 1) xs
left_at xs i x h same = rw add-one (drop-cons xs i x h ∙ ap (λ y. y ∷ drop (suc i) xs) (sym same))

pub entries_at : (es : List Entry) (i : ℕ) (e : Entry) → i < length es → e ≡ get_or es i e → entry_lines (drop i es) ≡ entry_line e ++ entry_lines (drop (i + 1) es)
entries_at es i e h same = ap entry_lines (left_at es i e h same)

pub numbers_at : (ns : List ℕ) (i n : ℕ) → i < length ns → n ≡ get_or ns i n → number_words (drop i ns) ≡ counted (codes " ") n ++ number_words (drop (i + 1) ns)
numbers_at ns i n h same = ap number_words (left_at ns i n h same)
