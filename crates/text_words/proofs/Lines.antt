-- Lines as lists.
use Rattle.std.proofs.Common.{◌≡◌, ℕ, ◌<◌, Bool, true, false, not, List, [], ◌∷◌, ◌++◌, length, take, refl, ap, ◌∙◌, arith, get_or}
use Rattle.std.specs.List.{position_or_len, before_first, after_first, list_all}
use Rattle.std.proofs.lemmas.Bool.{and_parts, not-true, not_from_false, eqb-true}
use Rattle.std.proofs.lemmas.List.{get_or-take, length-take}
use Rattle.std.proofs.lemmas.List.Sums.{fails_before_first, passes_at_first, split_at_first, list_all-from_AllPass}
use Rattle.text_words.specs.Lines.{is_feed, lines_of, is_whole}

abbrev pub no_feed : List ℕ → Bool
no_feed bytes = list_all (λ b. not (is_feed b)) bytes

-- bytes without a line feed, and a line feed, are one more line
pub lines_at : (xs ys : List ℕ) → no_feed xs ≡ true → lines_of (xs ++ 10 ∷ ys) ≡ xs ∷ lines_of ys
lines_at [] ys h = refl
lines_at (x ∷ xs) ys h =
    let parts = and_parts (not (is_feed x)) (no_feed xs) h in
    let test : is_feed x ≡ false = not-true _ parts.0 in
    rw (test, lines_at xs ys parts.1) refl

lines_none : (xs : List ℕ) → no_feed xs ≡ true → lines_of xs ≡ []
lines_none [] h = refl
lines_none (x ∷ xs) h =
    let parts = and_parts (not (is_feed x)) (no_feed xs) h in
    let test : is_feed x ≡ false = not-true _ parts.0 in
    rw (test, lines_none xs parts.1) refl

pub whole_at : (xs ys : List ℕ) → is_whole (xs ++ 10 ∷ ys) ≡ is_whole ys
whole_at [] [] = refl
whole_at [] (y ∷ ys) = refl
whole_at (x ∷ []) ys = whole_at [] ys
whole_at (x ∷ z ∷ xs) ys = whole_at (z ∷ xs) ys

split_line : (text : List ℕ) → position_or_len is_feed text < length text → text ≡ before_first is_feed text ++ 10 ∷ after_first is_feed text
split_line text h =
    let place = position_or_len is_feed text in
    let feed : get_or text place 0 ≡ 10 = eqb-true _ 10 (passes_at_first is_feed text 0 h) in
    split_at_first is_feed text 0 h ∙ ap (λ (b : ℕ). before_first is_feed text ++ b ∷ after_first is_feed text) feed

before_no_feed : (text : List ℕ) → no_feed (before_first is_feed text) ≡ true
before_no_feed text = list_all-from_AllPass (λ b. not (is_feed b)) (before_first is_feed text) (λ k d l.
    let place : k < position_or_len is_feed text = omega (arith, length-take (position_or_len is_feed text) text) in
    let same : get_or (take (position_or_len is_feed text) text) k d ≡ get_or text k d = get_or-take _ text k d place in
    rw same (not_from_false _ (fails_before_first is_feed text k d place)))

-- a text is its first line and the rest
pub lines_step : (text : List ℕ) → position_or_len is_feed text < length text → lines_of text ≡ before_first is_feed text ∷ lines_of (after_first is_feed text)
lines_step text h = ap lines_of (split_line text h) ∙ lines_at (before_first is_feed text) (after_first is_feed text) (before_no_feed text)

pub whole_step : (text : List ℕ) → position_or_len is_feed text < length text → is_whole text ≡ is_whole (after_first is_feed text)
whole_step text h = ap is_whole (split_line text h) ∙ whole_at (before_first is_feed text) (after_first is_feed text)

pub lines_end : (text : List ℕ) → position_or_len is_feed text ≡ length text → lines_of text ≡ []
lines_end text h = lines_none text (list_all-from_AllPass (λ b. not (is_feed b)) text (λ k d l. not_from_false _ (fails_before_first is_feed text k d (omega arith))))
