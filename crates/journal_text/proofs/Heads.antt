-- The lines of a written text, read back.
use Rattle.std.proofs.Common.{◌≡◌, ◌≢◌, ℕ, suc, zero, ◌+◌, ◌-◌, ◌<◌, ◌≤◌, ◌^◌, ◌==◌, Bool, true, false, not, List, [], ◌∷◌, ◌++◌, length, Some, Result, Ok, refl, sym, ap, ◌∙◌, arith, nat_lt, decimal, append-nil, append_assoc}
use Rattle.std.specs.Prelude.{codes, sum, slice_get, slice_set}
use Rattle.std.specs.List.{All, slice_split}
use Rattle.std.proofs.lemmas.Bool.{and_parts, and_from, lt-ltb, ltb-true, ne_eqb, le-ltb, le-leb, eq-eqb, not-true}
use Rattle.std.proofs.lemmas.List.Elements.{All-head, All-tail}
use Rattle.std.proofs.lemmas.List.Splits.{slice_split_at, slice_split_none}
use Rattle.std.proofs.lemmas.List.Sums.{AllPass-from_list_all, list_all-from_AllPass}
use Rattle.page_model.specs.Limits.{ArePages}
use Rattle.page_model.specs.Closing.{is_close}
use Rattle.page_model.specs.declared.request.Entry.{Entry}
use Rattle.page_model.specs.declared.limits.TheConstants.{MAX_FRAMES, MAX_PAGES, MAX_GUESTS}
use Rattle.text_words.specs.declared.fault.TextFault.{TextFault}
use Rattle.journal_text.specs.declared.request.Line.TheVariants.{Enters, Ends}
use Rattle.text_words.specs.Words.{◌>>=◌, is_space}
use Rattle.journal_text.specs.Requests.{line_of}
use Rattle.text_words.specs.Lines.{is_feed, line_at}
use Rattle.journal_text.specs.Headers.{frames_of, numbers, are_pages, pages_of, salts_of}
use Rattle.journal_text.specs.Texts.{body_from, entries_in, closed_after}
use Rattle.journal_text.specs.Written.{number_words, numbers_line, request_words, entry_line, entry_lines, IsWritable, NoneAfterClose}
use Rattle.text_words.proofs.Lines.{no_feed, lines_at, whole_at}
use Rattle.text_words.proofs.Spelled.{above, no_space, before_at, after_at, within_at, word_back, number_last, number_back, decimal_above}
use Rattle.journal_text.proofs.Asked.{above_both, decimal_line, words_line, line_back, end_back}

feedless : (xs : List ℕ) → above 31 xs ≡ true → no_feed xs ≡ true
feedless [] h = refl
feedless (x ∷ xs) h =
    let parts = and_parts (nat_lt 31 x) (above 31 xs) h in
    let l : 31 < x = ltb-true 31 x parts.0 in
    and_from _ _ (ap not (ne_eqb x 10 (λ e. omega arith))) (feedless xs parts.1)

-- a line at the front of a text
pub line_back_at : (n : ℕ) (line rest : List ℕ) → above 31 line ≡ true → line_at n (line ++ 10 ∷ rest) ≡ Ok (line, rest)
unfolding line_at
line_back_at n line rest h =
    let free = feedless line h in
    rw (before_at is_feed line rest 10 free refl, within_at is_feed line rest 10 free refl, after_at is_feed line rest 10 free refl) refl

pub frames_back : (n : ℕ) → 1 ≤ n → n ≤ MAX_FRAMES → frames_of (codes "frames " ++ decimal n) ≡ Ok n
unfolding frames_of
frames_back n some few =
    let a : (n == 0) ≡ false = ne_eqb n 0 (λ e. omega arith) in
    let b : nat_lt MAX_FRAMES n ≡ false = le-ltb MAX_FRAMES n few in
    rw (word_back (codes "frames") (decimal n) refl, number_last n (omega arith), a, b) refl

spaceless : (n : ℕ) → n < 2 ^ 32 → All (λ b. is_space b ≡ false) (decimal n)
spaceless n h = λ k d l. not-true _ (AllPass-from_list_all (λ b. not (is_space b)) (decimal n) (no_space (decimal n) (decimal_above n (omega arith))) k d l)

-- numbers behind their spaces
numbers_back : (n : ℕ) (ns : List ℕ) → All (λ m. m < 2 ^ 32) (n ∷ ns) → numbers (slice_split is_space (decimal n ++ number_words ns)) ≡ Ok (n ∷ ns)
unfolding numbers
numbers_back n [] h =
    let fits : n < 2 ^ 32 = All-head (λ m. m < 2 ^ 32) n [] h in
    let split : slice_split is_space (decimal n ++ []) ≡ decimal n ∷ [] = ap (slice_split is_space) (append-nil (decimal n)) ∙ slice_split_none is_space (decimal n) (spaceless n fits) in
    rw (split, number_back (2 ^ 32 - 1) n (omega arith) (omega arith)) refl
numbers_back n (m ∷ ns) h =
    let fits : n < 2 ^ 32 = All-head (λ m. m < 2 ^ 32) n (m ∷ ns) h in
    let split : slice_split is_space (decimal n ++ number_words (m ∷ ns)) ≡ decimal n ∷ slice_split is_space (decimal m ++ number_words ns) = slice_split_at is_space (decimal n) 32 (decimal m ++ number_words ns) (spaceless n fits) refl in
    rw (split, number_back (2 ^ 32 - 1) n (omega arith) (omega arith), numbers_back m ns (All-tail (λ m. m < 2 ^ 32) n (m ∷ ns) h)) refl

are_pages_of : (pages : List ℕ) → ArePages pages → are_pages pages ≡ true
are_pages_of pages h = and_from _ _ (list_all-from_AllPass (nat_lt 0) pages (λ k d l. lt-ltb 0 _ (h.0 k d l))) (le-leb (sum pages) MAX_PAGES h.1)

pub pages_back : (pages : List ℕ) → 1 ≤ length pages → length pages ≤ MAX_GUESTS → ArePages pages → All (λ n. n < 2 ^ 32) pages → pages_of (codes "pages" ++ number_words pages) ≡ Ok pages
unfolding pages_of
pages_back [] some few limits fit = absurd (omega arith)
pages_back (n ∷ ns) some few limits fit =
    let a : (length (n ∷ ns) == 0) ≡ false = ne_eqb _ 0 (λ e. omega arith) in
    let b : nat_lt MAX_GUESTS (length (n ∷ ns)) ≡ false = le-ltb MAX_GUESTS _ few in
    rw (word_back (codes "pages") (decimal n ++ number_words ns) refl, numbers_back n ns fit, a, b, are_pages_of (n ∷ ns) limits) refl

pub salts_back : (salts : List ℕ) → 1 ≤ length salts → All (λ n. n < 2 ^ 32) salts → salts_of (length salts) (codes "salts" ++ number_words salts) ≡ Ok salts
unfolding salts_of
salts_back [] some fit = absurd (omega arith)
salts_back (n ∷ ns) some fit =
    let a : (length (n ∷ ns) == 0) ≡ false = ne_eqb _ 0 (λ e. omega arith) in
    let b : (length (n ∷ ns) == length (n ∷ ns)) ≡ true = eq-eqb _ _ refl in
    rw (word_back (codes "salts") (decimal n ++ number_words ns) refl, numbers_back n ns fit, a, b) refl

pub numbers_above : (ns : List ℕ) → All (λ m. m < 2 ^ 32) ns → above 31 (number_words ns) ≡ true
numbers_above [] h = refl
numbers_above (n ∷ ns) h =
    let fits : n < 2 ^ 32 = All-head (λ m. m < 2 ^ 32) n ns h in
    above_both 31 (decimal n) (number_words ns) (decimal_line n (omega arith)) (numbers_above ns (All-tail (λ m. m < 2 ^ 32) n ns h))

-- a line of numbers before what follows
pub numbers_line_at : (word ns rest : List ℕ) → numbers_line word ns ++ rest ≡ (word ++ number_words ns) ++ 10 ∷ rest
numbers_line_at word ns rest =
    append_assoc word (number_words ns ++ 10 ∷ []) rest ∙ ap (λ xs. word ++ xs) (append_assoc (number_words ns) (10 ∷ []) rest) ∙ sym (append_assoc word (number_words ns) (10 ∷ rest))

-- an entry's line before what follows
entry_line_at : (e : Entry) (rest : List ℕ) → entry_line e ++ rest ≡ (decimal e.guest ++ 32 ∷ request_words e.request) ++ 10 ∷ rest
entry_line_at e rest =
    append_assoc (decimal e.guest) (32 ∷ (request_words e.request ++ 10 ∷ [])) rest ∙ ap (λ xs. decimal e.guest ++ 32 ∷ xs) (append_assoc (request_words e.request) (10 ∷ []) rest) ∙ sym (append_assoc (decimal e.guest) (32 ∷ request_words e.request) (10 ∷ rest))

enters : (closed : List Bool) (n k : ℕ) (e : Entry) (line rest : List ℕ) → above 31 line ≡ true → line_of closed line ≡ Ok (Enters e)
    → entries_in closed n k (line ++ 10 ∷ rest) ≡ (entries_in (closed_after closed e) (n + 1) (k + 1) rest >>= λ es. Ok (e ∷ es))
unfolding body_from
enters closed n k e line rest h said = rw (whole_at line rest, lines_at line rest (feedless line h), said) refl

ends : (closed : List Bool) (n k count : ℕ) (line : List ℕ) → above 31 line ≡ true → line_of closed line ≡ Ok (Ends count) → count ≡ k → entries_in closed n k (line ++ 10 ∷ []) ≡ Ok []
unfolding body_from
ends closed n k count line h said same =
    let test : (count == k) ≡ true = eq-eqb count k same in
    rw (whole_at line [], lines_at line [] (feedless line h), said, test) refl

-- who hasn't closed may ask
abbrev pub MayAsk : List Bool → List Entry → Type 0
MayAsk closed es = All (λ e. slice_get closed e.guest ≡ Some false) es

others_stay : (closed : List Bool) (g h : ℕ) → h ≢ g → slice_get (slice_set closed g true) h ≡ slice_get closed h
others_stay [] g h other = refl
others_stay (x ∷ xs) zero zero other = absurd (other refl)
others_stay (x ∷ xs) zero (suc h) other = refl
others_stay (x ∷ xs) (suc g) zero other = refl
others_stay (x ∷ xs) (suc g) (suc h) other = others_stay xs g h (λ e. other (ap suc e))

may_later : (closed : List Bool) (e : Entry) (es : List Entry) → (is_close e.request ≡ true → All (λ later. later.guest ≢ e.guest) es) → MayAsk closed es → MayAsk (closed_after closed e) es
may_later closed e es none may = by (is_close e.request) refl where
  by : (b : Bool) → is_close e.request ≡ b → MayAsk (closed_after closed e) es
  by true is = λ k d l. rw is (others_stay closed e.guest _ (none is k d l) ∙ may k d l)
  by false is = λ k d l. rw is (may k d l)

pub entries_back : (closed : List Bool) (n k total : ℕ) (es : List Entry) → All (λ e. e.guest < 2 ^ 32) es → All (λ e. IsWritable e.request) es → NoneAfterClose es → MayAsk closed es
    → k + length es ≡ total → total < 2 ^ 32 → entries_in closed n k (entry_lines es ++ ((codes "end " ++ decimal total) ++ codes "\n")) ≡ Ok es
entries_back closed n k total [] low writable closing may count few =
    ends closed n k total (codes "end " ++ decimal total) (decimal_line total (omega arith)) (end_back closed total few) (omega (arith, count))
entries_back closed n k total (e ∷ es) low writable closing may count few =
    let tail : List ℕ = (codes "end " ++ decimal total) ++ codes "\n" in
    let rest : List ℕ = entry_lines es ++ tail in
    let line : List ℕ = decimal e.guest ++ 32 ∷ request_words e.request in
    let guest : e.guest < 2 ^ 32 = All-head (λ x. x.guest < 2 ^ 32) e es low in
    let request : IsWritable e.request = All-head (λ x. IsWritable x.request) e es writable in
    let asks : slice_get closed e.guest ≡ Some false = All-head (λ x. slice_get closed x.guest ≡ Some false) e es may in
    let parts : entry_lines (e ∷ es) ++ tail ≡ line ++ 10 ∷ rest = append_assoc (entry_line e) (entry_lines es) tail ∙ entry_line_at e rest in
    let graphic : above 31 line ≡ true = above_both 31 (decimal e.guest) (32 ∷ request_words e.request) (decimal_line e.guest (omega arith)) (words_line e.request request) in
    let later : entries_in (closed_after closed e) (n + 1) (k + 1) rest ≡ Ok es =
    entries_back (closed_after closed e) (n + 1) (k + 1) total es (All-tail (λ x. x.guest < 2 ^ 32) e es low) (All-tail (λ x. IsWritable x.request) e es writable) closing.1
    (may_later closed e es closing.0 (All-tail (λ x. slice_get closed x.guest ≡ Some false) e es may)) (omega (arith, count)) few in
    ap (entries_in closed n k) parts ∙ enters closed n k e line rest graphic (line_back closed e guest request asks) ∙ ap (λ (r : Result (List Entry) TextFault). r >>= λ xs. Ok (e ∷ xs)) later
