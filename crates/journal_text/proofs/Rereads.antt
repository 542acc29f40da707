-- A written journal, read back.
use Rattle.std.proofs.Common.{◌≡◌, ℕ, ◌≤◌, ◌==◌, Bool, true, false, if◌then◌else◌, List, [], ◌∷◌, ◌++◌, length, Some, Ok, refl, sym, ap, ◌∙◌, arith, nat_lt, decimal, append-nil, append_assoc, replicate}
use Rattle.std.specs.Prelude.{codes}
use Rattle.std.specs.List.{list_all}
use Rattle.std.proofs.lemmas.Bool.{and_parts, eqb-true, le-ltb, not-false}
use Rattle.std.proofs.lemmas.List.{get_or-replicate, length-replicate}
use Rattle.std.proofs.lemmas.Option.{slice_get-get_or}
use Rattle.page_model.specs.declared.limits.TheConstants.{MAX_TEXT_BYTES}
use Rattle.text_words.specs.Lines.{line_at}
use Rattle.journal_text.specs.Headers.{salts_of}
use Rattle.journal_text.specs.Texts.{Journal, header_of, salts_at, head_in, journal_in, journal_of, entries_in}
use Rattle.journal_text.specs.declared.version.Version.{Version}
use Rattle.journal_text.specs.declared.version.Version.TheVariants.{One, Two}
use Rattle.journal_text.specs.Written.{number_words, numbers_line, entries_lines, needs_salts, machine_lines, guests_lines, journal_text, CanBeRead}
use Rattle.journal_text.proofs.Asked.{decimal_line}
use Rattle.journal_text.proofs.Heads.{line_back_at, frames_back, pages_back, salts_back, numbers_above, numbers_line_at, entries_back}

zeros : (salts : List ℕ) → list_all (λ salt. salt == 0) salts ≡ true → replicate (length salts) 0 ≡ salts
zeros [] h = refl
zeros (s ∷ ss) h =
    let parts = and_parts (s == 0) (list_all (λ salt. salt == 0) ss) h in
    let first : s ≡ 0 = eqb-true s 0 parts.0 in
    rw (first, zeros ss parts.1) refl

-- the lines of the entries
body : (j : Journal) → CanBeRead j → (n : ℕ) → entries_in (replicate (length j.pages) false) n 0 (entries_lines j.entries) ≡ Ok j.entries
body j h n = entries_back (replicate (length j.pages) false) n 0 (length j.entries) j.entries
    (λ k d l. omega (arith, h.members k d l, h.guests.1)) h.requests h.closing
    (λ k d l. slice_get-get_or (replicate (length j.pages) false) _ false (omega (arith, h.members k d l, length-replicate (length j.pages) false)) ∙ ap Some (get_or-replicate (length j.pages) _ false false (h.members k d l)))
    (omega arith) (omega (arith, h.few))

-- the frames' line and what follows
frames_at : (frames : ℕ) (rest : List ℕ) → codes "frames " ++ ((decimal frames ++ codes "\n") ++ rest) ≡ (codes "frames " ++ decimal frames) ++ 10 ∷ rest
frames_at frames rest = ap (λ xs. codes "frames " ++ xs) (append_assoc (decimal frames) (10 ∷ []) rest)

pages_at : (pages salts rest : List ℕ) → guests_lines One pages salts ++ rest ≡ (codes "pages" ++ number_words pages) ++ 10 ∷ rest
pages_at pages salts rest = ap (λ (xs : List ℕ). xs ++ rest) (append-nil (numbers_line (codes "pages") pages)) ∙ numbers_line_at (codes "pages") pages rest

guests_at : (pages salts rest : List ℕ) → guests_lines Two pages salts ++ rest ≡ (codes "pages" ++ number_words pages) ++ 10 ∷ ((codes "salts" ++ number_words salts) ++ 10 ∷ rest)
guests_at pages salts rest =
    append_assoc (numbers_line (codes "pages") pages) (numbers_line (codes "salts") salts) rest ∙ ap (λ (xs : List ℕ). numbers_line (codes "pages") pages ++ xs) (numbers_line_at (codes "salts") salts rest)
    ∙ numbers_line_at (codes "pages") pages ((codes "salts" ++ number_words salts) ++ 10 ∷ rest)

-- a journal of version 1
without_salts : (j : Journal) → CanBeRead j → needs_salts j.salts ≡ false → journal_in (machine_lines One j.frames ++ (guests_lines One j.pages j.salts ++ entries_lines j.entries)) ≡ Ok j
unfolding journal_in head_in header_of salts_at
without_salts j h none =
    let text : List ℕ = entries_lines j.entries in
    let guests : List ℕ = guests_lines One j.pages j.salts ++ text in
    let machine : List ℕ = codes "frames " ++ ((decimal j.frames ++ codes "\n") ++ guests) in
    let first : line_at 1 (machine_lines One j.frames ++ guests) ≡ Ok (codes "pageshare journal 1", machine) = line_back_at 1 (codes "pageshare journal 1") machine refl in
    let second : line_at 2 machine ≡ Ok (codes "frames " ++ decimal j.frames, guests) =
    ap (line_at 2) (frames_at j.frames guests) ∙ line_back_at 2 (codes "frames " ++ decimal j.frames) guests (decimal_line j.frames (omega (arith, h.frames.1))) in
    let third : line_at 3 guests ≡ Ok (codes "pages" ++ number_words j.pages, text) =
    ap (line_at 3) (pages_at j.pages j.salts text) ∙ line_back_at 3 (codes "pages" ++ number_words j.pages) text (numbers_above j.pages h.pages_fit) in
    let salts : replicate (length j.pages) 0 ≡ j.salts = ap (λ (n : ℕ). replicate n 0) (sym h.guests.2) ∙ zeros j.salts (not-false _ none) in
    rw (first, second, frames_back j.frames h.frames.0 h.frames.1, third, pages_back j.pages h.guests.0 h.guests.1 h.pages h.pages_fit, body j h 4, salts) refl

-- a journal of version 2
with_salts : (j : Journal) → CanBeRead j → journal_in (machine_lines Two j.frames ++ (guests_lines Two j.pages j.salts ++ entries_lines j.entries)) ≡ Ok j
unfolding journal_in head_in header_of salts_at
with_salts j h =
    let text : List ℕ = entries_lines j.entries in
    let salts : List ℕ = (codes "salts" ++ number_words j.salts) ++ 10 ∷ text in
    let guests : List ℕ = guests_lines Two j.pages j.salts ++ text in
    let machine : List ℕ = codes "frames " ++ ((decimal j.frames ++ codes "\n") ++ guests) in
    let first : line_at 1 (machine_lines Two j.frames ++ guests) ≡ Ok (codes "pageshare journal 2", machine) = line_back_at 1 (codes "pageshare journal 2") machine refl in
    let second : line_at 2 machine ≡ Ok (codes "frames " ++ decimal j.frames, guests) =
    ap (line_at 2) (frames_at j.frames guests) ∙ line_back_at 2 (codes "frames " ++ decimal j.frames) guests (decimal_line j.frames (omega (arith, h.frames.1))) in
    let third : line_at 3 guests ≡ Ok (codes "pages" ++ number_words j.pages, salts) =
    ap (line_at 3) (guests_at j.pages j.salts text) ∙ line_back_at 3 (codes "pages" ++ number_words j.pages) salts (numbers_above j.pages h.pages_fit) in
    let fourth : line_at 4 salts ≡ Ok (codes "salts" ++ number_words j.salts, text) = line_back_at 4 (codes "salts" ++ number_words j.salts) text (numbers_above j.salts h.salts_fit) in
    let some : 1 ≤ length j.salts = omega (arith, h.guests.0, h.guests.2) in
    let read : salts_of (length j.pages) (codes "salts" ++ number_words j.salts) ≡ Ok j.salts = ap (λ (n : ℕ). salts_of n (codes "salts" ++ number_words j.salts)) (sym h.guests.2) ∙ salts_back j.salts some h.salts_fit in
    rw (first, second, frames_back j.frames h.frames.0 h.frames.1, third, pages_back j.pages h.guests.0 h.guests.1 h.pages h.pages_fit, fourth, read, body j h 5) refl

either : (j : Journal) → CanBeRead j → (b : Bool) → needs_salts j.salts ≡ b
    → let version : Version = if b then Two else One in
    journal_in (machine_lines version j.frames ++ (guests_lines version j.pages j.salts ++ entries_lines j.entries)) ≡ Ok j
either j h false none = without_salts j h none
either j h true some = with_salts j h

-- what is written is read as it was
pub rereads : (j : Journal) → CanBeRead j → journal_of (journal_text j) ≡ Ok j
unfolding journal_of journal_text
rereads j h =
    let short : nat_lt MAX_TEXT_BYTES (length (journal_text j)) ≡ false = le-ltb MAX_TEXT_BYTES (length (journal_text j)) h.short in
    rw short (either j h (needs_salts j.salts) refl)
