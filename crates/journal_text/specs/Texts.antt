-- A journal's text, version 1 or 2: what it says, or its first fault. The lines are read in order, and the first faulty one
-- decides; if no complete line is at fault and no end line has come, the text is cut off.
use Rattle.std.specs.Prelude.{◌<◌, ℕ, ◌+◌, ◌==◌, ◌&&◌, nat_lt, Bool, true, false, if◌then◌else◌, List, [], ◌∷◌, length, replicate, Result, Ok, Err, slice_set, codes}
use Rattle.std.specs.List.{All}
use Rattle.std.specs.Str.{bytes_eq}
use Rattle.page_model.specs.Closing.{is_close}
use Rattle.page_model.specs.declared.request.Entry.{Entry}
use Rattle.page_model.specs.declared.limits.TheConstants.{MAX_TEXT_BYTES}
use Rattle.text_words.specs.declared.fault.Cause.{Cause}
use Rattle.text_words.specs.declared.fault.Cause.TheVariants as causes
use Rattle.text_words.specs.declared.fault.TextFault.{TextFault}
use Rattle.text_words.specs.declared.fault.TextFault.TheVariants as faults
use Rattle.journal_text.specs.declared.request.Line.{Line}
use Rattle.journal_text.specs.declared.request.Line.TheVariants.{Enters, Ends}
use Rattle.journal_text.specs.declared.version.Version.{Version}
use Rattle.journal_text.specs.declared.version.Version.TheVariants.{One, Two}
use Rattle.text_words.specs.Words.{◌>>=◌}
use Rattle.text_words.specs.Lines.{line_at, at_line, lines_of, is_whole}
use Rattle.journal_text.specs.Headers.{frames_of, pages_of, salts_of}
use Rattle.journal_text.specs.Requests.{line_of}

-- what a journal says: the machine's total of frames, each guest's number of pages and salt, and who asked for what
pub record Journal : Type 0 where
  pub frames : ℕ
  pub pages : List ℕ
  pub salts : List ℕ
  pub entries : List Entry

-- what a text's first lines say: its version, and of its machine the total of frames, and each guest's number of pages and salt
pub record Head : Type 0 where
  pub version : Version
  pub frames : ℕ
  pub pages : List ℕ
  pub salts : List ℕ

-- The first line, which says the version: it is one of two, and only version 2, the second, has a line of salts.
unfoldable pub header_of : List ℕ → List ℕ → List ℕ → Result Version Cause
header_of one two line =
    if bytes_eq line one then Ok One
    else if bytes_eq line two then Ok Two
    else Err causes.Header

-- the salts of this many guests, and what comes after their line. If there is no such line, every salt is 0
unfoldable pub salts_at : Version → ℕ → List ℕ → Result (List ℕ × List ℕ) TextFault
salts_at One guests text = Ok (replicate guests 0, text)
salts_at Two guests text = do
  line ← line_at 4 text
  salts ← at_line 4 (salts_of guests line.0)
  Ok (salts, line.1)

-- the lines of the machine at the head of a text whose first line is one of two, and what comes after them
unfoldable pub head_in : List ℕ → List ℕ → List ℕ → Result (Head × List ℕ) TextFault
head_in one two text = do
  first ← line_at 1 text
  version ← at_line 1 (header_of one two first.0)
  second ← line_at 2 first.1
  frames ← at_line 2 (frames_of second.0)
  third ← line_at 3 second.1
  pages ← at_line 3 (pages_of third.0)
  salts ← salts_at version (length pages) third.1
  Ok (record { version = version; frames = frames; pages = pages; salts = salts.0 }, salts.1)

-- the number of the line after the head
abbrev pub line_behind_head : Version → ℕ
line_behind_head One = 4
line_behind_head Two = 5

-- who has closed after an entry
abbrev pub closed_after : List Bool → Entry → List Bool
closed_after closed e = if is_close e.request then slice_set closed e.guest true else closed

-- Line n is the end line. It must have the number of request lines before it, which is k, and after that be the last line.
abbrev pub ended : ℕ → ℕ → Bool → ℕ → Result (Unit {0}) TextFault
ended n k last count = if count == k then (if last then Ok tt else Err (faults.Line (n + 1) causes.Form)) else Err faults.Count

-- nothing is entered after an end line that is right
abbrev pub nothing_more : {X : Type 0} → Result (Unit {0}) TextFault → Result (List X) TextFault
nothing_more (Ok done) = Ok []
nothing_more (Err fault) = Err fault

-- what line n and the lines after it say: what it enters goes before what `more` reads from the later lines
abbrev pub goes_on : {X : Type 0} → ℕ → ℕ → Bool → Result (Line X) Cause → (X → Result (List X) TextFault) → Result (List X) TextFault
goes_on n k last (Err cause) more = Err (faults.Line n cause)
goes_on n k last (Ok (Ends count)) more = nothing_more (ended n k last count)
goes_on n k last (Ok (Enters x)) more = more x >>= λ xs. Ok (x ∷ xs)

abbrev pub is_none : List (List ℕ) → Bool
is_none [] = true
is_none (line ∷ lines) = false

-- What the lines from number n on enter, with k request lines before them. read: what a line says, given what is known from the
-- lines before it; after: what is known then; whole: no byte comes after the lines.
unfoldable pub body_from : {S X : Type 0} → (S → List ℕ → Result (Line X) Cause) → (S → X → S) → Bool → S → ℕ → ℕ → List (List ℕ)
    → Result (List X) TextFault
body_from read after whole s n k [] = Err (faults.Truncated n)
body_from read after whole s n k (line ∷ lines) = goes_on n k (is_none lines && whole) (read s line)
    (λ x. body_from read after whole (after s x) (n + 1) (k + 1) lines)

-- what a text enters after the lines at its head, or after some request lines
abbrev pub body_in : {S X : Type 0} → (S → List ℕ → Result (Line X) Cause) → (S → X → S) → S → ℕ → ℕ → List ℕ → Result (List X) TextFault
body_in read after s n k text = body_from read after (is_whole text) s n k (lines_of text)

-- the entries of a journal after its head, or after some entries. closed: who has closed
abbrev pub entries_in : List Bool → ℕ → ℕ → List ℕ → Result (List Entry) TextFault
entries_in closed n k text = body_in line_of closed_after closed n k text

-- a journal's text of any length: the lines at its head, and then the entries
unfoldable pub journal_in : List ℕ → Result Journal TextFault
journal_in text = do
  head ← head_in (codes "pageshare journal 1") (codes "pageshare journal 2") text
  entries ← entries_in (replicate (length head.0.pages) false) (line_behind_head head.0.version) 0 head.1
  Ok (record { frames = head.0.frames; pages = head.0.pages; salts = head.0.salts; entries = entries })

-- What a journal's text says: its one journal, or its first fault. That it has at most MAX_TEXT_BYTES is checked first.
unfoldable pub journal_of : List ℕ → Result Journal TextFault
journal_of text = if nat_lt MAX_TEXT_BYTES (length text) then Err faults.Long else journal_in text

-- each entry's guest is one of the first n
abbrev pub AreBelow : ℕ → List Entry → Type 0
AreBelow n es = All (λ e. e.guest < n) es
