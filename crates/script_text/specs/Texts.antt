-- A script's text, version 1 or 2: what it says, or its first fault. Its lines are read in the same order as any text's.
use Rattle.std.specs.Prelude.{ℕ, ◌+◌, ◌==◌, ◌||◌, nat_lt, if◌then◌else◌, List, length, Some, Result, Ok, Err, codes}
use Rattle.page_model.specs.declared.request.Request.{Request}
use Rattle.page_model.specs.declared.limits.TheConstants.{MAX_TEXT_BYTES, MAX_RING_CAPACITY, MAX_ENTRIES}
use Rattle.text_words.specs.declared.fault.Cause.{Cause}
use Rattle.text_words.specs.declared.fault.Cause.TheVariants as causes
use Rattle.text_words.specs.declared.fault.TextFault.{TextFault}
use Rattle.text_words.specs.declared.fault.TextFault.TheVariants as faults
use Rattle.text_words.specs.Words.{◌>>=◌, word_at, nothing_at, number_at}
use Rattle.text_words.specs.Lines.{line_at, at_line, keyword}
use Rattle.journal_text.specs.Texts.{head_in, line_behind_head, body_in}
use Rattle.script_text.specs.declared.work.Item.{Item}
use Rattle.script_text.specs.Lines.{script_line_of, total_after}
use Rattle.script_text.specs.Works.{written_out}

-- what a script says: the machine, and each guest's requests without its close, guest 0's first
pub record Script : Type 0 where
  pub frames : ℕ
  pub pages : List ℕ
  pub salts : List ℕ
  pub ring : ℕ
  pub journal : ℕ
  pub scripts : List (List Request)

-- a line of a word and one NUMBER
unfoldable pub named_number : List ℕ → List ℕ → Result ℕ Cause
named_number name line = do
  first ← word_at (Some line)
  _ ← keyword name first.0
  n ← number_at first.1
  _ ← nothing_at n.1
  Ok n.0

-- rings of 1 to MAX_RING_CAPACITY items
abbrev pub ring_in_limits : ℕ → Result ℕ Cause
ring_in_limits n = if n == 0 || nat_lt MAX_RING_CAPACITY n then Err causes.Ring else Ok n

-- a journal of 1 to MAX_ENTRIES entries, with room for a close of each guest
abbrev pub journal_in_limits : ℕ → ℕ → Result ℕ Cause
journal_in_limits guests n =
    if n == 0 || nat_lt MAX_ENTRIES n then Err causes.Journal
    else if nat_lt n guests then Err causes.TooMany
    else Ok n

-- ring NUMBER
unfoldable pub ring_of : List ℕ → Result ℕ Cause
ring_of line = named_number (codes "ring") line >>= ring_in_limits

-- journal NUMBER, for this many guests
unfoldable pub journal_limit_of : ℕ → List ℕ → Result ℕ Cause
journal_limit_of guests line = named_number (codes "journal") line >>= journal_in_limits guests

-- The lines of the rings and of the journal, starting at line n, and what comes after them.
unfoldable pub rooms_in : ℕ → ℕ → List ℕ → Result ((ℕ × ℕ) × List ℕ) TextFault
rooms_in n guests text = do
  first ← line_at n text
  ring ← at_line n (ring_of first.0)
  second ← line_at (n + 1) first.1
  journal ← at_line (n + 1) (journal_limit_of guests second.0)
  Ok ((ring, journal), second.1)

-- What the lines from number n on ask for, of a script with this many guests and a journal of `most` entries. total: how many
-- of them are already taken; k: how many request lines came before.
abbrev pub items_in : ℕ → ℕ → ℕ → ℕ → ℕ → List ℕ → Result (List Item) TextFault
items_in guests most total n k text = body_in (script_line_of guests most) total_after total n k text

-- what each guest asks for by all lines after the head, starting at line n
unfoldable pub scripts_in : List ℕ → ℕ → ℕ → List ℕ → Result (List (List Request)) TextFault
scripts_in pages most n text = do
  items ← items_in (length pages) most (length pages) n 0 text
  Ok (written_out pages items)

-- a script's text of any length
unfoldable pub script_in : List ℕ → Result Script TextFault
script_in text = do
  head ← head_in (codes "pageshare script 1") (codes "pageshare script 2") text
  rooms ← rooms_in (line_behind_head head.0.version) (length head.0.pages) head.1
  scripts ← scripts_in head.0.pages rooms.0.1 (line_behind_head head.0.version + 2) rooms.1
  Ok (record {
    frames = head.0.frames;
    pages = head.0.pages;
    salts = head.0.salts;
    ring = rooms.0.0;
    journal = rooms.0.1;
    scripts = scripts;
  })

-- What a script's text says: its script, or its first fault. That it has at most MAX_TEXT_BYTES is checked first.
unfoldable pub script_of : List ℕ → Result Script TextFault
script_of text = if nat_lt MAX_TEXT_BYTES (length text) then Err faults.Long else script_in text
