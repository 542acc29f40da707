-- A journal written as a text: version 1 if every salt is 0, and version 2 otherwise.
use Rattle.std.specs.Prelude.{◌≡◌, ◌≢◌, ℕ, ◌+◌, ◌^◌, ◌<◌, ◌≤◌, ◌==◌, Bool, true, not, if◌then◌else◌, List, [], ◌∷◌, ◌++◌, length, codes, decimal, Ok}
use Rattle.std.specs.List.{All, list_all}
use Rattle.hex.specs.Hex.{IsBytes, encode_lower}
use Rattle.page_model.specs.Closing.{is_close}
use Rattle.page_model.specs.declared.request.Entry.{Entry}
use Rattle.page_model.specs.declared.request.Request.{Request}
use Rattle.page_model.specs.declared.request.Request.TheVariants.{Propose, Store, Load, Release, Count, Close}
use Rattle.text_words.specs.Printed.{counted}
use Rattle.page_model.specs.Limits.{AreFrames, AreGuests, ArePages}
use Rattle.journal_text.specs.Texts.{Journal, AreBelow, journal_of}
use Rattle.page_model.specs.declared.limits.TheConstants.{MAX_ACCESS_BYTES, MAX_ENTRIES, PAGE_BYTES, MAX_TEXT_BYTES}
use Rattle.journal_text.specs.declared.version.Version.{Version}
use Rattle.journal_text.specs.declared.version.Version.TheVariants.{One, Two}

-- the words of a request
unfoldable pub request_words : Request → List ℕ
request_words (Propose ppn) = counted (codes "propose ") ppn
request_words (Store r) = counted (codes "store ") r.ppn ++ (counted (codes " ") r.at ++ (codes " " ++ encode_lower r.bytes))
request_words (Load r) = counted (codes "load ") r.ppn ++ (counted (codes " ") r.at ++ counted (codes " ") r.len)
request_words (Release ppn) = counted (codes "release ") ppn
request_words Count = codes "count"
request_words Close = codes "close"

-- an entry's line, with its line feed
abbrev pub entry_line : Entry → List ℕ
entry_line e = decimal e.guest ++ (codes " " ++ (request_words e.request ++ codes "\n"))

abbrev pub entry_lines : List Entry → List ℕ
entry_lines [] = []
entry_lines (e ∷ es) = entry_line e ++ entry_lines es

-- numbers, each after a space
abbrev pub number_words : List ℕ → List ℕ
number_words [] = []
number_words (n ∷ ns) = counted (codes " ") n ++ number_words ns

-- a line of a word and numbers, with its line feed
abbrev pub numbers_line : List ℕ → List ℕ → List ℕ
numbers_line word ns = word ++ (number_words ns ++ codes "\n")

-- some salt isn't 0
abbrev pub needs_salts : List ℕ → Bool
needs_salts salts = not (list_all (λ salt. salt == 0) salts)

-- the lowest version that can say these salts
abbrev pub version_for : List ℕ → Version
version_for salts = if needs_salts salts then Two else One

-- the line of the version, and the first word of the frames' line
abbrev pub version_line : Version → List ℕ
version_line One = codes "pageshare journal 1\nframes "
version_line Two = codes "pageshare journal 2\nframes "

-- the lines of the version and of the frames
abbrev pub machine_lines : Version → ℕ → List ℕ
machine_lines version frames = version_line version ++ (decimal frames ++ codes "\n")

-- the line of the guests' salts, which only version 2 has
abbrev pub salts_line : Version → List ℕ → List ℕ
salts_line One salts = []
salts_line Two salts = numbers_line (codes "salts") salts

-- the line of the guests' pages, and that of their salts if the version has one
abbrev pub guests_lines : Version → List ℕ → List ℕ → List ℕ
guests_lines version pages salts = numbers_line (codes "pages") pages ++ salts_line version salts

-- the lines of the entries, and the line of their number
abbrev pub entries_lines : List Entry → List ℕ
entries_lines es = entry_lines es ++ (counted (codes "end ") (length es) ++ codes "\n")

-- the whole text
unfoldable pub journal_text : Journal → List ℕ
journal_text j = machine_lines (version_for j.salts) j.frames ++
    (guests_lines (version_for j.salts) j.pages j.salts ++ entries_lines j.entries)

-- a request that its type can hold
abbrev pub IsWritable : Request → Type 0
IsWritable (Propose ppn) = ppn < 2 ^ 32
IsWritable (Store r) =
    (r.ppn < 2 ^ 32) × (1 ≤ length r.bytes) × (length r.bytes ≤ MAX_ACCESS_BYTES) × (r.at + length r.bytes ≤ PAGE_BYTES) × IsBytes r.bytes
IsWritable (Load r) = (r.ppn < 2 ^ 32) × (1 ≤ r.len) × (r.len ≤ MAX_ACCESS_BYTES) × (r.at + r.len ≤ PAGE_BYTES)
IsWritable (Release ppn) = ppn < 2 ^ 32
IsWritable Count = Unit {0}
IsWritable Close = Unit {0}

-- no entry of a guest follows its close
abbrev pub NoneAfterClose : List Entry → Type 0
NoneAfterClose [] = Unit {0}
NoneAfterClose (e ∷ es) = (is_close e.request ≡ true → All (λ later. later.guest ≢ e.guest) es) × NoneAfterClose es

-- a journal of a machine within the limits, as its type keeps it, whose guests ask for nothing after their closes and whose
-- text isn't too long
pub record CanBeRead (j : Journal) : Type 0 where
  pub frames : AreFrames j.frames
  pub guests : AreGuests j.salts j.pages
  pub pages : ArePages j.pages
  pub pages_fit : All (λ n. n < 2 ^ 32) j.pages
  pub salts_fit : All (λ n. n < 2 ^ 32) j.salts
  pub members : AreBelow (length j.pages) j.entries
  pub requests : All (λ e. IsWritable e.request) j.entries
  pub closing : NoneAfterClose j.entries
  pub few : length j.entries < MAX_ENTRIES
  pub short : length (journal_text j) ≤ MAX_TEXT_BYTES

-- what is written for a journal is read as that journal
abbrev pub ReadsAsWritten : Type 0
ReadsAsWritten = (j : Journal) → CanBeRead j → journal_of (journal_text j) ≡ Ok j
