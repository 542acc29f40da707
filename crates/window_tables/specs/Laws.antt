-- Lives of a table, and what its counts are worth: those of its parts, and that of its mappings.
use Rattle.std.specs.Prelude.{◌≡◌, ⊤, ℕ, ◌+◌, ◌-◌, ◌*◌, ◌%◌, ◌<◌, ◌≤◌, Bool, false, true, List, length, replicate, Some, slice_get}
use Rattle.window_pages.specs.Bytes.{known_of}
use Rattle.window_pages.specs.Counted.{is_to_release}
use Rattle.window_pages.specs.Laws.{new_page, no_counts}
use Rattle.window_pages.specs.declared.counts.PartCounts.{PartCounts}
use Rattle.window_pages.specs.declared.page.WindowPage.{WindowPage}
use Rattle.window_tables.specs.Changes.{keeps_mappings}
use Rattle.window_tables.specs.Mappings.{IsSet, StaysOutside, is_whole, mapped_at, mappings_at, mappings_more, mappings_of}
use Rattle.window_tables.specs.Rooms.{are_alone, zeros_more}
use Rattle.window_tables.specs.Tables.{Counted, Notes, OneChanges, part_at}
use Rattle.window_tables.specs.declared.changes.Change.{Change}
use Rattle.window_tables.specs.declared.changes.Change.TheVariants.{Uncovered}
use Rattle.page_looks.specs.declared.parts.part.Part.{Part}

-- whatever becomes of a page
abbrev pub Anything : WindowPage → WindowPage → Type 0
Anything old new = ⊤

-- A life of a table of so many pages in so many parts: all bytes are zeros at first. Calls come in any order, for many pages or for any one, whose
-- counts follow.
pub data TableLife (lead count many : ℕ) : List WindowPage → List PartCounts → Type 0 where
  begins : TableLife lead count many (replicate count new_page) (replicate many no_counts)
  many_change : (old new : List WindowPage) (parts parts_new : List PartCounts) (what : Change) (first n : ℕ) (is_noted : Bool)
      → TableLife lead count many old parts → Notes what lead first n is_noted old new parts parts_new → TableLife lead count many new parts_new
  one_changes : (old new : List WindowPage) (parts parts_new : List PartCounts) (place : ℕ)
      → TableLife lead count many old parts → OneChanges Anything lead place old new parts parts_new → TableLife lead count many new parts_new

-- whatever calls there are, the counts of each part are right of its pages
abbrev pub EachTableIsCounted : Type 0
EachTableIsCounted =
    (lead count many : ℕ) → lead < 512 → count + lead ≤ 512 * many → (pages : List WindowPage) (parts : List PartCounts) →
    TableLife lead count many pages parts → Counted lead pages parts

-- where a part counts no slot to release, none of its pages has one
abbrev pub NoneIsMissed : Type 0
NoneIsMissed =
    (lead : ℕ) (pages : List WindowPage) (parts : List PartCounts) → Counted lead pages parts → (i : ℕ) (x : WindowPage) (part : PartCounts) →
    slice_get pages i ≡ Some x → slice_get parts (part_at lead i) ≡ Some part → part.releases ≡ 0 → is_to_release (known_of x) ≡ false

-- ---- mappings ----

-- where only pages of a range change, a table has as many mappings as before, less those that began there, and those that begin there then
abbrev pub DifferencesCount : Type 0
DifferencesCount =
    (lead first count : ℕ) (parts parts_new : List Part) (old new : List WindowPage) → StaysOutside lead first count parts parts_new old new →
    mappings_of lead parts_new new ≡ mappings_of lead parts old - mappings_at lead parts old first count + mappings_at lead parts_new new first count

-- whatever becomes of them, no more mappings come than `mappings_more` says
abbrev pub NoMoreCome : Type 0
NoMoreCome =
    (lead first count : ℕ) (parts parts_new : List Part) (old new : List WindowPage) → StaysOutside lead first count parts parts_new old new →
    mappings_of lead parts_new new ≤ mappings_of lead parts old + mappings_more lead parts old first count

-- Zeros are put in the place of some pages in parts that are all whole or all split, and the system lets be said of them what is said of the window.
-- The page behind them is as calls leave each page: it begins what was moved only if it was moved. Then no more mappings come than `zeros_more` says.
abbrev pub ZerosTakeNoMore : Type 0
ZerosTakeNoMore =
    (lead first count : ℕ) (old new : List WindowPage) (counts counts_new : List PartCounts) (parts : List Part) → 0 < count →
    ((i : ℕ) → first ≤ i → i < first + count → is_whole lead parts i ≡ is_whole lead parts first) →
    ((x : WindowPage) → slice_get old (first + count) ≡ Some x → (known_of x).begins ≡ true → (known_of x).moved ≡ true) →
    Notes (Uncovered (are_alone lead parts old first count)) lead first count true old new counts counts_new →
    mappings_of lead parts new ≤ mappings_of lead parts old + zeros_more lead parts old first count

-- One part is whole from now on, or split, of which this is the first page. What is mapped outside of it stays.
abbrev pub SetsStayInside : Type 0
SetsStayInside =
    (is_whole : Bool) (lead first : ℕ) (pages : List WindowPage) (parts parts_new : List Part) → (first + lead) % 512 ≡ 0 → IsSet is_whole lead first parts parts_new →
    StaysOutside lead first 512 parts parts_new pages pages

-- and at most two mappings more come: one at each of its ends
abbrev pub SetsTakeTwo : Type 0
SetsTakeTwo =
    (is_whole : Bool) (lead first : ℕ) (pages : List WindowPage) (parts parts_new : List Part) → (first + lead) % 512 ≡ 0 → IsSet is_whole lead first parts parts_new →
    mappings_of lead parts_new pages ≤ mappings_of lead parts pages + 2

-- what is noted of pages leaves what is mapped outside their range
abbrev pub NotesStayInside : Type 0
NotesStayInside =
    (what : Change) (lead first count : ℕ) (old new : List WindowPage) (counts counts_new : List PartCounts) (parts : List Part) →
    Notes what lead first count true old new counts counts_new → StaysOutside lead first count parts parts old new

-- the same is mapped at each place
pub record SameMapped (lead : ℕ) (parts parts_new : List Part) (old new : List WindowPage) : Type 0 where
  pub length : length new ≡ length old
  pub each : (i : ℕ) → mapped_at lead parts_new new i ≡ mapped_at lead parts old i

-- where content is given up, or pages leave, the same stays mapped
abbrev pub SomeKeepMappings : Type 0
SomeKeepMappings =
    (what : Change) (lead first count : ℕ) (old new : List WindowPage) (counts counts_new : List PartCounts) (parts : List Part) → keeps_mappings what ≡ true →
    Notes what lead first count true old new counts counts_new → SameMapped lead parts parts old new

-- A table, and a number that is kept by differences: it is how many mappings the table has at first. Then pages or parts change in one range after
-- another, or anything where the same stays mapped.
pub data KeptBy (lead : ℕ) : List Part → List WindowPage → ℕ → Type 0 where
  counted : (parts : List Part) (pages : List WindowPage) → KeptBy lead parts pages (mappings_of lead parts pages)
  range_changes : (first count n : ℕ) (parts parts_new : List Part) (old new : List WindowPage) → KeptBy lead parts old n
      → StaysOutside lead first count parts parts_new old new → KeptBy lead parts_new new (n - mappings_at lead parts old first count + mappings_at lead parts_new new first count)
  same_stays : (n : ℕ) (parts parts_new : List Part) (old new : List WindowPage) → KeptBy lead parts old n → SameMapped lead parts parts_new old new → KeptBy lead parts_new new n

-- such a number is how many mappings the table has
abbrev pub EachNumberIsRight : Type 0
EachNumberIsRight = (lead : ℕ) (parts : List Part) (pages : List WindowPage) (n : ℕ) → KeptBy lead parts pages n → n ≡ mappings_of lead parts pages
