-- A scan of a part: which of its pages it takes, and what comes of each.
use Rattle.std.specs.Prelude.{◌≡◌, ℕ, zero, suc, ◌+◌, ◌-◌, ◌^◌, ◌<◌, min, ◌==◌, Bool, true, false, not, ◌&&◌, ◌||◌, nat_eq, nat_lt, if◌then◌else◌, List, length, Some, slice_get, slice_index_or}
use Rattle.std.specs.Option.{option_map_or}
use Rattle.page_holds.specs.Orders.{facts_there}
use Rattle.page_holds.specs.Rows.{PageBecomes, RowChanges}
use Rattle.page_looks.specs.Idle.{glanced_by, is_again, is_young}
use Rattle.page_looks.specs.Notes.{looks_of}
use Rattle.page_looks.specs.Samples.{is_left_out, is_sampled}
use Rattle.page_looks.specs.Steps.{Came, NotesMemory, Stays, first_step, has_memory, is_present}
use Rattle.page_looks.specs.Turns.{is_turn_of_idle}
use Rattle.page_looks.specs.declared.finds.step.FindOutcome.{FindOutcome}
use Rattle.page_looks.specs.declared.finds.step.FindStep.{FindStep}
use Rattle.page_looks.specs.declared.finds.step.Memory.{Memory}
use Rattle.page_looks.specs.declared.finds.step.Memory.TheVariants.{Missing, Present, Swapped}
use Rattle.page_looks.specs.declared.finds.step.Sight.{Sight}
use Rattle.page_looks.specs.declared.idle.look.PageLooks.{PageLooks}
use Rattle.window_pages.specs.declared.counts.PartCounts.{PartCounts}
use Rattle.window_pages.specs.declared.facts.WindowFacts.{WindowFacts}
use Rattle.window_pages.specs.declared.page.WindowPage.{WindowPage}
use Rattle.window_tables.specs.Tables.{Counted, can_note}
use Rattle.window_tables.specs.declared.facts.TableFacts.{TableFacts}
use Rattle.part_scans.specs.Seen.{byte_of, counts, has_step, seen_in, seen_then}
use Rattle.part_scans.specs.declared.scan.Scan.{Scan}
use Rattle.part_scans.specs.declared.seen.Seen.{Seen}

-- ---- one page ----

-- which memory the system has for a page, by its number; none by any other
abbrev pub memory_by : ℕ → Memory
memory_by number = if number == 1 then Present else (if number == 2 then Swapped else Missing)

-- the number of the page at a place, at most the greatest one
abbrev pub number_of : ℕ → ℕ
number_of place = min place (2 ^ 32 - 1)

-- the look at the page at a place
abbrev pub sight_at : Scan → ℕ → Sight
sight_at scan place = record { config = scan.config; part = scan.part; look = scan.look; number = number_of place; zeros = scan.zeros }

-- it is the turn of idle pages there
abbrev pub turn_at : Scan → ℕ → Bool
turn_at scan place = is_turn_of_idle scan.config scan.part scan.look (number_of place)

-- The scan takes the page at a place. `there`: it has memory of its own, or is taken without.
abbrev pub takes : Scan → Bool → ℕ → WindowPage → Bool
takes scan there place page =
    there && (if scan.is_return then is_young (looks_of page)
    else nat_eq scan.part.rest 0 || is_sampled scan.part (looks_of page) scan.look (number_of place) (turn_at scan place))

-- It would leave the page out, and follows a change to it: a page beside it has changed, and it has memory that is in use.
abbrev pub follows : Scan → Memory → Bool → Bool → ℕ → WindowPage → Bool
follows scan memory taken beside place page =
    not taken && (beside && (is_present memory && is_left_out scan.config scan.part (looks_of page) scan.look (number_of place)))

-- what is kept of a page that is taken, with which this is done first
abbrev pub first_seen : Memory → FindStep → PageLooks → Seen
first_seen memory step looks = record {
  step = step;
  taken = true;
  changed = false;
  again = is_again looks && counts step;
  memory = has_memory memory;
  young = has_memory memory && is_young looks;
}

-- A page is taken, if this is so: a look at it begins, and its byte has what is done first. Else nothing changes, and its byte is this.
pub record IsTaken (scan : Scan) (facts : WindowFacts) (memory : Memory) (place : ℕ) (is_so : Bool) (other byte : ℕ) (old new : WindowPage) (part part_new : PartCounts) : Type 0 where
  pub page : is_so ≡ true → NotesMemory memory old new part part_new
  pub written : is_so ≡ true → byte ≡ byte_of (first_seen memory (first_step facts (sight_at scan place) memory (nat_lt place scan.ready) new) (looks_of new))
  pub same : is_so ≡ false → Stays old new part part_new
  pub left : is_so ≡ false → byte ≡ other

-- As a scan begins, the pages are taken that it takes.
pub record Begins (scan : Scan) (facts : WindowFacts) (memory : Memory) (there : Bool) (place byte : ℕ) (old new : WindowPage) (part part_new : PartCounts) : Type 0 where
  pub taken : IsTaken scan facts memory place (takes scan there place old) 0 byte old new part part_new

-- As it follows changes, those are taken to which it follows one.
pub record Follows (scan : Scan) (facts : WindowFacts) (memory : Memory) (beside : Bool) (place before byte : ℕ) (old new : WindowPage) (part part_new : PartCounts) : Type 0 where
  pub taken : IsTaken scan facts memory place (follows scan memory (seen_in before).taken beside place old) before byte old new part part_new

-- The step of a page came to this, and its byte has what is next.
pub record WentOn (scan : Scan) (outcome : FindOutcome) (place before byte : ℕ) (old new : WindowPage) (part part_new : PartCounts) : Type 0 where
  pub next : FindStep
  pub came : Came (seen_in before).step (sight_at scan place) outcome next old new part part_new
  pub written : byte ≡ byte_of (seen_then (seen_in before) next (looks_of old) (looks_of new))

-- That is so of a page that has a step left. Else nothing changes.
pub record GoesOn (scan : Scan) (outcome : FindOutcome) (place before byte : ℕ) (old new : WindowPage) (part part_new : PartCounts) : Type 0 where
  pub went : has_step (seen_in before).step ≡ true → WentOn scan outcome place before byte old new part part_new
  pub same : has_step (seen_in before).step ≡ false → Stays old new part part_new
  pub kept : has_step (seen_in before).step ≡ false → byte ≡ before

-- ---- a part ----

-- which memory there is for a page of the part
abbrev pub memory_at : List ℕ → ℕ → Memory
memory_at memory n = memory_by (slice_index_or memory n 0)

-- pages of the part show frames of a lender that is gone: so pages are taken that have no memory of their own
abbrev pub has_past : ℕ → List PartCounts → Bool
has_past number parts = option_map_or (λ part. nat_lt 0 part.past) (slice_get parts number) false

-- the page at a place of the row was idle, and has changed
abbrev pub changed_at : List ℕ → ℕ → Bool
changed_at row n = (seen_in (slice_index_or row n 0)).changed

abbrev pub changed_before : List ℕ → ℕ → Bool
changed_before row zero = false
changed_before row (suc n) = changed_at row n

-- one beside it was
abbrev pub is_beside : List ℕ → ℕ → Bool
is_beside row n = changed_before row n || changed_at row (n + 1)

-- the row and what was found or came of each of its pages fit to the tables
abbrev pub fits : ℕ → ℕ → ℕ → List WindowPage → List PartCounts → List ℕ → Bool
fits lead first count old parts row = can_note lead first (length row) old parts && nat_eq count (length row)

-- Each page of the row becomes what this says, exactly if they fit to the tables. Else nothing changes.
pub record RowGoes (Becomes : ℕ → ℕ → ℕ → WindowPage → WindowPage → Type 0) (lead first count : ℕ) (is_done : Bool) (old new : List WindowPage) (parts parts_new : List PartCounts) (row row_new : List ℕ) : Type 0 where
  pub done : is_done ≡ fits lead first count old parts row
  pub pages : is_done ≡ true → RowChanges Becomes first 0 (length row) old new row row_new
  pub counted : Counted lead old parts → Counted lead new parts_new
  pub same : is_done ≡ false → new ≡ old
  pub same_parts : is_done ≡ false → parts_new ≡ parts
  pub same_row : is_done ≡ false → row_new ≡ row

-- A scan begins at a page of the row.
abbrev pub BeginsAt : Scan → TableFacts → List ℕ → ℕ → Bool → List ℕ → ℕ → ℕ → ℕ → WindowPage → WindowPage → Type 0
BeginsAt scan table pins first all memory n before byte old new =
    PageBecomes (Begins scan (facts_there table pins (first + n)) (memory_at memory n) (all || has_memory (memory_at memory n)) (first + n) byte) old new

-- It follows a change to it.
abbrev pub FollowsAt : Scan → TableFacts → List ℕ → ℕ → List ℕ → List ℕ → ℕ → ℕ → ℕ → WindowPage → WindowPage → Type 0
FollowsAt scan table pins first memory row n before byte old new =
    PageBecomes (Follows scan (facts_there table pins (first + n)) (memory_at memory n) (is_beside row n) (first + n) before byte) old new

-- what came of nothing
abbrev pub no_outcome : FindOutcome
no_outcome = record { fingerprint = 0; glance = 0; is_own = false }

-- What came of its step is taken.
abbrev pub GoesOnAt : Scan → ℕ → List FindOutcome → ℕ → ℕ → ℕ → WindowPage → WindowPage → Type 0
GoesOnAt scan first outcomes n before byte old new = PageBecomes (GoesOn scan (slice_index_or outcomes n no_outcome) (first + n) before byte) old new

-- ---- glances ----

-- Where glances look at the pages at these places, counted from one on, as far as they are there.
pub record AreNumbers (first : ℕ) (pages : List WindowPage) (places before numbers : List ℕ) : Type 0 where
  pub each : (k n : ℕ) (x : WindowPage) → k < length before → slice_get places k ≡ Some n → slice_get pages (first + n) ≡ Some x
      → slice_get numbers k ≡ Some (glanced_by (looks_of x) (number_of (first + n)))
  pub length : length numbers ≡ length before
