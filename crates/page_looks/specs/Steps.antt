-- What a look does with a page, step by step.
use Rattle.std.specs.Prelude.{◌≡◌, ℕ, Bool, true, false, not, ◌&&◌, ◌||◌, nat_eq, if◌then◌else◌}
use Rattle.page_looks.specs.Idle.{asked, is_idle, met}
use Rattle.page_looks.specs.Ways.{act_after, way}
use Rattle.page_looks.specs.declared.idle.look.Act.{Act}
use Rattle.page_looks.specs.declared.idle.look.Act.TheVariants.{Pass, Meet, Keep, Read as ToRead}
use Rattle.page_looks.specs.declared.idle.look.Way.{Way}
use Rattle.page_lender.specs.Decisions.{is_busy, shows}
use Rattle.page_lender.specs.declared.order.Notice.TheVariants.{Written}
use Rattle.page_lender.specs.Calls.{IsHeard, is_free}
use Rattle.window_pages.specs.Bytes.{known_of}
use Rattle.window_pages.specs.Changed.{Becomes, Lends, given_back, lender_with, no_past}
use Rattle.window_pages.specs.Known.{is_given_back, lender_of, no_bars, shows_past}
use Rattle.window_pages.specs.declared.counts.PartCounts.{PartCounts}
use Rattle.window_pages.specs.declared.facts.WindowFacts.{WindowFacts}
use Rattle.window_pages.specs.declared.page.KnownPage.{KnownPage}
use Rattle.window_pages.specs.declared.page.WindowPage.{WindowPage}
use Rattle.page_looks.specs.Notes.{Notes, NotesRead, looks_of}
use Rattle.page_looks.specs.declared.finds.step.FindOutcome.{FindOutcome}
use Rattle.page_looks.specs.declared.finds.step.FindStep.{FindStep}
use Rattle.page_looks.specs.declared.finds.step.FindStep.TheVariants.{Over, FindCopy, Glance, Read, Count, Idle, Zeros}
use Rattle.page_looks.specs.declared.finds.step.Memory.{Memory}
use Rattle.page_looks.specs.declared.finds.step.Memory.TheVariants.{Missing, Present, Swapped}
use Rattle.page_looks.specs.declared.finds.step.Sight.{Sight}

-- the page has memory of its own, in use or swapped out
abbrev pub has_memory : Memory → Bool
has_memory Missing = false
has_memory Present = true
has_memory Swapped = true

-- that memory is in use
abbrev pub is_present : Memory → Bool
is_present Missing = false
is_present Present = true
is_present Swapped = false

-- the page shows a frame, of its lender or of one that is gone, as far as is known
abbrev pub shows_frame : KnownPage → Bool
shows_frame page = shows page.belief || shows_past page

-- it was given back as zeros, and has memory again
abbrev pub has_again : Memory → KnownPage → Bool
has_again memory page = not page.out && (has_memory memory && is_given_back page)

-- A page that was given back as zeros is noted to have memory again, if it has. Else nothing changes.
pub record NotesMemory (memory : Memory) (old new : WindowPage) (part part_new : PartCounts) : Type 0 where
  pub noted : has_again memory (known_of old) ≡ true → Becomes (given_back false (known_of old)) false old new part part_new
  pub page : has_again memory (known_of old) ≡ false → new ≡ old
  pub counts : has_again memory (known_of old) ≡ false → part_new ≡ part

-- the page may be read: it is there, its memory is ready, nothing is lent of it and nothing bars that
abbrev pub may_read : WindowFacts → Memory → Bool → KnownPage → Bool
may_read facts memory is_ready page = (is_present memory || shows_past page) && (is_ready && is_free (lender_of facts page))

-- the way of a look at the page
abbrev pub way_of : Sight → WindowPage → Way
way_of sight page = way sight.config sight.part (looks_of page) (known_of page).over sight.look sight.number

-- what an idle page with this fingerprint is
abbrev pub found_as : Sight → ℕ → FindStep
found_as sight fingerprint = if nat_eq fingerprint sight.zeros then (if sight.part.whole then Count else Zeros) else Idle

-- what is done next if the look has not glanced at the page
abbrev pub unseen_step : Sight → WindowPage → Act → FindStep
unseen_step sight page Pass = Over
unseen_step sight page Meet = Glance
unseen_step sight page Keep = found_as sight (looks_of page).fingerprint
unseen_step sight page ToRead = Read

-- and if it has
abbrev pub seen_step : Sight → WindowPage → Act → FindStep
seen_step sight page Pass = Over
seen_step sight page Meet = Over
seen_step sight page Keep = found_as sight (looks_of page).fingerprint
seen_step sight page ToRead = Read

-- what is done first with the page
abbrev pub first_step : WindowFacts → Sight → Memory → Bool → WindowPage → FindStep
first_step facts sight memory is_ready page =
    if not (known_of page).out && (has_memory memory && shows_frame (known_of page)) then FindCopy
    else (if may_read facts memory is_ready (known_of page)
    then (if (way_of sight page).glances then Glance else unseen_step sight page (way_of sight page).act) else Over)

-- what comes of the look by what a glance found
abbrev pub act_by : Sight → ℕ → WindowPage → Act
act_by sight glance page = act_after (way_of sight page) (nat_eq glance (looks_of page).clue)

-- the look has met the page: it is new, or has changed
abbrev pub is_met : Act → Bool
is_met Pass = false
is_met Meet = true
is_met Keep = false
is_met ToRead = false

-- Nothing changes.
pub record Stays (old new : WindowPage) (part part_new : PartCounts) : Type 0 where
  pub page : new ≡ old
  pub counts : part_new ≡ part

-- A copy was found: it is heard, unless an order is open that touches the page, and the page shows no frame of a lender that is gone.
pub record IsCopy (old new : WindowPage) (part part_new : PartCounts) : Type 0 where
  pub heard : WindowPage
  pub part_heard : PartCounts
  pub hears : is_busy (lender_with no_bars (known_of old)) ≡ false → Lends (IsHeard Written) no_bars old heard part part_heard
  pub busy : is_busy (lender_with no_bars (known_of old)) ≡ true → Stays old heard part part_heard
  pub stops : Becomes (no_past (known_of heard)) (shows_past (known_of heard)) heard new part_heard part_new

-- The system was asked once more.
pub record CopyFound (is_own : Bool) (next : FindStep) (old new : WindowPage) (part part_new : PartCounts) : Type 0 where
  pub step : next ≡ Over
  pub copy : is_own ≡ true → IsCopy old new part part_new
  pub none : is_own ≡ false → Stays old new part part_new

-- The look has glanced at the page. One that is new, or has changed, is noted as that.
pub record Glanced (sight : Sight) (glance : ℕ) (next : FindStep) (old new : WindowPage) (part part_new : PartCounts) : Type 0 where
  pub step : next ≡ seen_step sight old (act_by sight glance old)
  pub met : is_met (act_by sight glance old) ≡ true → Notes (met (looks_of old) sight.number glance) false old new part part_new
  pub same : is_met (act_by sight glance old) ≡ false → Stays old new part part_new

-- The page was read. If it is idle by that, the look has found something.
pub record WasRead (sight : Sight) (outcome : FindOutcome) (next : FindStep) (old new : WindowPage) (part part_new : PartCounts) : Type 0 where
  pub step : next ≡ (if is_idle (looks_of new) then found_as sight outcome.fingerprint else Over)
  pub noted : NotesRead outcome.fingerprint outcome.glance old new part part_new

-- The page counts as one that could be shared, and was asked about once more.
pub record Counted (next : FindStep) (old new : WindowPage) (part part_new : PartCounts) : Type 0 where
  pub step : next ≡ Over
  pub noted : Notes (asked (looks_of old)) true old new part part_new

-- No step was left.
pub record Ended (next : FindStep) (old new : WindowPage) (part part_new : PartCounts) : Type 0 where
  pub step : next ≡ Over
  pub same : Stays old new part part_new

-- This came of a step.
abbrev pub Came : FindStep → Sight → FindOutcome → FindStep → WindowPage → WindowPage → PartCounts → PartCounts → Type 0
Came Over sight outcome next old new part part_new = Ended next old new part part_new
Came FindCopy sight outcome next old new part part_new = CopyFound outcome.is_own next old new part part_new
Came Glance sight outcome next old new part part_new = Glanced sight outcome.glance next old new part part_new
Came Read sight outcome next old new part part_new = WasRead sight outcome next old new part part_new
Came Count sight outcome next old new part part_new = Counted next old new part part_new
Came Idle sight outcome next old new part part_new = Ended next old new part part_new
Came Zeros sight outcome next old new part part_new = Ended next old new part part_new
