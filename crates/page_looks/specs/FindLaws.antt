-- What every look at a page keeps to.
use Rattle.std.specs.Prelude.{◌≡◌, ℕ, ◌<◌, ◌≤◌, Bool, true, false, ◌||◌}
use Rattle.page_looks.specs.Idle.{is_idle}
use Rattle.page_lender.specs.Decisions.{is_barred, is_private}
use Rattle.window_pages.specs.Bytes.{known_of}
use Rattle.window_pages.specs.Known.{bars_of, shows_past}
use Rattle.window_pages.specs.declared.counts.PartCounts.{PartCounts}
use Rattle.window_pages.specs.declared.facts.WindowFacts.{WindowFacts}
use Rattle.window_pages.specs.declared.page.KnownPage.{KnownPage}
use Rattle.window_pages.specs.declared.page.WindowPage.{WindowPage}
use Rattle.page_looks.specs.Notes.{looks_of}
use Rattle.page_looks.specs.Steps.{Came, first_step, is_present}
use Rattle.page_looks.specs.declared.finds.step.FindOutcome.{FindOutcome}
use Rattle.page_looks.specs.declared.finds.step.FindStep.{FindStep}
use Rattle.page_looks.specs.declared.finds.step.FindStep.TheVariants.{Over, FindCopy, Glance, Read, Count, Idle, Zeros}
use Rattle.page_looks.specs.declared.finds.step.Memory.{Memory}
use Rattle.page_looks.specs.declared.finds.step.Sight.{Sight}

-- the step reads a byte of the page
abbrev pub reads_bytes : FindStep → Bool
reads_bytes Over = false
reads_bytes FindCopy = false
reads_bytes Glance = true
reads_bytes Read = true
reads_bytes Count = false
reads_bytes Idle = false
reads_bytes Zeros = false

-- something was found of the page
abbrev pub is_found : FindStep → Bool
is_found Over = false
is_found FindCopy = false
is_found Glance = false
is_found Read = false
is_found Count = true
is_found Idle = true
is_found Zeros = true

-- steps that may be left after one
abbrev pub steps_left : FindStep → ℕ
steps_left Over = 0
steps_left FindCopy = 1
steps_left Glance = 3
steps_left Read = 2
steps_left Count = 1
steps_left Idle = 0
steps_left Zeros = 0

-- The page is its window's, and it is there: its memory is in use, or it shows a frame of a lender that is gone. Nothing is lent of it, and
-- nothing keeps it from being lent. The system leaves its memory alone.
pub record IsReadable (facts : WindowFacts) (memory : Memory) (is_ready : Bool) (page : KnownPage) : Type 0 where
  pub own : page.out ≡ false
  pub there : (is_present memory || shows_past page) ≡ true
  pub private : is_private page.belief ≡ true
  pub free : is_barred (bars_of facts page) ≡ false
  pub ready : is_ready ≡ true

-- Bytes of a page are read, and something is found of it, only if that is so.
abbrev pub ReadsWhatItMay : Type 0
ReadsWhatItMay =
    (facts : WindowFacts) (sight : Sight) (memory : Memory) (is_ready : Bool) (page : WindowPage) →
    (reads_bytes (first_step facts sight memory is_ready page) || is_found (first_step facts sight memory is_ready page)) ≡ true →
    IsReadable facts memory is_ready (known_of page)

-- And a step after that reads bytes only where the one before it did.
abbrev pub LaterReadsWhatItMay : Type 0
LaterReadsWhatItMay =
    (step : FindStep) (sight : Sight) (outcome : FindOutcome) (next : FindStep) (old new : WindowPage) (part part_new : PartCounts) →
    Came step sight outcome next old new part part_new → reads_bytes next ≡ true → reads_bytes step ≡ true

-- What is found at once is idle.
abbrev pub FoundIsIdle : Type 0
FoundIsIdle =
    (facts : WindowFacts) (sight : Sight) (memory : Memory) (is_ready : Bool) (page : WindowPage) →
    is_found (first_step facts sight memory is_ready page) ≡ true → is_idle (looks_of page) ≡ true

-- And so is what is found after a step.
abbrev pub LaterFoundIsIdle : Type 0
LaterFoundIsIdle =
    (step : FindStep) (sight : Sight) (outcome : FindOutcome) (next : FindStep) (old new : WindowPage) (part part_new : PartCounts) →
    Came step sight outcome next old new part part_new → is_found next ≡ true → is_idle (looks_of new) ≡ true

-- Each step leaves fewer.
abbrev pub EachLeavesFewer : Type 0
EachLeavesFewer =
    (step : FindStep) (sight : Sight) (outcome : FindOutcome) (next : FindStep) (old new : WindowPage) (part part_new : PartCounts) →
    Came step sight outcome next old new part part_new → 1 ≤ steps_left step → steps_left next < steps_left step
