-- A look at a page, step by step, and what it keeps to at each of them.
use Rattle.std.specs.Prelude.{◌≡◌, Bool, true, ◌||◌}
use Rattle.page_looks.specs.FindLaws.{IsReadable, is_found, reads_bytes}
use Rattle.page_looks.specs.Steps.{Came, first_step}
use Rattle.page_looks.specs.declared.finds.step.FindOutcome.{FindOutcome}
use Rattle.page_looks.specs.declared.finds.step.FindStep.{FindStep}
use Rattle.page_looks.specs.declared.finds.step.Memory.{Memory}
use Rattle.page_looks.specs.declared.finds.step.Sight.{Sight}
use Rattle.window_pages.specs.Bytes.{known_of}
use Rattle.window_pages.specs.declared.counts.PartCounts.{PartCounts}
use Rattle.window_pages.specs.declared.facts.WindowFacts.{WindowFacts}
use Rattle.window_pages.specs.declared.page.WindowPage.{WindowPage}

-- A look at a page while this is so of it: it begins with a first step, by the contract of `begin`, and goes on by what comes of each step.
pub data Look (facts : WindowFacts) (memory : Memory) (is_ready : Bool) : FindStep → WindowPage → Type 0 where
  looks : (sight : Sight) (step : FindStep) (page : WindowPage) → step ≡ first_step facts sight memory is_ready page → Look facts memory is_ready step page
  goes_on : (step next : FindStep) (sight : Sight) (outcome : FindOutcome) (old new : WindowPage) (part part_new : PartCounts) → Look facts memory is_ready step old
      → Came step sight outcome next old new part part_new → Look facts memory is_ready next new

-- At every step that reads bytes or has found something, the page may be read: nothing bars it, and nothing is lent of it.
abbrev pub EachStepReadsWhatItMay : Type 0
EachStepReadsWhatItMay =
    (facts : WindowFacts) (memory : Memory) (is_ready : Bool) (step : FindStep) (page : WindowPage) → Look facts memory is_ready step page →
    (reads_bytes step || is_found step) ≡ true → IsReadable facts memory is_ready (known_of page)
