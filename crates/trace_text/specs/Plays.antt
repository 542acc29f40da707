-- What becomes of a trace that is played by the protocol of windows.
use Rattle.std.specs.Prelude.{◌≡◌, ◌≢◌, ℕ, ◌+◌, ◌<◌, ◌==◌, Bool, true, false, if◌then◌else◌, is_some, unwrap_or, List, [], ◌∷◌, length, take, replicate, filter_map, Option, Some, None, slice_get}
use Rattle.window_events.specs.declared.event.Event.{Event}
use Rattle.window_events.specs.Windows.{Mappings, step, run, start, shown}
use Rattle.window_events.specs.Played.{refused_from}
use Rattle.trace_text.specs.declared.step.Step.{Step}
use Rattle.trace_text.specs.declared.step.Step.TheVariants.{Happens, Shows}
use Rattle.trace_text.specs.declared.outcome.Outcome.{Outcome}
use Rattle.trace_text.specs.declared.outcome.Outcome.TheVariants.{Right, NotPossible, Differs, NoPage}

-- the event of a step, if it is one
abbrev pub event_of : Step → Option Event
event_of (Happens event) = Some event
event_of (Shows page content) = None

-- the events among some steps
abbrev pub events_of : List Step → List Event
events_of steps = filter_map event_of steps

-- the pages and frames before the first step: zeros
abbrev pub blank : ℕ → ℕ → Mappings
blank pages frames = start (replicate pages 0) (replicate frames 0)

-- the mappings before the step with this place
abbrev pub before : Mappings → List Step → ℕ → Mappings
before w steps place = run step w (events_of (take place steps))

-- Of the first n steps each event is possible after those before it, and each page shows what is said of it.
pub record AreRight (w : Mappings) (steps : List Step) (n : ℕ) : Type 0 where
  pub possible : refused_from 0 w (events_of (take n steps)) ≡ None
  pub shows : (place page content : ℕ) → place < n → slice_get steps place ≡ Some (Shows page content) → shown (before w steps place) page ≡ Some content

-- The step with this place is an event that isn't possible.
pub record IsNotPossible (w : Mappings) (steps : List Step) (place : ℕ) : Type 0 where
  pub event : Event
  pub is : slice_get steps place ≡ Some (Happens event)
  pub refused : step (before w steps place) event ≡ None

-- The step with this place says of a page what it doesn't show.
pub record IsOther (w : Mappings) (steps : List Step) (place page content : ℕ) (seen : Option ℕ) : Type 0 where
  pub is : slice_get steps place ≡ Some (Shows page content)
  pub shows : shown (before w steps place) page ≡ seen
  pub differs : seen ≢ Some content

-- How the play of some steps ends: all of them are right, or this is the first that isn't.
abbrev pub EndsAs : Mappings → List Step → Outcome → Type 0
EndsAs w steps (Right events looks) = AreRight w steps (length steps) × (events ≡ length (events_of steps)) × (events + looks ≡ length steps)
EndsAs w steps (NotPossible place) = AreRight w steps place × IsNotPossible w steps place
EndsAs w steps (Differs place page seen said) = AreRight w steps place × IsOther w steps place page said (Some seen)
EndsAs w steps (NoPage place page) = AreRight w steps place × ((content : ℕ) × IsOther w steps place page content None)

-- what is wrong with a page of which this content is said, by what it shows
abbrev pub compared : ℕ → ℕ → ℕ → Option ℕ → Option Outcome
compared place page said None = Some (NoPage place page)
compared place page said (Some seen) = if seen == said then None else Some (Differs place page seen said)

-- what is wrong with the step with this place, if anything
abbrev pub verdict : ℕ → Mappings → Step → Option Outcome
verdict place w (Happens event) = if is_some (step w event) then None else Some (NotPossible place)
verdict place w (Shows page content) = compared place page content (shown w page)

-- the mappings after a step
abbrev pub after : Mappings → Step → Mappings
after w (Happens event) = unwrap_or (step w event) w
after w (Shows page content) = w

abbrev pub or_later : Option Outcome → Option Outcome → Option Outcome
or_later None later = later
or_later (Some outcome) later = Some outcome

-- what is wrong with the first of some steps that isn't right, where the first of them has place n
abbrev pub first_wrong : ℕ → Mappings → List Step → Option Outcome
first_wrong n w [] = None
first_wrong n w (s ∷ steps) = or_later (verdict n w s) (first_wrong (n + 1) (after w s) steps)

-- the step is an event
abbrev pub is_event : Step → Bool
is_event (Happens event) = true
is_event (Shows page content) = false
