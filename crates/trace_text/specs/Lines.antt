-- The lines of a trace.
use Rattle.std.specs.Prelude.{ℕ, ◌-◌, ◌^◌, ◌==◌, ◌||◌, nat_lt, if◌then◌else◌, List, Option, Some, None, Result, Ok, Err, codes}
use Rattle.std.specs.Str.{bytes_eq}
use Rattle.text_words.specs.declared.fault.Cause.{Cause}
use Rattle.text_words.specs.declared.fault.Cause.TheVariants as causes
use Rattle.text_words.specs.Words.{◌>>=◌, word_at, nothing_at, number_to, number_at}
use Rattle.text_words.specs.Lines.{keyword}
use Rattle.page_model.specs.declared.limits.TheConstants.{MAX_PAGES}
use Rattle.window_events.specs.declared.event.Event.{Event}
use Rattle.window_events.specs.declared.event.Event.TheVariants.{Write, Guard, Unguard, Copy, Lend, Map, Release, Trim, Discard}
use Rattle.trace_text.specs.declared.step.Step.{Step}
use Rattle.trace_text.specs.declared.step.Step.TheVariants.{Happens, Shows}
use Rattle.trace_text.specs.declared.trace.TheConstants.{MAX_TRACE_FRAMES}

-- the first line
abbrev pub header_of : List ℕ → Result (Unit {0}) Cause
header_of line = if bytes_eq line (codes "pageshare trace 1") then Ok tt else Err causes.Header

-- the numbers of pages and of frames
abbrev pub in_limits : ℕ → ℕ → Result (ℕ × ℕ) Cause
in_limits pages frames =
    if pages == 0 || nat_lt MAX_PAGES pages then Err causes.Pages
    else if frames == 0 || nat_lt MAX_TRACE_FRAMES frames then Err causes.Frames
    else Ok (pages, frames)

-- the second line: pages NUMBER frames NUMBER
unfoldable pub sizes_of : List ℕ → Result (ℕ × ℕ) Cause
sizes_of line = do
  first ← word_at (Some line)
  _ ← keyword (codes "pages") first.0
  pages ← number_at first.1
  second ← word_at pages.1
  _ ← keyword (codes "frames") second.0
  frames ← number_at second.1
  _ ← nothing_at frames.1
  in_limits pages.0 frames.0

-- the last word of a line, as a NUMBER
unfoldable pub last_number : Option (List ℕ) → Result ℕ Cause
last_number left = do
  n ← number_at left
  _ ← nothing_at n.1
  Ok n.0

-- the last word of a line, as a content: a number of 64 bits
unfoldable pub content_at : Option (List ℕ) → Result ℕ Cause
content_at left = do
  word ← word_at left
  content ← number_to (2 ^ 64 - 1) word.0
  _ ← nothing_at word.1
  Ok content

-- the event of a line that has no third word, by its name and its page
abbrev pub page_event : List ℕ → ℕ → Option Event
page_event name page =
    if bytes_eq name (codes "guard") then Some (Guard page)
    else if bytes_eq name (codes "unguard") then Some (Unguard page)
    else if bytes_eq name (codes "copy") then Some (Copy page)
    else if bytes_eq name (codes "map") then Some (Map page)
    else if bytes_eq name (codes "release") then Some (Release page)
    else if bytes_eq name (codes "discard") then Some (Discard page)
    else None

-- nothing comes after such an event
unfoldable pub alone : Event → Option (List ℕ) → Result Step Cause
alone event left = do
  _ ← nothing_at left
  Ok (Happens event)

-- what a third word says, by the line's name
unfoldable pub write_at : ℕ → Option (List ℕ) → Result Step Cause
write_at page left = do
  content ← content_at left
  Ok (Happens (Write page content))

unfoldable pub lend_at : ℕ → Option (List ℕ) → Result Step Cause
lend_at page left = do
  frame ← last_number left
  Ok (Happens (Lend page frame))

unfoldable pub trim_at : ℕ → Option (List ℕ) → Result Step Cause
trim_at frame left = do
  content ← content_at left
  Ok (Happens (Trim frame content))

unfoldable pub shows_at : ℕ → Option (List ℕ) → Result Step Cause
shows_at page left = do
  content ← content_at left
  Ok (Shows page content)

-- what comes after the name and the number of a line that has a third word
unfoldable pub third_at : List ℕ → ℕ → Option (List ℕ) → Result Step Cause
third_at name n left =
    if bytes_eq name (codes "write") then write_at n left
    else if bytes_eq name (codes "lend") then lend_at n left
    else if bytes_eq name (codes "trim") then trim_at n left
    else if bytes_eq name (codes "shows") then shows_at n left
    else Err causes.Form

-- what comes after a line's name and its first number, with the event that they are, if there is no third word
abbrev pub rest_at : Option Event → List ℕ → ℕ → Option (List ℕ) → Result Step Cause
rest_at (Some event) name n left = alone event left
rest_at None name n left = third_at name n left

-- a line after the first two
unfoldable pub step_of : List ℕ → Result Step Cause
step_of line = do
  name ← word_at (Some line)
  n ← number_at name.1
  rest_at (page_event name.0 n.0) name.0 n.0 n.1
