use Rattle.std.proofs.Common.{◌≡◌, ◌≤◌, take}
use Rattle.std.specs.Prelude.{count_by}
use Rattle.trace_text.specs.Plays.{is_event}
use Rattle.trace_text.proofs.playing.count_events.Given as goal

abbrev pub invariant-loop-step : goal.invariant-loop-step
invariant-loop-step l = record {
  count : l.count ≡ count_by is_event (take l.step-index l.steps);
  few : l.count ≤ l.step-index;
}
