use Rattle.std.proofs.Common.{◌≡◌, drop}
use Rattle.window_events.specs.Played.{refused_from, played}
use Rattle.window_events.proofs.mappings.Mappings.play.Given as goal

-- what is left of the events leads to the same answer and the same mappings
abbrev pub invariant-loop-place : goal.invariant-loop-place
invariant-loop-place g l = record {
  refused : refused_from l.place l.self (drop l.place l.events) ≡ refused_from 0 l.fn.self l.fn.events;
  mappings : played l.self (drop l.place l.events) ≡ played l.fn.self l.fn.events;
}
