use Rattle.std.proofs.Common.{◌≡◌, drop}
use Rattle.std.specs.List.{position_from}
use Rattle.lent_slots.specs.Slots.{is_of}
use Rattle.lent_slots.specs.Noted.{first_from}
use Rattle.lent_slots.specs.Tags.{slots_of}
use Rattle.lent_slots.proofs.clients.find_from.Given as goal

-- what is left gives the same slot
abbrev pub invariant-loop-i : goal.invariant-loop-i
invariant-loop-i g l = record {
  left : position_from (is_of l.client) l.i (drop l.i (slots_of l.core.pmap l.tags)) ≡ first_from l.client l.start (slots_of l.core.pmap l.tags);
}
