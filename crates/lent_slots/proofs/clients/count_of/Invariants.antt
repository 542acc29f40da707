use Rattle.std.proofs.Common.{◌≡◌, ◌≤◌, take}
use Rattle.lent_slots.specs.Slots.{held_by}
use Rattle.lent_slots.specs.Tags.{slots_of}
use Rattle.lent_slots.proofs.clients.count_of.Given as goal

abbrev pub invariant-loop-i : goal.invariant-loop-i
invariant-loop-i g l = record { so_far : l.count ≡ held_by l.client (take l.i (slots_of l.core.pmap l.tags)); few : l.count ≤ l.i }
