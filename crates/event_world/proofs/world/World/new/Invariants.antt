use Rattle.std.proofs.Common.{◌≡◌, ℕ, ◌≤◌, length, slice_index_or, vec_capacity}
use Rattle.page_model.specs.Events.{no_traffic}
use Rattle.event_world.proofs.world.World.new.Given as goal

-- the guests so far, none with traffic, and room for the rest
abbrev pub invariant-loop : goal.invariant-loop
invariant-loop g l = record {
  so_far : length l.list.items ≡ l.counter;
  room : l.guests ≤ vec_capacity l.list;
  empty : (guest : ℕ) → slice_index_or l.list.items guest no_traffic ≡ no_traffic;
}
