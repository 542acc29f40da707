use Rattle.std.proofs.Common.{◌≡◌, ◌<◌, ℕ, length, take}
use Rattle.fleet_census.specs.Holders.{AreRising, found}
use Rattle.fleet_census.specs.Steps.{guest_after, guest_at}
use Rattle.fleet_census.proofs.guest.count_guests.Given as goal

abbrev pub invariant-loop-holder : goal.invariant-loop-holder
invariant-loop-holder l = record {
  counted : AreRising l.holders → (file : ℕ) → file < length l.fn.guests
      → guest_at l.guests file ≡ guest_after l.content (guest_at l.fn.guests file) (found file (take l.holder-index l.holders));
}
