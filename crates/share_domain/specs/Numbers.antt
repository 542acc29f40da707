-- Slots and frames as numbers.
use Rattle.std.specs.Prelude.{ℕ, Option, Some, None, ◌+◌, ◌*◌, ◌/◌, ◌%◌}
use Rattle.share_domain.specs.declared.holding.Slot.{Slot}
use Rattle.share_domain.specs.declared.number.TheConstants.{NO_FRAME, SLOTS_APART}

abbrev pub slot_number : Slot → ℕ
slot_number slot = slot.machine * SLOTS_APART + slot.ppn

abbrev pub slot_by : ℕ → Slot
slot_by number = record { machine = number / SLOTS_APART; ppn = number % SLOTS_APART }

-- a frame's number, or what stands for none
abbrev pub frame_number : Option ℕ → ℕ
frame_number None = NO_FRAME
frame_number (Some frame) = frame
