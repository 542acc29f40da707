-- What the slots of a machine come to.
use Rattle.std.specs.Prelude.{ℕ, ◌≤◌, ◌↔◌, Bool, false, List, Option, None, Some, is_some, count_by, nat_le, replicate}
use Rattle.machine_frames.specs.FrameMap.{IsTaken, used, no_frames}
use Rattle.lent_slots.specs.declared.holding.Holding.{Holding}
use Rattle.lent_slots.specs.Slots.{MachineView, sharers}

-- the slot has a frame that another slot has, too
abbrev pub is_shared : List (Option Holding) → Option Holding → Bool
is_shared slots None = false
is_shared slots (Some h) = nat_le 2 (sharers h.frame slots)

-- how many slots are held
abbrev pub held_slots : MachineView → ℕ
held_slots m = count_by is_some m.slots

-- how many slots have a frame that another slot has, too
abbrev pub shared_slots : MachineView → ℕ
shared_slots m = count_by (is_shared m.slots) m.slots

abbrev pub frames_in_use : MachineView → ℕ
frames_in_use m = used m.frames

-- the frames in use are those that slots have
abbrev pub FramesOfSlots : MachineView → Type 0
FramesOfSlots m = (mpn : ℕ) → IsTaken m.frames mpn ↔ (1 ≤ sharers mpn m.slots)

-- a machine with no slot held
abbrev pub empty_machine : ℕ → ℕ → MachineView
empty_machine slots frames = record { slots = replicate slots None; frames = no_frames frames }
