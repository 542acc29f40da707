-- The slots of one machine, and what lending and releasing do to them.
use Rattle.std.specs.Prelude.{◌≡◌, ℕ, ◌+◌, ◌<◌, ◌==◌, ◌⊎◌, Bool, false, if◌then◌else◌, List, length, Option, Some, None}
use Rattle.std.specs.Prelude.{slice_get, slice_set, slice_index_or, count_by}
use Rattle.std.specs.Option.{option_and_then}
use Rattle.machine_frames.specs.FrameMap.{FrameMap, frame, used}
use Rattle.lent_slots.specs.declared.holding.Holding.{Holding}
use Rattle.lent_slots.specs.declared.holding.PageLoan.{PageLoan}
use Rattle.lent_slots.specs.declared.fault.SlotFault.{SlotFault}
use Rattle.lent_slots.specs.declared.fault.SlotFault.TheVariants.{NoSlot, NoFrame}

-- the slots of a machine by their PPNs, each free or held by a client, and the machine's frames with their bytes
pub record MachineView : Type 0 where
  pub slots : List (Option Holding)
  pub frames : FrameMap

-- who holds a slot, and which frame it has: none if it is free, or there is no such slot
abbrev pub holding : List (Option Holding) → ℕ → Option Holding
holding slots ppn = slice_index_or slots ppn None

-- the slot has this frame
abbrev pub has_frame : ℕ → Option Holding → Bool
has_frame mpn None = false
has_frame mpn (Some h) = h.frame == mpn

-- the slot is this client's
abbrev pub is_of : ℕ → Option Holding → Bool
is_of client None = false
is_of client (Some h) = h.client == client

-- how many slots are this client's
abbrev pub held_by : ℕ → List (Option Holding) → ℕ
held_by client slots = count_by (is_of client) slots

-- how many slots have this frame
abbrev pub sharers : ℕ → List (Option Holding) → ℕ
sharers mpn slots = count_by (has_frame mpn) slots

-- a free slot
pub record HasFree (slots : List (Option Holding)) : Type 0 where
  pub ppn : ℕ
  pub free : slice_get slots ppn ≡ Some None

-- no slot is free
abbrev pub IsFull : List (Option Holding) → Type 0
IsFull slots = (ppn : ℕ) → slice_get slots ppn ≡ Some None → ⊥

-- all frames but the spare one are in use
abbrev pub IsSpent : FrameMap → Type 0
IsSpent frames = used frames + 1 ≡ length frames

-- the slots after this one was lent
abbrev pub lent_slots : ℕ → ℕ → ℕ → List (Option Holding) → List (Option Holding)
lent_slots client ppn mpn slots = slice_set slots ppn (Some (record { client = client; frame = mpn }))

-- the slots and the frames after a page was lent with this frame, or was refused
abbrev pub slots_after : ℕ → ℕ → Option ℕ → List (Option Holding) → List (Option Holding)
slots_after client ppn None slots = slots
slots_after client ppn (Some mpn) slots = lent_slots client ppn mpn slots

abbrev pub frames_after : List ℕ → Option ℕ → FrameMap → FrameMap
frames_after page None frames = frames
frames_after page (Some mpn) frames = slice_set frames mpn (Some page)

-- A page was lent. Its slot was free. Its frame was free, or held the page's bytes already; now it holds them, and the slot is the
-- client's and has it. Nothing else changed, one frame at least is still free, and so many slots have the frame now.
pub record LendsPage (client : ℕ) (page : List ℕ) (loan : PageLoan) (old new : MachineView) : Type 0 where
  pub was_free : slice_get old.slots loan.ppn ≡ Some None
  pub within : loan.frame < length old.frames
  pub held : (frame old.frames loan.frame ≡ None) ⊎ (frame old.frames loan.frame ≡ Some page)
  pub now : new ≡ record { slots = lent_slots client loan.ppn loan.frame old.slots; frames = slice_set old.frames loan.frame (Some page) }
  pub spare : used new.frames < length new.frames
  pub sharers : loan.sharers ≡ sharers loan.frame new.slots

-- why a machine lends no page
abbrev pub RefusesPage : SlotFault → MachineView → Type 0
RefusesPage NoSlot m = IsFull m.slots
RefusesPage NoFrame m = HasFree m.slots × IsSpent m.frames

-- the frame, if none of these slots has it
abbrev pub left_free : List (Option Holding) → ℕ → Option ℕ
left_free slots mpn = if sharers mpn slots == 0 then Some mpn else None

-- the frames after one was freed
abbrev pub with_free : FrameMap → Option ℕ → FrameMap
with_free frames None = frames
with_free frames (Some mpn) = slice_set frames mpn None

-- the machine after a slot with this frame was released: the slot is free, and so is the frame, if no other slot has it
abbrev pub without : MachineView → ℕ → ℕ → MachineView
without m ppn mpn =
    let slots : List (Option Holding) = slice_set m.slots ppn None in
    record { slots = slots; frames = with_free m.frames (left_free slots mpn) }

-- the machine after a slot was released; a slot that is free stays so
abbrev pub released_by : MachineView → ℕ → Option Holding → MachineView
released_by m ppn None = m
released_by m ppn (Some h) = without m ppn h.frame

abbrev pub released : ℕ → MachineView → MachineView
released ppn m = released_by m ppn (holding m.slots ppn)

-- the frame that a slot's release frees
abbrev pub freed : ℕ → MachineView → Option ℕ
freed ppn m = option_and_then (λ h. left_free (slice_set m.slots ppn None) h.frame) (holding m.slots ppn)
