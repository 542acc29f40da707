-- Which machines there may be, and why there is none.
use Rattle.std.specs.Prelude.{ℕ, ◌≤◌, List}
use Rattle.page_model.specs.Limits.{AreFrames, AreGuests, ArePages, AreLimits}
use Rattle.page_model.specs.declared.machine_shape.ShapeFault.{ShapeFault}
use Rattle.page_model.specs.declared.machine_shape.ShapeFault.TheVariants as shape
use Rattle.share_rings.specs.Faults.{IsCapacity}
use Rattle.merge_machine.specs.declared.config.Config.{Config}
use Rattle.merge_machine.specs.declared.config.Fault.{Fault}
use Rattle.merge_machine.specs.declared.config.Fault.TheVariants.{Frames, Guests, Pages, Ring, Journal, OutOfMemory}
use Rattle.page_model.specs.declared.limits.TheConstants.{MAX_ENTRIES}

-- a machine's numbers: its frames, each guest's number of pages and salt, and how much a ring and the journal hold
pub record Numbers : Type 0 where
  pub frames : ℕ
  pub pages : List ℕ
  pub salts : List ℕ
  pub ring : ℕ
  pub journal : ℕ

-- the numbers of a configuration
abbrev pub numbers_of : {A : Type 0} → Config A → Numbers
numbers_of c = record { frames = c.frames; pages = c.pages.items; salts = c.salts.items; ring = c.ring; journal = c.journal }

-- a journal may hold this many entries
abbrev pub IsJournal : ℕ → Type 0
IsJournal entries = (1 ≤ entries) × (entries ≤ MAX_ENTRIES)

-- there may be such a machine
abbrev pub IsMachine : {A : Type 0} → Config A → Type 0
IsMachine c = AreLimits c.frames c.pages.items c.salts.items × IsCapacity c.ring × IsJournal c.journal

-- the first cause for which there is no such machine; lack of memory is the cause only if there is no other
abbrev pub NoMachineFor : {A : Type 0} → Config A → Fault → Type 0
NoMachineFor c Frames = ¬ AreFrames c.frames
NoMachineFor c Guests = AreFrames c.frames × ¬ AreGuests c.salts.items c.pages.items
NoMachineFor c Pages = AreFrames c.frames × AreGuests c.salts.items c.pages.items × ¬ ArePages c.pages.items
NoMachineFor c Ring = AreLimits c.frames c.pages.items c.salts.items × ¬ IsCapacity c.ring
NoMachineFor c Journal = AreLimits c.frames c.pages.items c.salts.items × IsCapacity c.ring × ¬ IsJournal c.journal
NoMachineFor c OutOfMemory = IsMachine c

-- why there is no machine of this shape, as a fault of the machine
abbrev pub fault_of : ShapeFault → Fault
fault_of shape.Frames = Frames
fault_of shape.Guests = Guests
fault_of shape.Pages = Pages
