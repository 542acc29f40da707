-- A process's memory as an image.
use Rattle.std.specs.Prelude.{◌≡◌, ◌<◌, ◌-◌, ◌^◌, min, ℕ, List, length, Result, Ok, Err}
use Rattle.memory_images.specs.declared.segment.Segment.{Segment}
use Rattle.live_memory.specs.Choices.{chosen}
use Rattle.live_memory.specs.Maps.{mappings_of}
use Rattle.live_memory.specs.PageMaps.{numbers, numbers_in}
use Rattle.live_memory.specs.Ranges.{AreWhole}
use Rattle.live_memory.specs.declared.choice.MemoryChoice.{MemoryChoice}
use Rattle.live_memory.specs.declared.pagemap.PageState.{PageState}
use Rattle.live_memory.specs.declared.pagemap.PageState.TheVariants.{Populated, Shared}
use Rattle.live_memory.specs.declared.fault.LiveFault.{LiveFault}
use Rattle.live_memory.specs.declared.fault.LiveFault.TheVariants.{OutOfMemory, System, Line, TooManyPages}
use Rattle.live_memory.specs.declared.mapping.WritableMapping.{WritableMapping}

-- a fault of the system, or refused memory
abbrev pub IsOfSystem : LiveFault → Type 0
IsOfSystem OutOfMemory = Unit {0}
IsOfSystem (System error) = Unit {0}
IsOfSystem (Line n) = ⊥
IsOfSystem TooManyPages = ⊥

-- the ranges that a text and a choice name
abbrev pub IsRanged : {A : Type 0} → (A → List Segment) → MemoryChoice → List ℕ → Result A LiveFault → Type 0
IsRanged view choice maps (Ok ranges) = (mappings : List WritableMapping) × (mappings_of maps ≡ Ok mappings) × (view ranges ≡ chosen choice mappings)
IsRanged view choice maps (Err (Line n)) = mappings_of maps ≡ Err n
IsRanged view choice maps (Err OutOfMemory) = Unit {0}
IsRanged view choice maps (Err (System error)) = ⊥
IsRanged view choice maps (Err TooManyPages) = ⊥

-- Segments of whole pages that are the pages of the chosen mappings that are in this state.
pub record AreOf (state : PageState) (choice : MemoryChoice) (pagemap maps : List ℕ) (segments : List Segment) : Type 0 where
  pub mappings : List WritableMapping
  pub said : mappings_of maps ≡ Ok mappings
  pub numbers_are : numbers segments ≡ numbers_in state pagemap (chosen choice mappings)

-- those pages are more than 4,294,967,295
pub record HasTooMany (choice : MemoryChoice) (pagemap maps : List ℕ) : Type 0 where
  pub mappings : List WritableMapping
  pub said : mappings_of maps ≡ Ok mappings
  pub many : 4294967295 < length (numbers_in Populated pagemap (chosen choice mappings))

-- A call answers an image of the populated pages, unless memory was refused, the system refused a read or they are too many.
abbrev pub IsImage : {A : Type 0} → (A → List Segment) → MemoryChoice → List ℕ → List ℕ → Result A LiveFault → Type 0
IsImage view choice pagemap maps (Ok image) = AreOf Populated choice pagemap maps (view image)
IsImage view choice pagemap maps (Err (Line n)) = mappings_of maps ≡ Err n
IsImage view choice pagemap maps (Err TooManyPages) = HasTooMany choice pagemap maps
IsImage view choice pagemap maps (Err OutOfMemory) = Unit {0}
IsImage view choice pagemap maps (Err (System error)) = Unit {0}

-- so many pages are in memory and not the process's alone
pub record AreShared (choice : MemoryChoice) (pagemap maps : List ℕ) (count : ℕ) : Type 0 where
  pub mappings : List WritableMapping
  pub said : mappings_of maps ≡ Ok mappings
  pub count_is : count ≡ min (length (numbers_in Shared pagemap (chosen choice mappings))) (2 ^ 64 - 1)

abbrev pub IsCounted : MemoryChoice → List ℕ → List ℕ → Result ℕ LiveFault → Type 0
IsCounted choice pagemap maps (Ok count) = AreShared choice pagemap maps count
IsCounted choice pagemap maps (Err (Line n)) = mappings_of maps ≡ Err n
IsCounted choice pagemap maps (Err TooManyPages) = ⊥
IsCounted choice pagemap maps (Err OutOfMemory) = Unit {0}
IsCounted choice pagemap maps (Err (System error)) = Unit {0}
