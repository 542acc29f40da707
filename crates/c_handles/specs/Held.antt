-- What the owner of an address owns: nothing, or a value in a block of the heap.
use Rattle.std.specs.Prelude.{Option, Some, None}
use base.Fml.{Fml, ftrue}
use denote.RawPtr.{Ptr}
use denote.RattleType.{RattleType}
use Rattle.std.specs.Box.Ownership.{box_owns}
use Rattle.std.specs.declared.alloc.Global.{Global}
use Rattle.std.specs.contracts.impls.GlobalAllocator.TheImpl as allocator

-- the heap's handle; there is only one, since it has no bytes
abbrev pub heap : Global
heap = record { memory = record { seal = tt } }

-- the address p holds such a value of type X, in a block that the heap frees
abbrev pub held_owns : (X : RattleType) → Ptr → Option X.Denot → Fml
held_owns X p None = ftrue
held_owns X p (Some x) = box_owns (allocator.ghosts.dealloc_token heap) X p x
