-- What the walks of an owner of an address share.
use Rattle.std.proofs.Common.{◌≡◌, ℕ, Option, Some, None, IsSome, refl}
use base.Shift.{Keyless}
use mir.Raw.{raw}
use mir.Val.{Val, vptr, vstruct, vcons, vnil}
use denote.Memory.{lone}
use denote.Param.Laws.{Laws}
use denote.Param.Send.{IsSend}
use denote.RattleType.{RattleType}
use denote.RawPtr.{Ptr}
use Rattle.std.proofs.Crossing.{frees}
use Rattle.std.proofs.alloc.Global.TheLaws as global_laws
use Rattle.std.specs.contracts.alloc.Global as global
use Rattle.std.specs.contracts.impls.GlobalAllocator.TheImpl as allocator
use Rattle.std_alloc.proofs.SendSync.{lies}
use Rattle.c_handles.proofs.Parcels.{Parcel}
use Rattle.c_handles.specs.Held.{heap, held_owns}

abbrev pub Heap : RattleType
Heap = global.the_row

abbrev pub heap_laws : Laws Heap
heap_laws = global_laws.the_row_laws

-- the type of a box of the heap, taken apart
abbrev pub HeapParcel : RattleType → RattleType
HeapParcel X = Parcel X Heap heap_laws allocator.ghosts

-- the machine value of an owner that is an address alone
abbrev pub word : ℕ → ℕ → Val
word b o = vstruct (vcons (vptr b o) vnil)

-- what an option holds that isn't empty
pub held : {X : Type 0} (o : Option X) → IsSome o → (x : X) × (o ≡ Some x)
held (Some x) full = (x, refl)
held None full = cc

-- what is owned says the same to every thread, if the value may go there
pub held_keyless : (X : RattleType) → IsSend X → (p : Ptr) (v : Option X.Denot) → Keyless (held_owns X p v)
held_keyless X send p None = tt
held_keyless X send p (Some x) = (lies X send p x, frees.frees heap (raw (lone X.mir)) p)
