-- Slots may go to another thread, and be read by several, as what they hold may.
use Rattle.std.proofs.Common.{List, [], ◌∷◌, Bool, true, false}
use base.Fml.{Fml}
use base.Shift.{Keyless}
use mir.Syntax.{Ty}
use denote.Param.Send.{IsSend, IsSync, AllSend, Common, owning_send, struct_send, struct_sync, sendable}
use denote.RattleType.{RattleType}
use denote.RawPtr.{Ptr, block_ptr, null_ptr, room_for, in_block, ◌+ₚ◌}
use denote.Struct.Owning.{shape, fields, to}
use denote.Struct.Struct.{exits_of}
use Rattle.core.specs.Mem.Slots.Ownership.{bytes_of, slots, slots_lent}
use Rattle.core.specs.contracts.slots.Slots as row
use Rattle.std_alloc.proofs.SendSync.{quiet, lies, seen}

empty : (τ : Ty) (p : Ptr) → Keyless (room_for τ p)
empty τ (block_ptr b o) = tt
empty τ null_ptr = tt

there : (p : Ptr) (F : Fml) → Keyless F → Keyless (in_block p F)
there (block_ptr b o) F k = k
there null_ptr F k = tt

module _ (R : RattleType) where
  held : IsSend R → (p : Ptr) (xs : List R.Denot) (fs : List Bool) → Keyless (slots R p xs fs)
  held s p [] fs = tt
  held s p (x ∷ xs) [] = tt
  held s p (x ∷ xs) (true ∷ fs) = (lies R s p x, held s (p +ₚ bytes_of R) xs fs)
  held s p (x ∷ xs) (false ∷ fs) = (empty _ p, held s (p +ₚ bytes_of R) xs fs)

  shown : IsSync R → (p : Ptr) (xs : List R.Denot) (fs : List Bool) → Common (slots_lent R p xs fs)
  shown y p [] fs κ = tt
  shown y p (x ∷ xs) [] κ = tt
  shown y p (x ∷ xs) (true ∷ fs) κ = (seen R y p x κ, shown y (p +ₚ bytes_of R) xs fs κ)
  shown y p (x ∷ xs) (false ∷ fs) κ = (tt, shown y (p +ₚ bytes_of R) xs fs κ)

  pub slots_send : IsSend R → IsSend (row.the_row R)
  slots_send s =
      let O = row.the_type R in let all : AllSend (fields O) = (search sendable, (search sendable, tt)) in
      owning_send O all (λ d. (tt, there d.ptr _ (held s d.ptr d.items d.filled)))
      (λ k. quiet (to O) (exits_of k (fields O)) ((struct_send (shape O) all).leaving k))

  pub slots_sync : IsSync R → IsSync (row.the_row R)
  slots_sync y =
      let O = row.the_type R in
      record { shared = λ d b o κ. ((struct_sync (shape O) (search sendable, (search sendable, tt))).shared (to O d) b o κ, (tt, shown y d.ptr d.items d.filled κ)) }
