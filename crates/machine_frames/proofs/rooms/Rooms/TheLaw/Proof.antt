-- A `&` to the rooms holds nothing beyond a `&` to each field.
use base.Fml.{ftrue}
use denote.Param.Shared.{copy_shared}
use denote.SharingLaws.{nothing_shr_laws}
use denote.Struct.Field.{u32-field}
use denote.Struct.Laws.{u32-copy}
use denote.Struct.Lending.{Lends-nothing, of_Lends}
use Rattle.machine_frames.proofs.region.Memory.TheLaws as memory
use Rattle.machine_frames.proofs.rooms.Rooms.TheLaw.Statement.{statement}
use Rattle.machine_frames.specs.contracts.rooms.Rooms.TheInside as rooms

pub shares : statement
shares = of_Lends rooms.struct rooms.the_codes rooms.the_heap rooms.the_lent (λ d p. nothing_shr_laws) (memory.the_field_shared, (copy_shared u32-field u32-copy, tt)) (λ M 𝓤 𝓛 d p. Lends-nothing 𝓛 ftrue _)
