-- What a region owns: room for pages, of which some hold one.
use Rattle.std.specs.Prelude.{ℕ, List, Bool}
use base.Fml.{Fml}
use denote.Array.{Array}
use denote.Builtin.{u8}
use denote.RawPtr.{Ptr}
use Rattle.core.specs.Mem.Slots.Ownership.{owned}

abbrev pub region_owns : Ptr → ℕ → List (List ℕ) → List Bool → Fml
region_owns at pages texts held = owned (Array u8 4096) at pages texts held
