-- The files that list a content.
use Rattle.std.specs.Prelude.{ℕ, ◌<◌, ◌==◌, if◌then◌else◌, List, [], ◌∷◌, length, slice_index_or, Option, Some, None}
use Rattle.fleet_census.specs.declared.content.Holder.{Holder}

-- what is known of the file with this number
abbrev pub found : ℕ → List Holder → Option Holder
found file [] = None
found file (holder ∷ holders) = if holder.file == file then Some holder else found file holders

-- what stands behind the end of a list
abbrev pub no_holder : Holder
no_holder = record { file = 0; copies = 0; zero = 0 }

-- each file is named once, rising
pub record AreRising (holders : List Holder) : Type 0 where
  pub each : (i j : ℕ) → i < j → j < length holders → (slice_index_or holders i no_holder).file < (slice_index_or holders j no_holder).file
