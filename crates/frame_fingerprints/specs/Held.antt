-- The fingerprints of frames, as callers see them: one for each frame that has one.
use Rattle.std.specs.Prelude.{◌≡◌, ℕ, ◌/◌, Bool, true, false, ◌==◌, List, Option, Some, None, replicate, bit_or, slice_index_or}
use Rattle.std.specs.List.{list_any}

-- the fingerprints by the frames' numbers; and the number by which fingerprints are spread over buckets, on which no answer
-- depends
pub record Fingerprints : Type 0 where
  pub factor : ℕ
  pub held : List (Option ℕ)

-- whether a frame has this fingerprint
abbrev pub is_this : ℕ → Option ℕ → Bool
is_this fingerprint None = false
is_this fingerprint (Some f) = f == fingerprint

-- whether one of the frames has it
abbrev pub is_held : ℕ → List (Option ℕ) → Bool
is_held fingerprint held = list_any (is_this fingerprint) held

-- whether a frame is in a part that was tried, where each part has so many frames in a row
abbrev pub is_tried : ℕ → List Bool → ℕ → Bool
is_tried each tried frame = slice_index_or tried (frame / each) false

-- a frame that has this fingerprint, in a part that wasn't tried; or none where each frame that has it is in one that was
abbrev pub Finds : ℕ → ℕ → List Bool → List (Option ℕ) → Option ℕ → Type 0
Finds fingerprint each tried held None = (frame : ℕ) → slice_index_or held frame None ≡ Some fingerprint → is_tried each tried frame ≡ true
Finds fingerprint each tried held (Some frame) = (slice_index_or held frame None ≡ Some fingerprint) × (is_tried each tried frame ≡ false)

-- no frame has a fingerprint; the factor is the seed made odd
abbrev pub none_held : ℕ → ℕ → Fingerprints
none_held frames seed = record { factor = bit_or seed 1; held = replicate frames None }

abbrev pub with_held : List (Option ℕ) → Fingerprints → Fingerprints
with_held held f = record { factor = f.factor; held = held }
