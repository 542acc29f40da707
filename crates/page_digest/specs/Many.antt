-- The hashes of frames, each under a salt.
use Rattle.std.specs.Prelude.{ℕ, List, [], map, All, Option, None, Some}
use Rattle.machine_frames.specs.FrameMap.{FrameMap, frame, IsTaken}

-- the bytes of a frame, none if it is free
abbrev pub bytes_of : Option (List ℕ) → List ℕ
bytes_of None = []
bytes_of (Some bytes) = bytes

-- the hash of a listed frame under the salt that is listed with it
abbrev pub frame_hash : (ℕ → List ℕ → ℕ) → FrameMap → ℕ × ℕ → ℕ
frame_hash hash frames pair = hash pair.0 (bytes_of (frame frames pair.1))

-- the hash of each listed frame, in order
abbrev pub frame_hashes : (ℕ → List ℕ → ℕ) → FrameMap → List (ℕ × ℕ) → List ℕ
frame_hashes hash frames pairs = map (frame_hash hash frames) pairs

-- each listed frame is taken
abbrev pub AreTaken : FrameMap → List (ℕ × ℕ) → Type 0
AreTaken frames pairs = All (λ pair. IsTaken frames pair.1) pairs
