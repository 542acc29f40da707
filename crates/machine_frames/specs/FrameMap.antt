-- What a contract sees of `Frames`: for each machine page number (MPN) below the total, the bytes of a taken frame,
-- and nothing for a free one.
use Rattle.std.specs.Prelude.{◌≡◌, ℕ, ◌<◌, List, length, Option, None, is_some, IsSome, count_by, slice_index_or, replicate, All}
use Rattle.page_model.specs.declared.limits.TheConstants.{PAGE_BYTES}

abbrev pub FrameMap : Type 0
FrameMap = List (Option (List ℕ))

-- the bytes of the frame, if it is taken
abbrev pub frame : FrameMap → ℕ → Option (List ℕ)
frame frames mpn = slice_index_or frames mpn None

-- there is a frame with this number, and it is taken
abbrev pub IsTaken : FrameMap → ℕ → Type 0
IsTaken frames mpn = IsSome (frame frames mpn)

-- how many frames are taken
abbrev pub used : FrameMap → ℕ
used frames = count_by is_some frames

-- this many frames, all free
abbrev pub no_frames : ℕ → FrameMap
no_frames total = replicate total None

-- these are 4,096 bytes
abbrev pub IsPage : List ℕ → Type 0
IsPage page = (length page ≡ PAGE_BYTES) × All (λ b. b < 256) page
