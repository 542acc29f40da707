-- How `Frames` keeps its frames: a list has the page of each frame that was ever taken, by MPN, and `free` lists the
-- frames that were given back, whose pages stay.
use Rattle.std.specs.Prelude.{◌≡◌, ℕ, ◌+◌, ◌≤◌, ◌==◌, if◌then◌else◌, List, length, map, Option, None, count_by, slice_get}
use Rattle.std.specs.List.{range_with_len}
use Rattle.std.specs.BinaryHeap.{IsHeap}
use Rattle.std.specs.Ordering.{nat_cmp}
use Rattle.core.specs.declared.cmp.Ordering.{Ordering}
use Rattle.core.specs.declared.cmp.Reverse.{Reverse}
use Rattle.page_model.specs.declared.limits.TheConstants.{MAX_FRAMES}
use Rattle.machine_frames.specs.FrameMap.{FrameMap, used}
use Rattle.machine_frames.specs.PageLists.{PageList}

-- frames that were given back, in the order in which a heap stores them
abbrev pub FreeList : Type 0
FreeList = List (Reverse ℕ)

-- how often a frame is listed
abbrev pub times : ℕ → FreeList → ℕ
times mpn free = count_by (λ x. x.0 == mpn) free

-- the order of that heap: a lower number comes before a higher one
abbrev pub lowest_first : Reverse ℕ → Reverse ℕ → Ordering
lowest_first x y = nat_cmp y.0 x.0

-- the page of a frame, if the frame is taken
abbrev pub taken_page : FreeList → List (List ℕ) → ℕ → Option (List ℕ)
taken_page free pages mpn = if times mpn free == 0 then slice_get pages mpn else None

-- what a contract sees of `Frames`
unfoldable pub frames_of : FreeList → PageList → FrameMap
frames_of free list = map (taken_page free list.pages) (range_with_len 0 list.room)

pub record IsSound (free : FreeList) (list : PageList) : Type 0 where
  pub few : length list.pages ≤ list.room
  pub most : list.room ≤ MAX_FRAMES
  -- the first that is listed is the lowest
  pub heap : IsHeap lowest_first free
  -- each frame that was given back is listed once
  pub once : (mpn : ℕ) → times mpn free ≤ 1
  pub below : (mpn : ℕ) → length list.pages ≤ mpn → times mpn free ≡ 0
  pub counted : used (frames_of free list) + length free ≡ length list.pages
