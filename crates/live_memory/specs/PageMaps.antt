-- /proc/PID/pagemap: 8 bytes for each page of a process, in the order of their addresses, the lowest byte first. Of the highest byte,
-- bit 7 says that the page is in memory, bit 6 that it is swapped, and bit 0 that it is in memory and nobody else's.
use Rattle.std.specs.Prelude.{ℕ, ◌+◌, ◌*◌, ◌/◌, ◌%◌, ◌==◌, ◌&&◌, nat_le, Bool, List, filter, flat_map, map, slice_index}
use Rattle.std.specs.List.{range_with_len}
use Rattle.memory_images.specs.Pages.{page_count}
use Rattle.memory_images.specs.declared.segment.Segment.{Segment}
use Rattle.live_memory.specs.declared.pagemap.PageState.{PageState}
use Rattle.live_memory.specs.declared.pagemap.PageState.TheVariants.{Populated, Shared}

-- in memory or swapped; or in memory, and not this process's alone
abbrev pub is_in : PageState → ℕ → Bool
is_in Populated top = nat_le 64 top
is_in Shared top = nat_le 128 top && top % 2 == 0

-- page n is the one at address 4096n
unfoldable pub is_page_in : PageState → List ℕ → ℕ → Bool
is_page_in state pagemap n = is_in state (slice_index pagemap (8 * n + 7))

-- so many pages from page n on
abbrev pub pages_from : ℕ → ℕ → List ℕ
pages_from n count = map (λ k. n + k) (range_with_len 0 count)

abbrev pub pages_in : Segment → List ℕ
pages_in segment = pages_from (segment.offset / 4096) (page_count segment.len)

-- the pages of segments, one segment after the other
abbrev pub numbers : List Segment → List ℕ
numbers segments = flat_map pages_in segments

-- those of them in this state
abbrev pub numbers_in : PageState → List ℕ → List Segment → List ℕ
numbers_in state pagemap segments = filter (is_page_in state pagemap) (numbers segments)
