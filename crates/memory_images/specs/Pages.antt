-- The pages that segments hold.
use Rattle.std.specs.Prelude.{◌≡◌, ℕ, ◌+◌, ◌-◌, ◌*◌, ◌/◌, ◌<◌, ◌≤◌, List, ◌++◌, length, take}
use Rattle.std.specs.Prelude.{drop, map, replicate, flat_map, slice_index, sum_by, All}
use Rattle.std.specs.List.{range_with_len}
use Rattle.memory_images.specs.Words.{part}
use Rattle.memory_images.specs.declared.segment.Segment.{Segment}

-- bytes of a last page, filled up with zeros
abbrev pub filled : List ℕ → List ℕ
filled bytes = bytes ++ replicate (4096 - length bytes) 0

-- page n is bytes 4096n to 4096n + 4095
unfoldable pub page_of : List ℕ → ℕ → List ℕ
page_of bytes n = filled (take 4096 (drop (4096 * n) bytes))

-- this many pages that are whole, the first from byte `at` on
abbrev pub pages_at : List ℕ → ℕ → ℕ → List (List ℕ)
pages_at bytes at count = map (λ n. part bytes (at + 4096 * n) 4096) (range_with_len 0 count)

-- how many pages this many bytes make
unfoldable pub page_count : ℕ → ℕ
page_count len = (len + 4095) / 4096

abbrev pub pages_in : List ℕ → List (List ℕ)
pages_in bytes = map (page_of bytes) (range_with_len 0 (page_count (length bytes)))

-- each segment begins a new page
unfoldable pub segment_pages : List ℕ → Segment → List (List ℕ)
segment_pages bytes segment = pages_in (part bytes segment.offset segment.len)

-- the pages of segments of these bytes, one segment after the other
abbrev pub pages_of : List Segment → List ℕ → List (List ℕ)
pages_of segments bytes = flat_map (segment_pages bytes) segments

-- how many they are
abbrev pub count_of : List Segment → ℕ
count_of segments = sum_by (λ segment. page_count segment.len) segments

-- segments lie whole within this many bytes
abbrev pub AreWithin : ℕ → List Segment → Type 0
AreWithin size segments = All (λ segment. segment.offset + segment.len ≤ size) segments

-- how many pages come before each segment
pub record AreStarts (segments : List Segment) (starts : List ℕ) : Type 0 where
  pub len : length starts ≡ length segments
  pub starts_are : (i : ℕ) → i < length segments → slice_index starts i ≡ count_of (take i segments)
