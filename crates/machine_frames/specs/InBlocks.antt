-- How pages are kept in blocks: page n is page n mod 512 of block n div 512. A slab has the blocks, and `keys` has
-- their keys in the blocks' order.
use Rattle.std.specs.Prelude.{◌≡◌, ℕ, ◌+◌, ◌*◌, ◌/◌, ◌%◌, ◌<◌, ◌≤◌, List, [], length, map, Option, None}
use Rattle.std.specs.Prelude.{Some, IsSomeAnd, slice_index, slice_index_or, slice_set, option_map}
use Rattle.std.specs.List.{range_with_len}
use Rattle.slab.specs.Slab.{Slab, get, ContainsKey}
use Rattle.page_model.specs.declared.limits.TheConstants.{MAX_FRAMES}
use Rattle.machine_frames.specs.PageLists.{PageList}

-- the block has this page
abbrev pub HasPage : Slab PageList → ℕ → ℕ → Type 0
HasPage blocks key number = IsSomeAnd (get blocks key) (λ block. number < length block.pages)

-- the block has room for one more page
abbrev pub HasRoom : Slab PageList → ℕ → Type 0
HasRoom blocks key = IsSomeAnd (get blocks key) (λ block. length block.pages < block.room)

-- the slab with one block changed
abbrev pub changed : (PageList → PageList) → Slab PageList → ℕ → Slab PageList
changed change blocks key = record {
  slots = slice_set blocks.slots key (option_map change (get blocks key));
  vacant_key = blocks.vacant_key;
  capacity = blocks.capacity;
}

-- the block with each number
abbrev pub block_of : List ℕ → Slab PageList → ℕ → Option PageList
block_of keys blocks number = get blocks (slice_index keys number)

abbrev pub pages_of : Option PageList → List (List ℕ)
pages_of None = []
pages_of (Some block) = block.pages

abbrev pub room_of : Option PageList → ℕ
room_of None = 0
room_of (Some block) = block.room

abbrev pub page_of : (ℕ → Option PageList) → ℕ → List ℕ
page_of block n = slice_index_or (pages_of (block (n / 512))) (n % 512) []

-- the first pages of these blocks
unfoldable pub pages_in : (ℕ → Option PageList) → ℕ → List (List ℕ)
pages_in block len = map (page_of block) (range_with_len 0 len)

-- `count` blocks have the first `len` pages, and room for `capacity` pages
pub record Holds (block : ℕ → Option PageList) (count len capacity : ℕ) : Type 0 where
  pub few : len ≤ capacity
  pub stored : (b j : ℕ) → b < count → j < 512 → 512 * b + j < len → j < length (pages_of (block b))
  pub no_more : (b j : ℕ) → b < count → j < length (pages_of (block b)) → 512 * b + j < len
  pub room : (b j : ℕ) → b < count → j < 512 → 512 * b + j < capacity → j < room_of (block b)

pub record AreBlocks (keys : List ℕ) (blocks : Slab PageList) (len capacity : ℕ) : Type 0 where
  pub most : capacity ≤ MAX_FRAMES
  pub filled : (b : ℕ) → b < length keys → ContainsKey blocks (slice_index keys b)
  pub apart : (a b : ℕ) → a < length keys → b < length keys → slice_index keys a ≡ slice_index keys b → a ≡ b
  pub holds : Holds (block_of keys blocks) (length keys) len capacity
