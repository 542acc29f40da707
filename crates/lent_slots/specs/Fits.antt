-- How a machine's core, its slots, its free slots and its counts fit together.
use Rattle.std.specs.Prelude.{◌≡◌, ℕ, ◌+◌, ◌<◌, ◌≤◌, ◌==◌, List, length, Option, Some, None, IsSome, is_some, slice_get, slice_index_or, count_by}
use Rattle.std.specs.Option.{option_map}
use Rattle.page_model.specs.declared.limits.TheConstants.{MAX_FRAMES, MAX_PAGES}
use Rattle.page_model.specs.Pages.{page_at}
use Rattle.machine_frames.specs.FrameMap.{used}
use Rattle.merge_core.specs.Shown.{Shown, state_of}
use Rattle.merge_core.specs.Stays.{frame_at}
use Rattle.lent_slots.specs.declared.holding.Holding.{Holding}
use Rattle.lent_slots.specs.Slots.{holding, sharers}

-- the core has one guest, whose pages are the slots: a page has a frame exactly where its slot is held, and it is the slot's
pub record Fits (slots : List (Option Holding)) (core : Shown) : Type 0 where
  pub one : length (state_of core).guests ≡ 1
  pub pages : (ppn : ℕ) → ppn < length slots → IsSome (page_at (state_of core).guests 0 ppn)
  pub frames : (ppn : ℕ) → frame_at core.pmap 0 ppn ≡ option_map (λ h. h.frame) (holding slots ppn)

-- how often a slot is to stand in the list of free slots
abbrev pub times_free : Option (Option Holding) → ℕ
times_free None = 0
times_free (Some None) = 1
times_free (Some (Some h)) = 0

-- the list has each free slot once, and nothing else
pub record ListsFree (slots : List (Option Holding)) (free : List ℕ) : Type 0 where
  pub once : (ppn : ℕ) → count_by (λ p. p == ppn) free ≡ times_free (slice_get slots ppn)
  pub count : length free + count_by is_some slots ≡ length slots

-- each frame is counted as often as slots have it
pub record Counts (slots : List (Option Holding)) (total : ℕ) (counts : List ℕ) : Type 0 where
  pub size : length counts ≡ total
  pub each : (mpn : ℕ) → mpn < total → slice_index_or counts mpn 0 ≡ sharers mpn slots

-- a machine is sound, and one frame at least is free
pub record Sound (core : Shown) (slots : List (Option Holding)) (free counts : List ℕ) : Type 0 where
  pub fits : Fits slots core
  pub listed : ListsFree slots free
  pub counted : Counts slots (length core.frames) counts
  pub within : (ppn : ℕ) (h : Holding) → holding slots ppn ≡ Some h → h.frame < length core.frames
  pub spare : used core.frames < length core.frames
  pub few : (length slots ≤ MAX_PAGES) × (length core.frames ≤ MAX_FRAMES)
