-- A domain beside the protocol of windows: the slots that pages have in the one are the frames that they hold in the other.
use Rattle.std.specs.Prelude.{◌≡◌, ◌<◌, ℕ, ◌*◌, List, length, map, All, Option, Some, None, IsSome, slice_get}
use Rattle.std.specs.Option.{option_map, option_and_then}
use Rattle.machine_frames.specs.FrameMap.{frame, IsTaken}
use Rattle.lent_slots.specs.declared.holding.Holding.{Holding}
use Rattle.share_domain.specs.declared.holding.Slot.{Slot}
use Rattle.share_domain.specs.Domains.{DomainView, machine_at, held_in, region_frame}
use Rattle.window_events.specs.declared.event.Event.{Event}
use Rattle.window_events.specs.Windows.{Mappings, step, run}
use Rattle.window_events.specs.Played.{refused_from}

-- the bytes of a machine's frame, if it is in use
abbrev pub bytes_at : DomainView → ℕ → ℕ → Option (List ℕ)
bytes_at d m mpn = frame (machine_at d.machines m).frames mpn

-- the frame that a slot has, by its number among those of all machines
abbrev pub frame_in : DomainView → Slot → Option ℕ
frame_in d slot = option_map (λ h. region_frame d.frames slot.machine h.frame) (held_in d.machines slot)

-- the frame of a page with this slot, or with no slot
abbrev pub frame_by : DomainView → Option Slot → Option ℕ
frame_by d slot = option_and_then (frame_in d) slot

-- a client holds the slot, if there is one
abbrev pub HasHeld : DomainView → Option Slot → Type 0
HasHeld d None = Unit {0}
HasHeld d (Some slot) = IsSome (held_in d.machines slot)

-- The domain and the mappings agree. `slots` says which slot each page has, if any. `number` says which number stands for which bytes.
-- A page holds the frame of its slot, and else none. A frame that is in use contains the number of its bytes. The frame of a
-- slot that is held is in use. There are as many frames as the machines have together.
pub record Agrees (number : List ℕ → ℕ) (d : DomainView) (slots : List (Option Slot)) (w : Mappings) : Type 0 where
  pub holds : map (λ page. page.held) w.pages ≡ map (frame_by d) slots
  pub are_held : All (HasHeld d) slots
  pub contains : (m mpn : ℕ) (bytes : List ℕ) → bytes_at d m mpn ≡ Some bytes → slice_get w.frames (region_frame d.frames m mpn) ≡ Some (number bytes)
  pub in_use : (slot : Slot) (h : Holding) → held_in d.machines slot ≡ Some h → IsTaken (machine_at d.machines slot.machine).frames h.frame
  pub count : length w.frames ≡ length d.machines * d.frames
  pub sizes : (m : ℕ) → m < length d.machines → length (machine_at d.machines m).frames ≡ d.frames

-- Each of these events is possible after those before it, and then this is so of the mappings.
pub record Plays (w : Mappings) (events : List Event) (Then : Mappings → Type 0) : Type 0 where
  pub possible : refused_from 0 w events ≡ None
  pub after : Then (run step w events)
