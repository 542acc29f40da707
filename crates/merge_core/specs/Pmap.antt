-- The guests' physical to machine page maps (pmaps): each page's MPN in place of its bytes, and the bytes that the MPNs stand for.
use Rattle.std.specs.Prelude.{ℕ, List, [], map, replicate, Option, Some, None, unwrap_or, slice_index_or}
use Rattle.page_model.specs.Pages.{SlotOf, Slot, Unmapped, Private, Shared, GuestOf, Guest}
use Rattle.page_model.specs.Replay.{Shape}
use Rattle.machine_frames.specs.FrameMap.{FrameMap, frame}

-- the pmap of each guest
abbrev pub Pmap : Type 0
Pmap = List (GuestOf ℕ)

-- the bytes of a frame
unfoldable pub bytes_in : FrameMap → ℕ → List ℕ
bytes_in frames mpn = unwrap_or (frame frames mpn) []

-- the page with its frame's bytes
abbrev pub slot_in : FrameMap → SlotOf ℕ → Slot
slot_in frames Unmapped = Unmapped
slot_in frames (Private mpn hint) = Private (bytes_in frames mpn) hint
slot_in frames (Shared mpn) = Shared (bytes_in frames mpn)

abbrev pub guest_in : FrameMap → GuestOf ℕ → Guest
guest_in frames g = record { salt = g.salt; slots = map (slot_in frames) g.slots }

abbrev pub guests_in : FrameMap → Pmap → List Guest
guests_in frames pmap = map (guest_in frames) pmap

-- a guest with no page mapped
abbrev pub unmapped_guest : Shape → GuestOf ℕ
unmapped_guest g = record { salt = g.salt; slots = replicate g.pages Unmapped }

abbrev pub empty_pmap : List Shape → Pmap
empty_pmap shapes = map unmapped_guest shapes

-- the page's MPN
abbrev pub frame_of : SlotOf ℕ → Option ℕ
frame_of Unmapped = None
frame_of (Private mpn hint) = Some mpn
frame_of (Shared mpn) = Some mpn

-- what is known of a frame: the salt of its page, and perhaps its hash
pub record Known : Type 0 where
  pub salt : ℕ
  pub hash : Option ℕ

abbrev pub unknown : Known
unknown = record { salt = 0; hash = None }

abbrev pub known_at : List Known → ℕ → Known
known_at notes mpn = slice_index_or notes mpn unknown
