-- The parts of a core as a contract sees them.
use Rattle.std.specs.Prelude.{◌≡◌, ◌≤◌, ℕ, List, length, map as map_list}
use Rattle.std.specs.FinMap as map
use Rattle.page_model.specs.Pages.{SlotOf, GuestOf, Guest}
use Rattle.page_model.specs.Pages as s
use Rattle.page_model.specs.declared.limits.TheConstants.{MAX_FRAMES}
use Rattle.merge_core.specs.Pmap.{Pmap, Known, guests_in}
use Rattle.merge_core.specs.Ties.{Ties, Few}
use Rattle.merge_core.specs.declared.held.PageEntry.{PageEntry}
use Rattle.merge_core.specs.declared.held.PageEntry.TheVariants.{Unmapped, Private, Shared}
use Rattle.merge_core.specs.declared.held.GuestPages.{GuestPages}
use Rattle.merge_core.specs.declared.held.Held.{Held}

abbrev pub slot_of : PageEntry → SlotOf ℕ
slot_of Unmapped = s.Unmapped
slot_of (Private mpn hint) = s.Private mpn hint
slot_of (Shared mpn) = s.Shared mpn

abbrev pub slots_of : List PageEntry → List (SlotOf ℕ)
slots_of pages = map_list slot_of pages

abbrev pub guest_of : {A : Type 0} → GuestPages A → GuestOf ℕ
guest_of g = record { salt = g.salt; slots = slots_of g.pages }

abbrev pub pmap_in : {A : Type 0} → List (GuestPages A) → Pmap
pmap_in guests = map_list guest_of guests

abbrev pub pmap_of : {H A : Type 0} → Held H A → Pmap
pmap_of held = pmap_in held.guests.items

abbrev pub notes_of : {H A : Type 0} → Held H A → List Known
notes_of held = held.notes

-- the guests of the model
abbrev pub guests_of : {H A : Type 0} → Held H A → List Guest
guests_of held = guests_in held.frames (pmap_of held)

-- What a core keeps is sound: its parts fit together, the machine is within its limits, and the hints are counted.
pub record Whole {H A : Type 0} (hash : ℕ → List ℕ → ℕ) (held : Held H A) : Type 0 where
  pub ties : Ties hash (pmap_of held) held.frames held.table (notes_of held)
  pub few : Few (pmap_of held)
  pub total : length held.frames ≤ MAX_FRAMES
  pub hints : held.hints ≡ map.len held.table.hints
