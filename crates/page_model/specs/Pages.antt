-- The pages of a machine, and what is counted and found among them.
use Rattle.std.specs.Prelude.{ℕ, zero, suc, ◌+◌, ◌-◌, ◌==◌, Bool, true, false, ◌&&◌, ◌||◌, if◌then◌else◌, List, [], ◌∷◌, ◌++◌, length}
use Rattle.std.specs.Prelude.{take, drop, replicate, Option, Some, None, slice_get, slice_set, sum_by, count_by, is_some}
use Rattle.std.specs.List.{list_any}
use Rattle.std.specs.Option.{option_map, option_and_then}
use Rattle.std.specs.Str.{bytes_eq}
use Rattle.page_model.specs.Parts.{Totals}
use Rattle.page_model.specs.declared.limits.TheConstants.{PAGE_BYTES}

-- One page of a guest. It is unmapped, with no frame; or private, with a frame of its own and perhaps a hint
-- under a key; or shared, with a frame that pages of equal content share. So only private pages have hints.
-- X is what a mapped page holds: its bytes in the model, its machine page number in a core.
pub data SlotOf (X : Type 0) : Type 0 where
  Unmapped : SlotOf X
  Private : (content : X) (hint : Option ℕ) → SlotOf X
  Shared : (content : X) → SlotOf X

-- a page with its 4,096 bytes
abbrev pub Slot : Type 0
Slot = SlotOf (List ℕ)

-- a guest: its salt, and its pages by their physical page numbers (PPN). Only guests with equal salts share pages
pub record GuestOf (X : Type 0) : Type 0 where
  pub salt : ℕ
  pub slots : List (SlotOf X)

-- a guest whose pages hold bytes
abbrev pub Guest : Type 0
Guest = GuestOf (List ℕ)

-- the memory of a machine: its total of frames, the guests by their numbers, and how many requests were served
pub record State : Type 0 where
  pub total : ℕ
  pub guests : List Guest
  pub entries : ℕ

-- the bytes of a page that has no frame: zeros
unfoldable pub blank : List ℕ
blank = replicate PAGE_BYTES 0

-- what a page reads as
abbrev pub bytes_of : Slot → List ℕ
bytes_of Unmapped = blank
bytes_of (Private bytes hint) = bytes
bytes_of (Shared bytes) = bytes

-- the page with these bytes at a place
abbrev pub written : List ℕ → ℕ → List ℕ → List ℕ
written page at bytes = take at page ++ bytes ++ drop (at + length bytes) page

-- the page has a frame
abbrev pub is_mapped : Slot → Bool
is_mapped Unmapped = false
is_mapped (Private bytes hint) = true
is_mapped (Shared bytes) = true

-- the page has a frame of its own
abbrev pub is_private : Slot → Bool
is_private Unmapped = false
is_private (Private bytes hint) = true
is_private (Shared bytes) = false

-- the page has a shared frame
abbrev pub is_shared : Slot → Bool
is_shared Unmapped = false
is_shared (Private bytes hint) = false
is_shared (Shared bytes) = true

-- the page is a hint
abbrev pub is_hinted : Slot → Bool
is_hinted Unmapped = false
is_hinted (Private bytes hint) = is_some hint
is_hinted (Shared bytes) = false

-- the page is the hint under this key
abbrev pub has_hint : ℕ → Slot → Bool
has_hint key Unmapped = false
has_hint key (Private bytes None) = false
has_hint key (Private bytes (Some own)) = own == key
has_hint key (Shared bytes) = false

-- a shared page, of a guest with the salt own, whose content is this salt and these bytes: a content is the pair of both
abbrev pub is_shared_as : ℕ → List ℕ → ℕ → Slot → Bool
is_shared_as salt bytes own Unmapped = false
is_shared_as salt bytes own (Private others hint) = false
is_shared_as salt bytes own (Shared others) = own == salt && bytes_eq others bytes

-- a shared page, of a guest with the salt own, whose content has this hash
abbrev pub is_shared_under : (ℕ → List ℕ → ℕ) → ℕ → ℕ → Slot → Bool
is_shared_under hash code own Unmapped = false
is_shared_under hash code own (Private others hint) = false
is_shared_under hash code own (Shared others) = hash own others == code

-- how many pages pass a test on their guest's salt and the page
abbrev pub count_pages : (ℕ → Slot → Bool) → List Guest → ℕ
count_pages p guests = sum_by (λ g. count_by (p g.salt) g.slots) guests

-- whether some page passes a test on its guest's salt and the page
abbrev pub any_page : (ℕ → Slot → Bool) → List Guest → Bool
any_page p guests = list_any (λ g. list_any (p g.salt) g.slots) guests

-- how many shared pages have this content: the references to its frame
abbrev pub peers : ℕ → List ℕ → List Guest → ℕ
peers salt bytes guests = count_pages (is_shared_as salt bytes) guests

-- how many contents the shared pages among slots have that no shared page of the later guests has: of pages with the
-- same content only the last counts
abbrev pub distinct_in : ℕ → List Slot → List Guest → ℕ
distinct_in salt [] later = 0
distinct_in salt (Unmapped ∷ slots) later = distinct_in salt slots later
distinct_in salt (Private bytes hint ∷ slots) later = distinct_in salt slots later
distinct_in salt (Shared bytes ∷ slots) later =
    (if list_any (is_shared_as salt bytes salt) slots || any_page (is_shared_as salt bytes) later then 0 else 1)
    + distinct_in salt slots later

-- how many distinct contents the shared pages have
abbrev pub distinct : List Guest → ℕ
distinct [] = 0
distinct (g ∷ guests) = distinct_in g.salt g.slots guests + distinct guests

-- how many frames are in use: one for each private page, and one for each distinct content of the shared pages
abbrev pub used : List Guest → ℕ
used guests = count_pages (λ _. is_private) guests + distinct guests

-- the number of the first slot that passes the test, if the first slot's number is n
abbrev pub slot_from : (Slot → Bool) → ℕ → List Slot → Option ℕ
slot_from p n [] = None
slot_from p n (slot ∷ slots) = if p slot then Some n else slot_from p (n + 1) slots

-- the page ppn of guest n if there is one, and otherwise a later page
abbrev pub or_else : ℕ → Option ℕ → Option (ℕ × ℕ) → Option (ℕ × ℕ)
or_else n (Some ppn) later = Some (n, ppn)
or_else n None later = later

-- the guest and the number of the first page that passes the test, if the first guest's number is n
abbrev pub page_from : (Slot → Bool) → ℕ → List Guest → Option (ℕ × ℕ)
page_from p n [] = None
page_from p n (g ∷ guests) = or_else n (slot_from p 0 g.slots) (page_from p (n + 1) guests)

-- the guest and the number of the first page that passes the test
abbrev pub find_page : (Slot → Bool) → List Guest → Option (ℕ × ℕ)
find_page p guests = page_from p 0 guests

-- the guest's salt and the page, if the guest has a page with this number
abbrev pub page_at : {X : Type 0} → List (GuestOf X) → ℕ → ℕ → Option (ℕ × SlotOf X)
page_at guests guest ppn = option_and_then (λ g. option_map (λ slot. (g.salt, slot)) (slice_get g.slots ppn)) (slice_get guests guest)

-- the guests after one page became this slot
abbrev pub with_slot : {X : Type 0} → List (GuestOf X) → ℕ → ℕ → SlotOf X → List (GuestOf X)
with_slot [] guest ppn slot = []
with_slot (g ∷ guests) zero ppn slot = record { salt = g.salt; slots = slice_set g.slots ppn slot } ∷ guests
with_slot (g ∷ guests) (suc guest) ppn slot = g ∷ with_slot guests guest ppn slot

-- the numbers of a report after this many requests. Reclaimed is the mapped pages minus the frames in use
abbrev pub totals : ℕ → List Guest → Totals
totals entries guests = record {
  entries = entries;
  mapped = count_pages (λ _. is_mapped) guests;
  shared = count_pages (λ _. is_shared) guests;
  frames = used guests;
  reclaimed = count_pages (λ _. is_mapped) guests - used guests;
  hints = count_pages (λ _. is_hinted) guests;
}
