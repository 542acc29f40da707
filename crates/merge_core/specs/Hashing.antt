-- The hashes of pages, and the frames that are hashed for them.
use Rattle.std.specs.Prelude.{◌≡◌, ◌≤◌, ℕ, ⊤, List, map, Option, Some, None, IfSome, option_and_then}
use Rattle.page_model.specs.Pages.{SlotOf, Slot, Unmapped, Private, Shared, Guest, page_at}
use Rattle.page_model.specs.declared.request.Request.{Request}
use Rattle.page_model.specs.declared.request.Request.TheVariants.{Propose, Store, Load, Release, Count, Close}
use Rattle.page_model.specs.declared.limits.TheConstants.{MAX_WORKERS}
use Rattle.merge_core.specs.Pmap.{Pmap, frame_of}

-- there are workers, and no more than hash pages at once
abbrev pub AreWorkers : ℕ → Type 0
AreWorkers workers = (1 ≤ workers) × (workers ≤ MAX_WORKERS)

-- the hash of what a page holds, under its guest's salt; none if it is unmapped
abbrev pub slot_hash : (ℕ → List ℕ → ℕ) → ℕ → Slot → Option ℕ
slot_hash hash salt Unmapped = None
slot_hash hash salt (Private bytes hint) = Some (hash salt bytes)
slot_hash hash salt (Shared bytes) = Some (hash salt bytes)

-- the hash of a page's salt and bytes; none if it is unmapped or doesn't exist
abbrev pub page_hash : (ℕ → List ℕ → ℕ) → List Guest → ℕ → ℕ → Option ℕ
page_hash hash guests guest ppn = option_and_then (λ x. slot_hash hash x.0 x.1) (page_at guests guest ppn)

-- the hashes of pages, each named by its guest and number
abbrev pub page_hashes : (ℕ → List ℕ → ℕ) → List Guest → List (ℕ × ℕ) → List (Option ℕ)
page_hashes hash guests pages = map (λ p. page_hash hash guests p.0 p.1) pages

-- if the request proposes a mapped page, the number is that page's hash
abbrev pub IsHashFor : (ℕ → List ℕ → ℕ) → List Guest → ℕ → Request → ℕ → Type 0
IsHashFor hash guests guest (Propose ppn) code = IfSome (page_hash hash guests guest ppn) (λ h. code ≡ h)
IsHashFor hash guests guest (Store r) code = ⊤
IsHashFor hash guests guest (Load r) code = ⊤
IsHashFor hash guests guest (Release ppn) code = ⊤
IsHashFor hash guests guest Count code = ⊤
IsHashFor hash guests guest Close code = ⊤

-- some page has this frame, under this salt
pub record IsPaged (pmap : Pmap) (salt mpn : ℕ) : Type 0 where
  pub guest : ℕ
  pub ppn : ℕ
  pub slot : SlotOf ℕ
  pub at : page_at pmap guest ppn ≡ Some (salt, slot)
  pub frame : frame_of slot ≡ Some mpn
