-- How the pages, frames, table and notes of a core fit together.
use Rattle.std.specs.Prelude.{◌≡◌, ℕ, ◌≤◌, List, length, Option, Some, sum_by}
use Rattle.std.specs.FinMap as map
use Rattle.page_model.specs.Pages.{SlotOf, Private, Shared, Guest, GuestOf, page_at}
use Rattle.page_model.specs.Pages.{peers, used, distinct, count_pages, is_shared, is_hinted}
use Rattle.page_model.specs.declared.limits.TheConstants.{MAX_GUESTS, MAX_PAGES}
use Rattle.machine_frames.specs.FrameMap.{FrameMap, IsTaken}
use Rattle.machine_frames.specs.FrameMap as fm
use Rattle.share_table.specs.TableMaps.{TableMaps, SharedMap, HintMap, SharedFrame, references}
use Rattle.share_table.specs.declared.entries.HintFrame.{HintFrame}
use Rattle.merge_core.specs.Pmap.{Pmap, bytes_in, guests_in, frame_of, Known, known_at}

-- each page's frame is taken, and a private page's frame is that page's alone
pub record Placed (pmap : Pmap) (frames : FrameMap) : Type 0 where
  pub taken : (a b salt : ℕ) (slot : SlotOf ℕ) (m : ℕ) → page_at pmap a b ≡ Some (salt, slot) → frame_of slot ≡ Some m → IsTaken frames m
  pub alone : (a b salt m : ℕ) (hint : Option ℕ) (c d other : ℕ) (slot : SlotOf ℕ) → page_at pmap a b ≡ Some (salt, Private m hint) →
      page_at pmap c d ≡ Some (other, slot) → frame_of slot ≡ Some m → (c ≡ a) × (d ≡ b)

-- each page's salt is noted at its frame, and each noted hash is correct
pub record Noted (hash : ℕ → List ℕ → ℕ) (pmap : Pmap) (frames : FrameMap) (notes : List Known) : Type 0 where
  pub len : length notes ≡ length frames
  pub salts : (a b salt : ℕ) (slot : SlotOf ℕ) (m : ℕ) → page_at pmap a b ≡ Some (salt, slot) → frame_of slot ≡ Some m →
      (known_at notes m).salt ≡ salt
  pub hashes : (m code : ℕ) → IsTaken frames m → (known_at notes m).hash ≡ Some code →
      code ≡ hash (known_at notes m).salt (bytes_in frames m)

-- what the table holds about a shared frame
pub record SharedWell (hash : ℕ → List ℕ → ℕ) (guests : List Guest) (frames : FrameMap) (notes : List Known) (code : ℕ)
    (f : SharedFrame) : Type 0 where
  pub taken : IsTaken frames f.mpn
  pub code_is : hash (known_at notes f.mpn).salt (bytes_in frames f.mpn) ≡ code
  pub count : f.count ≡ peers (known_at notes f.mpn).salt (bytes_in frames f.mpn) guests
  pub some : 1 ≤ f.count

pub record Listed (shared : SharedMap) (code mpn : ℕ) : Type 0 where
  pub count : ℕ
  pub here : map.get shared code ≡ Some (record { mpn = mpn; count = count })

-- the table's shared frames are those of the shared pages
pub record Shares (hash : ℕ → List ℕ → ℕ) (pmap : Pmap) (frames : FrameMap) (notes : List Known) (shared : SharedMap) : Type 0 where
  pub listed : (a b salt m : ℕ) → page_at pmap a b ≡ Some (salt, Shared m) → Listed shared (hash salt (bytes_in frames m)) m
  pub well : (code : ℕ) (f : SharedFrame) → map.get shared code ≡ Some f → SharedWell hash (guests_in frames pmap) frames notes code f
  pub apart : (a b salt m : ℕ) (hint : Option ℕ) (code : ℕ) (f : SharedFrame) → page_at pmap a b ≡ Some (salt, Private m hint) →
      map.get shared code ≡ Some f → f.mpn ≡ m → ⊥

-- the page of a hint
pub record HintWell (pmap : Pmap) (key : ℕ) (h : HintFrame) : Type 0 where
  pub salt : ℕ
  pub here : page_at pmap h.guest h.ppn ≡ Some (salt, Private h.mpn (Some key))

-- the table's hints are those of the private pages
pub record Hinted (pmap : Pmap) (hints : HintMap) : Type 0 where
  pub there : (a b salt m key : ℕ) → page_at pmap a b ≡ Some (salt, Private m (Some key)) →
      map.get hints key ≡ Some (record { guest = a; ppn = b; mpn = m })
  pub well : (key : ℕ) (h : HintFrame) → map.get hints key ≡ Some h → HintWell pmap key h

-- how many frames, shared frames, references and hints there are
pub record Counted (guests : List Guest) (frames : FrameMap) (table : TableMaps) : Type 0 where
  pub capacity : table.capacity ≡ length frames
  pub used : fm.used frames ≡ used guests
  pub shared : map.len table.shared ≡ distinct guests
  pub hints : map.len table.hints ≡ count_pages (λ _. is_hinted) guests
  pub references : references table ≡ count_pages (λ _. is_shared) guests

-- a page that has this frame
pub record Owner (pmap : Pmap) (m : ℕ) : Type 0 where
  pub guest : ℕ
  pub ppn : ℕ
  pub salt : ℕ
  pub slot : SlotOf ℕ
  pub at : page_at pmap guest ppn ≡ Some (salt, slot)
  pub frame : frame_of slot ≡ Some m

-- each taken frame is some page's
abbrev pub Owned : Pmap → FrameMap → Type 0
Owned pmap frames = (m : ℕ) → IsTaken frames m → Owner pmap m

-- the number of pages of all guests
abbrev pub page_total : {X : Type 0} → List (GuestOf X) → ℕ
page_total {X} guests = sum_by (λ (g : GuestOf X). length g.slots) guests

-- the guests and their pages are within a machine's limits
pub record Few (pmap : Pmap) : Type 0 where
  pub guests : length pmap ≤ MAX_GUESTS
  pub pages : page_total pmap ≤ MAX_PAGES

pub record Ties (hash : ℕ → List ℕ → ℕ) (pmap : Pmap) (frames : FrameMap) (table : TableMaps) (notes : List Known) : Type 0 where
  pub placed : Placed pmap frames
  pub noted : Noted hash pmap frames notes
  pub shares : Shares hash pmap frames notes table.shared
  pub hinted : Hinted pmap table.hints
  pub counted : Counted (guests_in frames pmap) frames table
  pub owned : Owned pmap frames
