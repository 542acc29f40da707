-- What a contract sees of a core.
use Rattle.std.specs.Prelude.{◌≡◌, ℕ, ◌≤◌, List, length, Option, Some, None, refl}
use Rattle.std.specs.Coded.{Coded, code_by, coded×, coded_ℕ, coded_list, coded_option}
use Rattle.page_model.specs.Pages.{SlotOf, Unmapped, Private, Shared, GuestOf, State, page_at, peers, used}
use Rattle.machine_frames.specs.FrameMap.{FrameMap, IsTaken, used as frames_used}
use Rattle.share_table.specs.TableMaps.{TableMaps, table_code, SharedFrame, shared_at, hint_at, entry_count}
use Rattle.share_table.specs.declared.entries.HintFrame.{HintFrame}
use Rattle.merge_core.specs.Pmap.{Pmap, guests_in, bytes_in, frame_of}
use Rattle.merge_core.specs.Ties.{Owner}

-- the number of requests served, the pmap, which has each mapped page's MPN, the frames, and the table
pub record Shown : Type 0 where
  pub entries : ℕ
  pub pmap : Pmap
  pub frames : FrameMap
  pub table : TableMaps

-- the model's state: each mapped page holds the bytes of its frame
abbrev pub state_of : Shown → State
state_of c = record { total = length c.frames; guests = guests_in c.frames c.pmap; entries = c.entries }

-- Which page has which frame: each mapped page's frame is taken, each taken frame is some page's, and two pages have the same
-- frame exactly when both are shared with the same content. So the frames in use are those that the pages name, and their
-- number is the one that the model counts.
pub record FramesOfPages (c : Shown) : Type 0 where
  pub taken : (a b salt : ℕ) (slot : SlotOf ℕ) (m : ℕ) → page_at c.pmap a b ≡ Some (salt, slot) → frame_of slot ≡ Some m →
      IsTaken c.frames m
  pub owned : (m : ℕ) → IsTaken c.frames m → Owner c.pmap m
  pub apart : (a b salt x y other m : ℕ) (mine theirs : SlotOf ℕ) → page_at c.pmap a b ≡ Some (salt, mine) →
      page_at c.pmap x y ≡ Some (other, theirs) → (x ≡ a → y ≡ b → ⊥) → frame_of mine ≡ Some m → frame_of theirs ≡ Some m →
      (mine ≡ Shared m) × (theirs ≡ Shared m) × (other ≡ salt)
  pub joint : (a b x y salt m n : ℕ) → page_at c.pmap a b ≡ Some (salt, Shared m) → page_at c.pmap x y ≡ Some (salt, Shared n) →
      bytes_in c.frames m ≡ bytes_in c.frames n → m ≡ n
  pub count : frames_used c.frames ≡ used (state_of c).guests

-- a shared page of the frame that the table has under a hash
pub record Sharer (hash : ℕ → List ℕ → ℕ) (c : Shown) (code m : ℕ) : Type 0 where
  pub guest : ℕ
  pub ppn : ℕ
  pub salt : ℕ
  pub at : page_at c.pmap guest ppn ≡ Some (salt, Shared m)
  pub code_is : hash salt (bytes_in c.frames m) ≡ code

-- the page of a hint
pub record Hinter (c : Shown) (key : ℕ) (h : HintFrame) : Type 0 where
  pub salt : ℕ
  pub at : page_at c.pmap h.guest h.ppn ≡ Some (salt, Private h.mpn (Some key))

-- What the table holds: for each shared page, under its hash, its frame, counted once for each page with its content; for
-- each hint, under its key, its page and that page's frame; and nothing else. So its entries are at most the frames in use.
pub record TableOfPages (hash : ℕ → List ℕ → ℕ) (c : Shown) : Type 0 where
  pub shared : (a b salt m : ℕ) → page_at c.pmap a b ≡ Some (salt, Shared m) →
      shared_at c.table (hash salt (bytes_in c.frames m))
      ≡ Some (record { mpn = m; count = peers salt (bytes_in c.frames m) (state_of c).guests })
  pub sharers : (code : ℕ) (f : SharedFrame) → shared_at c.table code ≡ Some f → Sharer hash c code f.mpn
  pub hints : (a b salt m key : ℕ) → page_at c.pmap a b ≡ Some (salt, Private m (Some key)) →
      hint_at c.table key ≡ Some (record { guest = a; ppn = b; mpn = m })
  pub hinters : (key : ℕ) (h : HintFrame) → hint_at c.table key ≡ Some h → Hinter c key h
  pub room : entry_count c.table ≤ used (state_of c).guests
  pub within : used (state_of c).guests ≤ length c.frames

abbrev pub Packed : Type 0
Packed = Option (ℕ × Option (Option ℕ))

abbrev pub packed : SlotOf ℕ → Packed
packed Unmapped = None
packed (Private m hint) = Some (m, Some hint)
packed (Shared m) = Some (m, None)

abbrev pub unpacked : Packed → SlotOf ℕ
unpacked None = Unmapped
unpacked (Some (m, Some hint)) = Private m hint
unpacked (Some (m, None)) = Shared m

pub packed_back : (s : SlotOf ℕ) → unpacked (packed s) ≡ s
packed_back Unmapped = refl
packed_back (Private m hint) = refl
packed_back (Shared m) = refl

abbrev pub slot_code : Coded (SlotOf ℕ)
slot_code = code_by Packed (coded_option (coded× coded_ℕ (coded_option (coded_option coded_ℕ)))) packed unpacked packed_back

abbrev pub guest_code : Coded (GuestOf ℕ)
guest_code =
    code_by
    (ℕ × List (SlotOf ℕ))
    (coded× coded_ℕ (coded_list slot_code))
    (λ g. (g.salt, g.slots))
    (λ p. record { salt = p.0; slots = p.1 })
    (λ _. refl)

abbrev pub shown_code : Coded Shown
shown_code =
    code_by
    (ℕ × (Pmap × (FrameMap × TableMaps)))
    (coded× coded_ℕ (coded× (coded_list guest_code) (coded× (coded_list (coded_option (coded_list coded_ℕ))) table_code)))
    (λ c. (c.entries, (c.pmap, (c.frames, c.table))))
    (λ p. record { entries = p.0; pmap = p.1.0; frames = p.1.1.0; table = p.1.1.1 })
    (λ _. refl)
