-- The contents of the mapped pages, and how few frames could hold them.
use Rattle.std.specs.Prelude.{◌≡◌, ℕ, ◌+◌, ◌≤◌, ◌==◌, Bool, true, ◌&&◌, if◌then◌else◌, List, [], ◌∷◌, Some, count_by}
use Rattle.std.specs.List.{list_any, flat_map}
use Rattle.std.specs.Str.{bytes_eq}
use Rattle.page_model.specs.Pages.{Slot, Unmapped, Private, Shared, Guest, State, bytes_of, is_mapped, is_shared, used, page_at}

-- the content of a mapped page: its guest's salt and its bytes
abbrev pub Content : Type 0
Content = ℕ × List ℕ

-- the content of a page, if it is mapped
abbrev pub mapped_content : ℕ → Slot → List Content
mapped_content salt Unmapped = []
mapped_content salt (Private bytes hint) = (salt, bytes) ∷ []
mapped_content salt (Shared bytes) = (salt, bytes) ∷ []

-- the contents of all mapped pages, one for each page
abbrev pub mapped_contents : List Guest → List Content
mapped_contents guests = flat_map (λ g. flat_map (mapped_content g.salt) g.slots) guests

-- whether the two contents are the same
abbrev pub is_content : Content → Content → Bool
is_content c d = d.0 == c.0 && bytes_eq d.1 c.1

-- how often a content occurs
abbrev pub copies : Content → List Content → ℕ
copies c cs = count_by (is_content c) cs

-- how many different contents there are: each is counted where it occurs last
abbrev pub different : List Content → ℕ
different [] = 0
different (c ∷ cs) = (if list_any (is_content c) cs then 0 else 1) + different cs

-- in every state, at least as many frames are in use as the mapped pages have different contents
abbrev pub NeedsAFrameEach : Type 0
NeedsAFrameEach = (s : State) → different (mapped_contents s.guests) ≤ used s.guests

-- each mapped page whose content occurs more than once is shared
abbrev pub EqualPagesAreShared : List Guest → Type 0
EqualPagesAreShared guests =
    (guest ppn salt : ℕ) (slot : Slot) → page_at guests guest ppn ≡ Some (salt, slot) → is_mapped slot ≡ true →
    2 ≤ copies (salt, bytes_of slot) (mapped_contents guests) → is_shared slot ≡ true

-- and exactly as many if each mapped page whose content occurs more than once is shared
abbrev pub SharingAllIsLeast : Type 0
SharingAllIsLeast = (s : State) → EqualPagesAreShared s.guests → used s.guests ≡ different (mapped_contents s.guests)
