-- The frames that pages name, and how many distinct ones they are.
use Rattle.std.specs.Prelude.{ℕ, ◌+◌, ◌==◌, if◌then◌else◌, List, [], ◌∷◌, ◌++◌}
use Rattle.std.specs.List.{list_any}
use Rattle.page_model.specs.Pages.{SlotOf, Unmapped, Private, Shared}
use Rattle.merge_core.specs.Pmap.{Pmap}

-- the frames that a guest's pages name, in the order of the pages; an unmapped page names none
abbrev pub frames_in : List (SlotOf ℕ) → List ℕ
frames_in [] = []
frames_in (Unmapped ∷ slots) = frames_in slots
frames_in (Private mpn hint ∷ slots) = mpn ∷ frames_in slots
frames_in (Shared mpn ∷ slots) = mpn ∷ frames_in slots

-- the frames that all pages name, page by page, guest 0 first
abbrev pub frames_of : Pmap → List ℕ
frames_of [] = []
frames_of (g ∷ pmap) = frames_in g.slots ++ frames_of pmap

-- how many distinct numbers are in a list: of equal ones only the last counts
abbrev pub distinct_numbers : List ℕ → ℕ
distinct_numbers [] = 0
distinct_numbers (n ∷ ns) = (if list_any (λ m. m == n) ns then 0 else 1) + distinct_numbers ns
