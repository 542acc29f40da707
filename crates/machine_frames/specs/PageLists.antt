-- Pages by their numbers, with room for a fixed number of them.
use Rattle.std.specs.Prelude.{ℕ, List, [], ◌∷◌, ◌++◌, length, take, slice_index_or, slice_set, refl}
use Rattle.std.specs.Coded.{Coded, code_by, coded×, coded_ℕ, coded_list}

pub record PageList : Type 0 where
  pub pages : List (List ℕ)
  pub room : ℕ

-- a list of pages is stored as the pair of its fields
abbrev pub page_list_code : Coded PageList
page_list_code =
    code_by
    (List (List ℕ) × ℕ)
    (coded× (coded_list (coded_list coded_ℕ)) coded_ℕ)
    (λ l. (l.pages, l.room))
    (λ p. record { pages = p.0; room = p.1 })
    (λ _. refl)

-- the bytes of a page
abbrev pub page_in : PageList → ℕ → List ℕ
page_in list number = slice_index_or list.pages number []

-- the list with other bytes in one page
abbrev pub with_page : PageList → ℕ → List ℕ → PageList
with_page list number page = record { pages = slice_set list.pages number page; room = list.room }

-- the list with one more page
abbrev pub with_more : PageList → List ℕ → PageList
with_more list page = record { pages = list.pages ++ page ∷ []; room = list.room }

-- the pages in the first of these rooms, of which each may have a page
abbrev pub first_rooms : List (List ℕ) → ℕ → PageList
first_rooms rooms len = record { pages = take len rooms; room = length rooms }
