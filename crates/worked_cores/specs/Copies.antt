-- Four mapped pages: two guests have the salts 0 and 1, and of the bytes 65 there are two copies in the first guest and
-- one in the second, which is another content.
use Rattle.std.specs.Prelude.{List, [], ◌∷◌, None}
use Rattle.page_model.specs.Pages.{Unmapped, Private, Shared, Guest}

abbrev pub other_guest : Guest
other_guest = record { salt = 1; slots = Private (65 ∷ []) None ∷ Unmapped ∷ [] }

-- each page has a frame of its own
abbrev pub copies_apart : List Guest
copies_apart =
    record { salt = 0; slots = Private (65 ∷ []) None ∷ Private (66 ∷ []) None ∷ Private (65 ∷ []) None ∷ [] } ∷ other_guest ∷ []

-- the two copies share one frame
abbrev pub copies_shared : List Guest
copies_shared = record { salt = 0; slots = Shared (65 ∷ []) ∷ Private (66 ∷ []) None ∷ Shared (65 ∷ []) ∷ [] } ∷ other_guest ∷ []
