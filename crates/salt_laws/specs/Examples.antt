-- Small journals of two guests with salts of their own, under the hash `first_two`: the key is the second byte of a page.
use Rattle.std.specs.Prelude.{ℕ, List, [], ◌∷◌}
use Rattle.page_model.specs.Pages.{State}
use Rattle.page_model.specs.Replay.{Shape, empty_state}
use Rattle.page_model.specs.declared.request.Entry.{Entry}
use Rattle.page_model.specs.declared.request.Request.TheVariants.{Propose, Store}

-- guest 0 has the salt 0, and guest 1 the salt 1, and each has one page
abbrev pub two_salts : List Shape
two_salts = record { salt = 0; pages = 1 } ∷ record { salt = 1; pages = 1 } ∷ []

-- their machine, with this many frames
abbrev pub machine_of : ℕ → State
machine_of total = empty_state total two_salts

-- an entry of a guest that stores bytes at the head of its page
abbrev pub fills : ℕ → List ℕ → Entry
fills guest bytes = record { guest = guest; request = Store (record { ppn = 0; at = 0; bytes = bytes }) }

-- an entry of a guest that proposes its page
abbrev pub offers : ℕ → Entry
offers guest = record { guest = guest; request = Propose 0 }

-- each fills its page and proposes it. Neither hashes nor keys are the same
abbrev pub other_keys : List Entry
other_keys = fills 0 (65 ∷ 7 ∷ []) ∷ offers 0 ∷ fills 1 (66 ∷ 8 ∷ []) ∷ offers 1 ∷ []

-- the same, but both keys are 7; the hashes still differ
abbrev pub same_key : List Entry
same_key = fills 0 (65 ∷ 7 ∷ []) ∷ offers 0 ∷ fills 1 (66 ∷ 7 ∷ []) ∷ offers 1 ∷ []

-- each fills its page, and none proposes it
abbrev pub no_offers : List Entry
no_offers = fills 0 (65 ∷ []) ∷ fills 1 (66 ∷ []) ∷ []
