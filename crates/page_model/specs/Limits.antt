-- Which machines can be made.
use Rattle.std.specs.Prelude.{ℕ, ◌≡◌, ◌≤◌, List, [], ◌∷◌, length, sum, All}
use Rattle.page_model.specs.Replay.{Shape}
use Rattle.page_model.specs.declared.limits.TheConstants.{MAX_FRAMES, MAX_GUESTS, MAX_PAGES}
use Rattle.page_model.specs.declared.machine_shape.ShapeFault.{ShapeFault}
use Rattle.page_model.specs.declared.machine_shape.ShapeFault.TheVariants.{Frames, Guests, Pages}

-- the guests with these salts and numbers of pages, guest 0 first
abbrev pub shapes : List ℕ → List ℕ → List Shape
shapes [] pages = []
shapes (salt ∷ salts) [] = []
shapes (salt ∷ salts) (n ∷ pages) = record { salt = salt; pages = n } ∷ shapes salts pages

-- a machine may have this many frames
abbrev pub AreFrames : ℕ → Type 0
AreFrames frames = (1 ≤ frames) × (frames ≤ MAX_FRAMES)

-- there may be this many guests, with a salt each
abbrev pub AreGuests : List ℕ → List ℕ → Type 0
AreGuests salts pages = (1 ≤ length pages) × (length pages ≤ MAX_GUESTS) × (length salts ≡ length pages)

-- the guests may have these numbers of pages, however many guests there are
abbrev pub ArePages : List ℕ → Type 0
ArePages pages = All (λ n. 1 ≤ n) pages × (sum pages ≤ MAX_PAGES)

-- there may be a machine with these frames, pages and salts
abbrev pub AreLimits : ℕ → List ℕ → List ℕ → Type 0
AreLimits frames pages salts = AreFrames frames × AreGuests salts pages × ArePages pages

-- the first reason why there is no machine with these frames, pages and salts
abbrev pub NoShapeFor : ℕ → List ℕ → List ℕ → ShapeFault → Type 0
NoShapeFor frames pages salts Frames = ¬ AreFrames frames
NoShapeFor frames pages salts Guests = AreFrames frames × ¬ AreGuests salts pages
NoShapeFor frames pages salts Pages = AreFrames frames × AreGuests salts pages × ¬ ArePages pages
