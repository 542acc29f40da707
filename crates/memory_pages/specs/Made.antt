-- What is made of pages.
use Rattle.std.specs.Prelude.{◌≡◌, ℕ, ◌*◌, List, ◌++◌, length, take, drop}
use Rattle.std.specs.List.{flat_map}

-- the pages of a part, where each part but the last has this many
abbrev pub part_of : List (List ℕ) → ℕ → ℕ → List (List ℕ)
part_of pages size n = take size (drop (size * n) pages)

-- After the items before come those that one read of each page gives; a steady source returns these very pages.
pub record AreMade {X : Type 0} (steady : Type 0) (pages : List (List ℕ)) (gives : List ℕ → List X) (before after : List X) : Type 0 where
  pub read : List (List ℕ)
  pub all : length read ≡ length pages
  pub same : steady → read ≡ pages
  pub added : after ≡ before ++ flat_map gives read
