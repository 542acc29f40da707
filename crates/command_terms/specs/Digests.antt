-- The name of a path's file.
use Rattle.std.specs.Prelude.{◌≡◌, ◌≢◌, ◌⊎◌, ℕ, List, [], ◌∷◌, ◌++◌, All}

-- nothing, or bytes that end with a '/'
abbrev pub IsFolder : List ℕ → Type 0
IsFolder bytes = (bytes ≡ []) ⊎ ((before : List ℕ) × (bytes ≡ before ++ 47 ∷ []))

-- the path is a folder, and behind it a name without a '/'
pub record IsFileName (path name : List ℕ) : Type 0 where
  pub folder : List ℕ
  pub is : IsFolder folder
  pub whole : path ≡ folder ++ name
  pub free : All (λ b. b ≢ 47) name
