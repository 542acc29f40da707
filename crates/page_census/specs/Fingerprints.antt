-- The fingerprints of pages, which represent their contents until the bytes are compared.
use Rattle.std.specs.Prelude.{◌≡◌, ℕ, ◌^◌, ◌<◌, ◌≤◌, List, [], ◌∷◌, All, length, map, slice_index}
use Rattle.std.specs.List.{range_with_len}
use Rattle.page_census.specs.Classes.{DistinguishedBy}
use Rattle.page_census.specs.Contents.{Content, content_at}
use Rattle.page_census.specs.declared.compare.Compare.{Compare}
use Rattle.page_census.specs.declared.compare.Compare.TheVariants.{Marks, Bytes}

-- the fingerprint of the page with this number: its guest's salt, and its mark instead of its bytes
abbrev pub fingerprint_at : List Content → List ℕ → ℕ → Content
fingerprint_at all marks n = ((content_at all n).0, slice_index marks n ∷ [])

abbrev pub fingerprints : List Content → List ℕ → List Content
fingerprints all marks = map (fingerprint_at all marks) (range_with_len 0 (length all))

-- how pages are compared
abbrev pub seen : Compare → List Content → List ℕ → List Content
seen Marks all marks = fingerprints all marks
seen Bytes all marks = all

-- when a comparison is right: one of marks always is, and one of bytes is if they are read from steady sources
abbrev pub Sure : Compare → Type 0 → Type 0
Sure Marks steady = Unit {0}
Sure Bytes steady = steady

-- the pages from one number up to another have the content of the first page of their class
pub record AreConfirmed (steady : Type 0) (all : List Content) (classes : List ℕ) (from to : ℕ) : Type 0 where
  pub right : steady → (n : ℕ) → from ≤ n → n < to → n < length all → content_at all n ≡ content_at all (slice_index classes n)

-- each page has a mark and a class
pub record AreClassed (steady : Type 0) (all : List Content) (marks classes : List ℕ) : Type 0 where
  pub marked : length marks ≡ length all
  pub classed : length classes ≡ length all
  pub few : length all < 2 ^ 32
  pub below : All (λ class. class < length all) classes
  pub apart : steady → DistinguishedBy all marks
