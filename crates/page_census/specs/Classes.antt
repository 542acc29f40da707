-- The class of a page: the number of the first page with its content.
use Rattle.std.specs.Prelude.{◌≡◌, ℕ, zero, suc, ◌^◌, ◌%◌, ◌<◌, ◌≤◌, ◌==◌, ◌&&◌, if◌then◌else◌, ◌+◌}
use Rattle.std.specs.Prelude.{List, map, take, length, slice_index, slice_set}
use Rattle.std.specs.List.{position_or_len}
use Rattle.page_model.specs.Pages.{blank}
use Rattle.page_census.specs.Contents.{Content, is_same, content_at}

-- the number of the first page with this content
abbrev pub class_of : List Content → Content → ℕ
class_of all content = position_or_len (is_same content) all

-- the class of the page with this number
abbrev pub class_at : List Content → ℕ → ℕ
class_at all n = class_of all (content_at all n)

-- the class of each page
abbrev pub classes_of : List Content → List ℕ
classes_of all = map (class_of all) all

-- equal contents have equal marks
abbrev pub AreAlike : List Content → List ℕ → Type 0
AreAlike all marks =
    (i j : ℕ) → i < length all → j < length all → content_at all i ≡ content_at all j → slice_index marks i ≡ slice_index marks j

-- equal contents have equal marks, and a content with the mark 0 is zeros
pub record DistinguishedBy (all : List Content) (marks : List ℕ) : Type 0 where
  pub equal : AreAlike all marks
  pub zeros : (i : ℕ) → i < length all → slice_index marks i ≡ 0 → (content_at all i).1 ≡ blank

-- One more than the number of the last page before n that is the first of its class and whose mark is in this bucket,
-- or 0 if there is none.
abbrev pub last_in : List ℕ → List ℕ → ℕ → ℕ → ℕ → ℕ
last_in marks classes buckets bucket zero = 0
last_in marks classes buckets bucket (suc n) =
    if slice_index classes n == n && slice_index marks n % buckets == bucket then suc n else last_in marks classes buckets bucket n

-- The classes of the first pages are known: heads and links lead through the first pages of the classes in each bucket,
-- from the last back.
pub record Classed (steady : Type 0) (all : List Content) (marks classes links heads : List ℕ) : Type 0 where
  pub count : length marks ≡ length all
  pub few : length all < 2 ^ 32
  pub done : length classes ≤ length all
  pub linked : length links ≡ length classes
  pub buckets : 1 ≤ length heads
  pub heads_are : (bucket : ℕ) → bucket < length heads
      → slice_index heads bucket ≡ last_in marks classes (length heads) bucket (length classes)
  pub links_are : (n : ℕ) → n < length classes
      → slice_index links n ≡ last_in marks classes (length heads) (slice_index marks n % length heads) n
  pub below : (n : ℕ) → n < length classes → slice_index classes n ≤ n
  pub alike : steady → AreAlike all marks
  pub right : steady → classes ≡ map (class_of all) (take (length classes) all)

-- the heads after a page of this class came whose mark is in this bucket
abbrev pub headed : List ℕ → ℕ → ℕ → ℕ → List ℕ
headed heads bucket number class = if class == number then slice_set heads bucket (number + 1) else heads
