-- What is counted from contents.
use Rattle.std.specs.Prelude.{ℕ, ◌+◌, ◌-◌, ◌/◌, ◌^◌, ◌&&◌, min, nat_eq, nat_le, nat_lt, Bool, if◌then◌else◌}
use Rattle.std.specs.Prelude.{List, [], ◌∷◌, length, map, count_by, filter, sum_by}
use Rattle.std.specs.List.{list_any, range_with_len}
use Rattle.std.specs.Str.{bytes_eq}
use Rattle.page_model.specs.Pages.{blank}
use Rattle.page_census.specs.Contents.{Content, is_same, contents, contents_of}
use Rattle.page_census.specs.declared.guest.Guest.{Guest}
use Rattle.page_census.specs.declared.numbers.GuestNumbers.{GuestNumbers}
use Rattle.page_census.specs.declared.numbers.TotalNumbers.{TotalNumbers}
use Rattle.page_census.specs.declared.table.CopiesClass.{CopiesClass}

module _ {X : Type 0} (same : X → X → Bool) where
  -- how many of these are the same as x
  abbrev pub copies : X → List X → ℕ
  copies x all = count_by (same x) all

  -- how many different ones there are: among those that are the same, only the last counts
  abbrev pub distinct : List X → ℕ
  distinct [] = 0
  distinct (x ∷ xs) = (if list_any (same x) xs then 0 else 1) + distinct xs

  -- how many of xs have a second copy among all
  abbrev pub shared : List X → List X → ℕ
  shared all xs = count_by (λ x. nat_lt 1 (copies x all)) xs

-- the content is a page of zeros
abbrev pub is_zero : Content → Bool
is_zero content = bytes_eq content.1 blank

-- the numbers of a guest whose pages have the contents own, when all pages have the contents all
abbrev pub guest_numbers : List Content → List Content → GuestNumbers
guest_numbers all own = record {
  pages = length own;
  zero = count_by is_zero own;
  distinct = distinct is_same own;
  shared = shared is_same all own;
  within = shared is_same own own;
  alone = length own - distinct is_same own;
}

-- how many pages the guests of these numbers reclaim alone
abbrev pub sum_alone : List GuestNumbers → ℕ
sum_alone numbers = sum_by (λ guest. guest.alone) numbers

-- the different salts of the pages of zeros
abbrev pub zero_salts : List Content → ℕ
zero_salts all = distinct nat_eq (map (λ content. content.0) (filter is_zero all))

module _ {S : Type 0} (pages : S → List (List ℕ)) where
  -- the numbers of each guest
  abbrev pub numbers_of : List (Guest S) → List GuestNumbers
  numbers_of guests = map (λ guest. guest_numbers (contents pages guests) (contents_of pages guest)) guests

  -- the numbers in total
  abbrev pub total_numbers : List (Guest S) → TotalNumbers
  total_numbers guests =
      let all = contents pages guests in
      record {
        pages = length all;
        zero = count_by is_zero all;
        shared = shared is_same all all;
        frames = distinct is_same all;
        reclaimed = length all - distinct is_same all;
        zero_reclaimed = count_by is_zero all - zero_salts all;
        between = length all - distinct is_same all - sum_alone (numbers_of guests);
      }

abbrev pub is_between : ℕ → ℕ → ℕ → Bool
is_between from to count = nat_le from count && nat_le count to

-- the content has at least `from` and at most `to` copies among all
abbrev pub has_copies : List Content → ℕ → ℕ → Content → Bool
has_copies all from to content = is_between from to (copies is_same content all)

-- the different contents that have this many copies, and the pages that have these contents
abbrev pub copies_class : List Content → ℕ → ℕ → CopiesClass
copies_class all from to = record {
  from = from;
  to = to;
  contents = distinct is_same (filter (has_copies all from to) all);
  pages = count_by (has_copies all from to) all;
}

-- The classes of copies are 1, 2, 3 to 4, 5 to 8, and so on in powers of two. These are the fewest and the most copies
-- in the class with this number. No content has 2^32 copies.
abbrev pub fewest : ℕ → ℕ
fewest number = 2 ^ number / 2 + 1

abbrev pub most : ℕ → ℕ
most number = min (2 ^ number) (2 ^ 32 - 1)

-- the numbers of all classes
unfoldable pub class_numbers : List ℕ
class_numbers = range_with_len 0 33

-- the class has contents
abbrev pub has_contents : CopiesClass → Bool
has_contents class = nat_lt 0 class.contents

-- the classes of copies that have contents, rising
abbrev pub copies_table : List Content → List CopiesClass
copies_table all = filter has_contents (map (λ number. copies_class all (fewest number) (most number)) class_numbers)
