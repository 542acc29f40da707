-- The parts of a guest's bar.
use Rattle.std.specs.Prelude.{ℕ, ◌-◌, ◌==◌, min, nat_lt, Bool, if◌then◌else◌, List, sum_by}
use Rattle.page_census.specs.declared.numbers.GuestNumbers.{GuestNumbers}
use Rattle.report_text.specs.declared.estimate.GuestLine.{GuestLine}
use Rattle.report_picture.specs.declared.bar.Parts.{Parts}

-- the guest's pages of zeros, if it has this salt
abbrev pub zero_under : ℕ → GuestLine → ℕ
zero_under salt guest = if guest.salt == salt then guest.numbers.zero else 0

-- the pages of zeros of the guests of this salt
abbrev pub salt_zeros : ℕ → List GuestLine → ℕ
salt_zeros salt guests = sum_by (zero_under salt) guests

-- the pages other than zeros whose content some other page has: the pages of zeros are among the shared ones if two or
-- more have its salt
abbrev pub shared_others : Bool → GuestNumbers → ℕ
shared_others has_zeros numbers =
    min (numbers.shared - (if has_zeros then numbers.zero else 0)) (numbers.pages - min numbers.zero numbers.pages)

-- those of these whose content some other page of the guest has: its pages of zeros are among the pages within if there
-- are two or more
abbrev pub shared_within : Bool → GuestNumbers → ℕ
shared_within has_zeros numbers =
    min (numbers.within - (if nat_lt 1 numbers.zero then numbers.zero else 0)) (shared_others has_zeros numbers)

-- the parts of a guest's bar, by whether the guests of its salt have two pages of zeros or more
abbrev pub parts_of : Bool → GuestNumbers → Parts
parts_of has_zeros numbers = record {
  zero = min numbers.zero numbers.pages;
  within = shared_within has_zeros numbers;
  between = shared_others has_zeros numbers - shared_within has_zeros numbers;
  unshared = numbers.pages - min numbers.zero numbers.pages - shared_others has_zeros numbers;
}
