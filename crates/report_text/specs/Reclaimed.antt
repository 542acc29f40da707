-- What could be reclaimed, in three parts that add up to it.
use Rattle.std.specs.Prelude.{ℕ, ◌-◌, min, List, sum_by}
use Rattle.page_census.specs.declared.numbers.TotalNumbers.{TotalNumbers}
use Rattle.report_text.specs.declared.estimate.GuestLine.{GuestLine}
use Rattle.report_text.specs.declared.reclaimed.Reclaimed.{Reclaimed}

-- The parts of a whole, by its zeros, and what of the rest is reclaimed within guests: what is left is reclaimed between them.
abbrev pub parts_by : ℕ → ℕ → ℕ → Reclaimed
parts_by whole zeros within = record {
  zeros = min zeros whole;
  between = whole - min zeros whole - min within (whole - min zeros whole);
  within = min within (whole - min zeros whole);
}

-- what sharing within a guest alone would reclaim, less its pages of zeros but one
abbrev pub within_guest : GuestLine → ℕ
within_guest guest = guest.numbers.alone - (guest.numbers.zero - 1)

-- the parts of what is reclaimed of some guests
abbrev pub reclaimed_of : TotalNumbers → List GuestLine → Reclaimed
reclaimed_of total guests = parts_by total.reclaimed total.zero_reclaimed (sum_by within_guest guests)
