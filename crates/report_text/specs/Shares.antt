-- Amounts of memory in parts, rounded so that the parts add up. A MiB has 256 pages, and `scale` units: 1, or 10 for tenths.
use Rattle.std.specs.Prelude.{ℕ, ◌+◌, ◌-◌, ◌*◌, ◌/◌, ◌%◌, ◌^◌, ◌<◌, min, nat_lt, if◌then◌else◌}
use Rattle.report_text.specs.Amounts.{nearest}
use Rattle.report_text.specs.declared.amounts.Unit.{Unit}
use Rattle.report_text.specs.declared.amounts.Unit.TheVariants.{Mebibytes, Pages}
use Rattle.report_text.specs.declared.reclaimed.Reclaimed.{Reclaimed}
use Rattle.report_text.specs.declared.shares.More.{More}
use Rattle.report_text.specs.declared.shares.Shares.{Shares}

-- the whole units that these pages fill
abbrev pub filled : ℕ → ℕ → ℕ
filled scale pages = scale * pages / 256

-- what is left of them beyond that, in parts of 256 of a unit
abbrev pub remainder : ℕ → ℕ → ℕ
remainder scale pages = scale * pages % 256

-- the pages of all parts
abbrev pub whole_of : Reclaimed → ℕ
whole_of parts = parts.zeros + parts.between + parts.within

-- how many units the filled ones lack to the nearest of the whole
abbrev pub lacking : ℕ → Reclaimed → ℕ
lacking scale parts =
    nearest scale (whole_of parts)
    - (filled scale parts.zeros + filled scale parts.between + filled scale parts.within)

-- 1 if the first number is below the second
abbrev pub below : ℕ → ℕ → ℕ
below a b = if nat_lt a b then 1 else 0

-- 1 if it isn't
abbrev pub from : ℕ → ℕ → ℕ
from a b = if nat_lt a b then 0 else 1

-- The units that are lacking go to the parts with the largest remainders, and for equal ones to the earlier part: a part gets one if
-- fewer parts come before it than units are lacking.
abbrev pub more_by : ℕ → ℕ → ℕ → ℕ → More
more_by lack a b c = record {
  zeros = below (below a b + below a c) lack;
  between = below (from a b + below b c) lack;
  within = below (from a c + from b c) lack;
}

-- the filled units of each part, and those that it gets
abbrev pub with_more : ℕ → Reclaimed → More → Shares
with_more scale parts more = record {
  whole = nearest scale (whole_of parts);
  zeros = filled scale parts.zeros + more.zeros;
  between = filled scale parts.between + more.between;
  within = filled scale parts.within + more.within;
}

-- The parts in units: rounded down, or up where the remainder is among the largest. They add up to the nearest of the whole.
abbrev pub shares_of : ℕ → Reclaimed → Shares
shares_of scale parts = with_more scale parts
    (more_by (lacking scale parts) (remainder scale parts.zeros) (remainder scale parts.between) (remainder scale parts.within))

-- the parts in tenths of a MiB, or in pages
abbrev pub shares_in : Unit → Reclaimed → Shares
shares_in Mebibytes parts = shares_of 10 parts
shares_in Pages parts = record {
  whole = min (whole_of parts) (2 ^ 64 - 1);
  zeros = parts.zeros;
  between = parts.between;
  within = parts.within;
}

-- A share differs from its exact value, scale * pages / 256, by less than a unit.
pub record IsNear (scale pages share : ℕ) : Type 0 where
  pub above : 256 * share < scale * pages + 256
  pub below : scale * pages < 256 * share + 256
