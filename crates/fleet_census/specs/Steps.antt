-- What is counted with one content more. No sum goes beyond its greatest number.
use Rattle.std.specs.Prelude.{ℕ, ◌+◌, ◌-◌, ◌^◌, min, nat_lt, if◌then◌else◌, List, slice_index_or, Option, Some, None}
use Rattle.fleet_census.specs.Amounts.{with_content}
use Rattle.fleet_census.specs.declared.amount.Amount.{Amount}
use Rattle.fleet_census.specs.declared.content.Content.{Content}
use Rattle.fleet_census.specs.declared.content.Holder.{Holder}
use Rattle.fleet_census.specs.declared.guest.FleetGuest.{FleetGuest}
use Rattle.fleet_census.specs.declared.total.FleetTotal.{FleetTotal}

-- a sum of 64 bits with a number more
abbrev pub with_number : ℕ → ℕ → ℕ
with_number sum x = min (sum + x) (2 ^ 64 - 1)

-- the numbers of a guest that has the content
abbrev pub guest_with : Content → FleetGuest → Holder → FleetGuest
guest_with content guest holder = record {
  pages = guest.pages;
  zero = with_number guest.zero holder.zero;
  distinct = with_content guest.distinct (nat_lt 0 content.zero) (min holder.copies 1);
  shared = with_content guest.shared (nat_lt 0 content.zero) (if nat_lt 1 content.copies then holder.copies else 0);
  alone = with_content guest.alone (nat_lt 0 content.zero) (holder.copies - 1);
}

-- the numbers of a guest, if it has the content and if it hasn't
abbrev pub guest_after : Content → FleetGuest → Option Holder → FleetGuest
guest_after content guest None = guest
guest_after content guest (Some holder) = guest_with content guest holder

abbrev pub no_amount : Amount
no_amount = record { zeros = 0; others = 0; squares = 0 }

-- what stands behind the end of a list
abbrev pub no_guest : FleetGuest
no_guest = record { pages = 0; zero = 0; distinct = no_amount; shared = no_amount; alone = no_amount }

-- the numbers of the guest with this number
abbrev pub guest_at : List FleetGuest → ℕ → FleetGuest
guest_at guests file = slice_index_or guests file no_guest

-- the numbers in total
abbrev pub total_with : Content → FleetTotal → FleetTotal
total_with content total = record {
  pages = total.pages;
  zero = with_number total.zero content.zero;
  shared = with_content total.shared (nat_lt 0 content.zero) (if nat_lt 1 content.copies then content.copies else 0);
  frames = with_content total.frames (nat_lt 0 content.zero) (min content.copies 1);
  reclaimed = with_content total.reclaimed (nat_lt 0 content.zero) (content.copies - 1);
  zero_reclaimed = with_number total.zero_reclaimed (content.zero - 1);
  between = with_content total.between (nat_lt 0 content.zero) (content.holders - 1);
}
