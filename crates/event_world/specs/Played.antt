-- A world of events with a fixed number of guests.
use Rattle.std.specs.Prelude.{◌≡◌, ℕ, List, slice_index_or}
use Rattle.page_model.specs.Events as events
use Rattle.page_model.specs.Events.{no_traffic}
use Rattle.page_model.specs.declared.event.Event.{Event}
use Rattle.page_model.specs.declared.event.Event.TheVariants.{Send, Take, Give, Get}
use Rattle.page_model.specs.declared.request.Entry.{Entry}

-- the traffic of each guest, guest 0 first, and the merger's journal
pub record Played : Type 0 where
  pub guests : List events.Traffic
  pub journal : List Entry

-- the world with this traffic and journal, and no traffic of other guests
abbrev pub world_of : Played → events.World
world_of p = record { traffic = λ guest. slice_index_or p.guests guest no_traffic; journal = p.journal }

-- two worlds with the same traffic of each guest and the same journal
pub record AreAlike (v w : events.World) : Type 0 where
  pub traffic : (guest : ℕ) → v.traffic guest ≡ w.traffic guest
  pub journal : v.journal ≡ w.journal

-- the guest whose event this is
abbrev pub guest_of : Event → ℕ
guest_of (Send guest r) = guest
guest_of (Take guest) = guest
guest_of (Give guest) = guest
guest_of (Get guest) = guest
