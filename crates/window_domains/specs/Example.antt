-- Two clients lend a page each with the same bytes to a domain of one machine, and both pages come to show one frame.
use Rattle.std.specs.Prelude.{ℕ, ◌+◌, List, [], ◌∷◌, Some, None}
use Rattle.share_domain.specs.declared.client.Presence.TheVariants.{In}
use Rattle.share_domain.specs.declared.holding.Slot.{Slot}
use Rattle.share_domain.specs.declared.holding.Loan.{Loan}
use Rattle.share_domain.specs.Domains.{DomainView, with_machines}
use Rattle.window_events.specs.declared.event.Event.{Event}
use Rattle.window_events.specs.declared.event.Event.TheVariants.{Guard, Copy, Lend, Map}
use Rattle.window_events.specs.Windows.{Mappings, step, run, start}

-- the bytes of both pages; the number of some bytes is their sum here
abbrev pub same_bytes : List ℕ
same_bytes = 3 ∷ 4 ∷ []

-- a machine with two slots and three frames, and two clients that are in
abbrev pub no_loan : DomainView
no_loan = record {
  salt = 0;
  frames = 3;
  machines = record { slots = None ∷ None ∷ []; frames = None ∷ None ∷ None ∷ [] } ∷ [];
  clients = In ∷ In ∷ [];
}

-- client 0 has slot 0, and then client 1 has slot 1, too, with the same frame
abbrev pub one_loan : DomainView
one_loan = with_machines no_loan (record {
  slots = Some (record { client = 0; frame = 1 }) ∷ None ∷ [];
  frames = None ∷ Some same_bytes ∷ None ∷ [];
} ∷ [])

abbrev pub two_loans : DomainView
two_loans = with_machines no_loan (record {
  slots = Some (record { client = 0; frame = 1 }) ∷ Some (record { client = 1; frame = 1 }) ∷ [];
  frames = None ∷ Some same_bytes ∷ None ∷ [];
} ∷ [])

abbrev pub slot_of : ℕ → Slot
slot_of ppn = record { machine = 0; ppn = ppn }

-- what the calls answer: the frame, and how many slots have it
abbrev pub loan_of : ℕ → Loan
loan_of ppn = record { slot = slot_of ppn; frame = 1; sharers = ppn + 1 }

-- the same as events: each page is guarded, copied, lent and mapped
abbrev pub both_lent : List Event
both_lent = Guard 0 ∷ Copy 0 ∷ Lend 0 1 ∷ Map 0 ∷ Guard 1 ∷ Copy 1 ∷ Lend 1 1 ∷ Map 1 ∷ []

abbrev pub both_shown : Mappings
both_shown = run step (start (7 ∷ 7 ∷ []) (0 ∷ 0 ∷ 0 ∷ [])) both_lent
