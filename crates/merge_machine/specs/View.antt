-- What a contract sees of a merger.
use Rattle.std.specs.Prelude.{ℕ, List, length}
use Rattle.page_model.specs.Pages.{State}
use Rattle.page_model.specs.declared.hashing.HashFunction.{Ghosts}
use Rattle.page_model.specs.declared.request.Entry.{Entry}
use Rattle.share_rings.specs.declared.merger_end.MergerEnd.{MergerEnd}
use Rattle.merge_core.specs.Shown.{Shown, state_of}
use Rattle.merge_machine.specs.Machines.{opening}
use Rattle.merge_machine.specs.declared.merger.Merger.{Merger}

module _ {H A : Type 0} {ghosts : Ghosts H} where
  -- the merger's ends of the guests' rings, guest 0 first
  abbrev pub ends_of : Merger H A ghosts → List (MergerEnd A)
  ends_of m = m.ends.items

  -- the entries so far
  abbrev pub journal_of : Merger H A ghosts → List Entry
  journal_of m = m.journal.items

  -- how many entries the journal may have
  abbrev pub limit_of : Merger H A ghosts → ℕ
  limit_of m = m.limit

  -- what the core shows
  abbrev pub core_of : Merger H A ghosts → Shown
  core_of m = m.core

  -- the state of memory
  abbrev pub memory_of : Merger H A ghosts → State
  memory_of m = state_of (core_of m)

  -- the machine before its first request
  abbrev pub machine_of : Merger H A ghosts → State
  machine_of m = opening (memory_of m)

  -- how many guests there are
  abbrev pub guest_count : Merger H A ghosts → ℕ
  guest_count m = length (ends_of m)
