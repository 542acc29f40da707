-- What a contract sees of a settled machine.
use Rattle.std.specs.Prelude.{List}
use Rattle.page_model.specs.declared.hashing.HashFunction.{Ghosts}
use Rattle.page_model.specs.declared.request.Entry.{Entry}
use Rattle.share_rings.specs.declared.closed_port.ClosedPort.{ClosedPort}
use Rattle.merge_core.specs.Shown.{Shown}
use Rattle.merge_machine.specs.View.{journal_of, core_of}
use Rattle.merge_settle.specs.declared.settled.Settled.{Settled}

module _ {H A : Type 0} {ghosts : Ghosts H} where
  -- the whole journal
  abbrev pub settled_journal : Settled H A ghosts → List Entry
  settled_journal s = journal_of s.merger

  -- the closed ports, guest 0 first
  abbrev pub settled_ports : Settled H A ghosts → List (ClosedPort A)
  settled_ports s = s.ports.items

  -- what the core shows
  abbrev pub settled_core : Settled H A ghosts → Shown
  settled_core s = core_of s.merger
