-- What a contract sees of a merger that publishes its reports, and of a settled machine whose reports are published.
use Rattle.page_model.specs.declared.hashing.HashFunction.{Ghosts}
use Rattle.merge_machine.specs.declared.merger.Merger as machine
use Rattle.watched_machine.specs.declared.publisher.Publisher.{Publisher}
use Rattle.merge_settle.specs.declared.settled.Settled as settle
use Rattle.watched_machine.specs.declared.merger.Merger.{Merger}
use Rattle.watched_machine.specs.declared.settled.Settled.{Settled}

module _ {H A : Type 0} {ghosts : Ghosts H} where
  -- the merger that serves
  abbrev pub merger_in : Merger H A ghosts → machine.Merger H A ghosts
  merger_in m = m.merger

  -- what publishes its reports
  abbrev pub publisher_in : Merger H A ghosts → Publisher A
  publisher_in m = m.publisher

  -- the settled machine
  abbrev pub settled_in : Settled H A ghosts → settle.Settled H A ghosts
  settled_in s = s.settled

  -- what published its reports
  abbrev pub settled_publisher : Settled H A ghosts → Publisher A
  settled_publisher s = s.publisher
