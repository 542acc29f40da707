-- What a contract sees of a publisher, of a watch, and of a `Told`.
--
-- A publisher's log is a book of `logbook`. Of what was told and seen there are only tokens, and each says that this book has
-- reached this list: so nobody can tell, or have seen, a list that is not a front of the publisher's log.
use Rattle.std.specs.Prelude.{List}
use Rattle.logbook.specs.Pages.{Book}
use Rattle.page_model.specs.Parts.{Totals}
use Rattle.watched_machine.specs.declared.told.Told.{Told}
use Rattle.watched_machine.specs.declared.publisher.Publisher.{Publisher}
use Rattle.watched_machine.specs.declared.watch.Watch.{Watch}

-- the list that it says was published
abbrev pub list_told : Told → List Totals
list_told t = t.history.log

-- whose publisher's list it is
abbrev pub told_id : Told → Book
told_id t = t.history.book

module _ {A : Type 0} where
  -- all reports that were published, in order
  abbrev pub published : Publisher A → List Totals
  published p = list_told p.told

  -- which publisher it is
  abbrev pub publisher_id : Publisher A → Book
  publisher_id p = told_id p.told

  -- the reports that the watch saw, in order
  abbrev pub seen : Watch A → List Totals
  seen w = list_told w.saw

  -- the lists that it learned, in order
  abbrev pub heard : Watch A → List (List Totals)
  heard w = w.heard.log

  -- whose watch it is
  abbrev pub watch_id : Watch A → Book
  watch_id w = told_id w.saw
