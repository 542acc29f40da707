-- What the calls of a watch do.
use Rattle.std.specs.Prelude.{◌≡◌, [], ◌∷◌, ◌++◌, All}
use Rattle.page_model.specs.Parts.{Totals}
use Rattle.watched_machine.specs.declared.told.Told.{Told}
use Rattle.watched_machine.specs.declared.watch.Watch.{Watch}
use Rattle.watched_machine.specs.Reports.{StartsWith, NeverFalls, NoneLater, last_of}
use Rattle.watched_machine.specs.Lists.{list_told, told_id, seen, heard, watch_id}

module _ {A : Type 0} where
  -- the watch learned one more list, and nothing else changed
  pub record Hears (before after : Watch A) (t : Told) : Type 0 where
    pub lists : heard after ≡ heard before ++ list_told t ∷ []
    pub reports : seen after ≡ seen before
    pub same : watch_id after ≡ watch_id before

  -- The watch read the last report of a list that begins with all that it saw before and with each list that it learned. In
  -- that list the entry counts never fall, so nothing that it saw or learned of is later than this report
  pub record Reads (before after : Watch A) (r : Totals) : Type 0 where
    pub last : r ≡ last_of (seen after)
    pub earlier : StartsWith (seen after) (seen before)
    pub told : All (StartsWith (seen after)) (heard before)
    pub never_falls : NeverFalls (seen after)
    pub never_older : NoneLater r (seen after)

  -- the `Told` is of the list that the watch has seen, and in it the entry counts never fall
  pub record TellsSeen (w : Watch A) (t : Told) : Type 0 where
    pub list : list_told t ≡ seen w
    pub never_falls : NeverFalls (list_told t)
    pub same : told_id t ≡ watch_id w
