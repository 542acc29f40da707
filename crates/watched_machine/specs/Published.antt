-- What the calls of a publisher do.
use Rattle.std.specs.Prelude.{ℕ, ◌≡◌, ◌≤◌, ◌<◌, ◌^◌, Bool, [], ◌∷◌, ◌++◌, length, Contains, IsTrue, Decides}
use Rattle.page_model.specs.Parts.{Totals}
use Rattle.watched_machine.specs.declared.told.Told.{Told}
use Rattle.watched_machine.specs.declared.publisher.Publisher.{Publisher}
use Rattle.watched_machine.specs.declared.publisher.PublishFault.{PublishFault}
use Rattle.watched_machine.specs.declared.publisher.PublishFault.TheVariants.{Full, OutOfMemory}
use Rattle.watched_machine.specs.declared.watch.Watch.{Watch}
use Rattle.watched_machine.specs.Reports.{StartsWith, NeverFalls, last_of}
use Rattle.watched_machine.specs.Lists.{published, publisher_id, list_told, told_id, seen, heard, watch_id}

-- the most reports that a publisher publishes
abbrev pub most_published : ℕ
most_published = 2 ^ 62

module _ {A : Type 0} where
  -- one more report may be published
  abbrev pub HasRoom : Publisher A → Type 0
  HasRoom p = length (published p) < most_published

  -- full exactly where there is no room, and out of memory only where there is
  abbrev pub RefusedFor : Publisher A → PublishFault → Type 0
  RefusedFor p Full = most_published ≤ length (published p)
  RefusedFor p OutOfMemory = HasRoom p

  -- the `Told` is of the whole list as it is, and in it the entry counts never fall
  pub record TellsAll (p : Publisher A) (t : Told) : Type 0 where
    pub list : list_told t ≡ published p
    pub never_falls : NeverFalls (list_told t)
    pub same : told_id t ≡ publisher_id p

  -- the report comes after all that were published before, and the `Told` is of the whole list
  pub record Publishes (before after : Publisher A) (r : Totals) (t : Told) : Type 0 where
    pub list : published after ≡ published before ++ r ∷ []
    pub told : TellsAll after t

  -- nothing was published
  pub record Unchanged (before after : Publisher A) : Type 0 where
    pub list : published after ≡ published before
    pub same : publisher_id after ≡ publisher_id before

  -- the watch has seen nothing yet, and has learned all that was published
  pub record IsNewWatch (p : Publisher A) (w : Watch A) : Type 0 where
    pub reports : seen w ≡ []
    pub lists : heard w ≡ published p ∷ []
    pub same : watch_id w ≡ publisher_id p

  -- Yes, where the told list is no longer than the published one. It is then a front of it, and its last report was published
  pub record Confirms (p : Publisher A) (t : Told) (answer : Bool) : Type 0 where
    pub exact : Decides answer (length (list_told t) ≤ length (published p))
    pub front : IsTrue answer → StartsWith (published p) (list_told t)
    pub last : IsTrue answer → 0 < length (list_told t) → Contains (published p) (last_of (list_told t))
