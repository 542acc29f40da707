use Rattle.std.proofs.Common.{◌≡◌, drop}
use Rattle.std.specs.Prelude.{slice_get}
use Rattle.page_model.specs.Journal.{places_from}
use Rattle.event_world.proofs.looks.place_of.Given as goal

-- the place looked for is the place after left entries of the rest
abbrev pub invariant-loop-place : goal.invariant-loop-place
invariant-loop-place l = slice_get (places_from l.place l.guest (drop l.place l.journal)) l.left ≡ slice_get (places_from 0 l.guest l.journal) l.after
