-- Events as a record of what a monitor did: they are played up to the first that isn't possible.
use Rattle.std.specs.Prelude.{ℕ, ◌+◌, List, [], ◌∷◌, Option, Some, None}
use Rattle.std.specs.Option.{option_map_or}
use Rattle.window_events.specs.Windows.{Mappings, step}
use Rattle.window_events.specs.declared.event.Event.{Event}

-- the place of the first event that isn't possible, where the first one has place n
abbrev pub refused_from : ℕ → Mappings → List Event → Option ℕ
refused_from n w [] = None
refused_from n w (e ∷ es) = option_map_or (λ after. refused_from (n + 1) after es) (step w e) (Some n)

-- the mappings before that event, or after all
abbrev pub played : Mappings → List Event → Mappings
played w [] = w
played w (e ∷ es) = option_map_or (λ after. played after es) (step w e) w
