-- The first of some events is possible, or it isn't.
use Rattle.std.proofs.Common.{◌≡◌, ℕ, ◌+◌, true, false, List, ◌∷◌, Some, None, Option, refl}
use Rattle.std.specs.Prelude.{is_some, unwrap_or}
use Rattle.std.specs.Option.{option_map_or}
use Rattle.window_events.specs.Windows.{Mappings, step}
use Rattle.window_events.specs.Played.{refused_from, played}
use Rattle.window_events.specs.declared.event.Event.{Event}

pub refused_on : (n : ℕ) (w : Mappings) (e : Event) (es : List Event) → is_some (step w e) ≡ true → refused_from n w (e ∷ es) ≡ refused_from (n + 1) (unwrap_or (step w e) w) es
refused_on n w e es = pick (step w e) where
  pick : (o : Option Mappings) → is_some o ≡ true → option_map_or (λ after. refused_from (n + 1) after es) o (Some n) ≡ refused_from (n + 1) (unwrap_or o w) es
  pick None h = cc
  pick (Some v) h = refl

pub refused_here : (n : ℕ) (w : Mappings) (e : Event) (es : List Event) → is_some (step w e) ≡ false → refused_from n w (e ∷ es) ≡ Some n
refused_here n w e es = pick (step w e) where
  pick : (o : Option Mappings) → is_some o ≡ false → option_map_or (λ after. refused_from (n + 1) after es) o (Some n) ≡ Some n
  pick None h = refl
  pick (Some v) h = cc

pub played_on : (w : Mappings) (e : Event) (es : List Event) → is_some (step w e) ≡ true → played w (e ∷ es) ≡ played (unwrap_or (step w e) w) es
played_on w e es = pick (step w e) where
  pick : (o : Option Mappings) → is_some o ≡ true → option_map_or (λ after. played after es) o w ≡ played (unwrap_or o w) es
  pick None h = cc
  pick (Some v) h = refl

pub played_here : (w : Mappings) (e : Event) (es : List Event) → is_some (step w e) ≡ false → played w (e ∷ es) ≡ unwrap_or (step w e) w
played_here w e es = pick (step w e) where
  pick : (o : Option Mappings) → is_some o ≡ false → option_map_or (λ after. played after es) o w ≡ unwrap_or o w
  pick None h = refl
  pick (Some v) h = cc
