-- Events of one page leave what is believed of another.
use Rattle.std.proofs.Common.{◌≡◌, ℕ, Bool, true, false, List, [], ◌∷◌, Some, None, Option, refl, subst}
use Rattle.std.specs.Prelude.{nat_eq, unwrap_or}
use Rattle.std.specs.Option.{option_map_or}
use Rattle.std.proofs.lemmas.Bool.{eqb-true}
use Rattle.window_events.specs.Windows.{Mappings, step}
use Rattle.window_events.specs.Played.{played}
use Rattle.window_events.specs.declared.event.Event.{Event}
use Rattle.page_lender.specs.Events.{Believes, done_events, events_of, is_of}
use Rattle.page_lender.specs.declared.belief.Belief.{Belief}
use Rattle.page_lender.specs.declared.belief.Target.TheVariants.{Frame, Zeros}
use Rattle.page_lender.specs.declared.order.Order.{Order}
use Rattle.page_lender.specs.declared.order.Outcome.{Outcome}
use Rattle.page_lender.specs.declared.order.Outcome.TheVariants.{Done, Lent, Refused, Unknown}
use Rattle.page_lender.proofs.Kept.{kept_by_others}

-- events of other pages than q
abbrev pub Apart : ℕ → List Event → Type 0
Apart q [] = Unit {0}
Apart q (e ∷ es) = (is_of q e ≡ false) × Apart q es

pub apart_keeps : (q : ℕ) (belief : Belief) (es : List Event) (w : Mappings) → Apart q es → Believes belief w q → Believes belief (played w es) q
apart_keeps q belief [] w a b = b
apart_keeps q belief (e ∷ es) w a b = pick (λ next k. apart_keeps q belief es next a.1 k) (step w e) refl where
  pick : ((next : Mappings) → Believes belief next q → Believes belief (played next es) q) → (o : Option Mappings) → step w e ≡ o →
      Believes belief (option_map_or (λ next. played next es) o w) q
  pick again None s = b
  pick again (Some next) s = again next (subst (λ o. Believes belief (unwrap_or o w) q) s (kept_by_others belief w q e a.0 b))

pub differs : (p q : ℕ) → (p ≡ q → ⊥) → nat_eq p q ≡ false
differs p q ne = pick (nat_eq p q) refl where
  pick : (b : Bool) → nat_eq p q ≡ b → b ≡ false
  pick true t = absurd (ne (eqb-true p q t))
  pick false t = refl

done_apart : (p q x : ℕ) (order : Order) → nat_eq p q ≡ false → Apart q (done_events p x order)
done_apart p q x Order.Wait d = tt
done_apart p q x Order.Copy d = tt
done_apart p q x Order.Lend d = tt
done_apart p q x (Order.Hold target) d = (d, tt)
done_apart p q x (Order.Compare (Frame slot n)) d = (d, (d, tt))
done_apart p q x (Order.Compare Zeros) d = (d, tt)
done_apart p q x (Order.Map (Frame slot n)) d = (d, tt)
done_apart p q x (Order.Map Zeros) d = (d, tt)
done_apart p q x (Order.LetGo target) d = (d, tt)
done_apart p q x (Order.TakeHome in_place) d = (d, tt)
done_apart p q x (Order.Release slot) d = (d, tt)

-- the events of one page's outcome are events of that page
pub events_apart : (p q x : ℕ) (order : Order) (outcome : Outcome) (was_done : Bool) → nat_eq p q ≡ false → Apart q (events_of p x order outcome was_done)
events_apart p q x order Done was_done d = done_apart p q x order d
events_apart p q x order (Lent slot n) was_done d = tt
events_apart p q x order Refused was_done d = tt
events_apart p q x order Unknown true d = done_apart p q x order d
events_apart p q x order Unknown false d = tt
