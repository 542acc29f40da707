-- What a rest is.
use Rattle.std.proofs.Common.{◌≡◌, ◌∙◌, ℕ, ◌+◌, ◌-◌, ◌%◌, ◌≤◌, Bool, true, false, cond, [], ◌∷◌, ap, arith}
use Rattle.std.specs.Prelude.{nat_eq}
use Rattle.std.proofs.lemmas.Bool.{lt-leb, eq-eqb}
use Rattle.page_looks.specs.declared.idle.look.LookConfig.{LookConfig}
use Rattle.page_looks.specs.declared.parts.part.Part.{Part}
use Rattle.page_looks.specs.Rests.{is_calm, longer, rest_then, finds, wakes, turned, RestsWithin, ChangesEndRests, AllAreSampled, EachIsGlancedAt}
use Rattle.page_looks.proofs.Sampled.{each_is_sampled}
use Rattle.page_looks.proofs.Went.{idle_is_glanced_at}

rest_within : (config : LookConfig) (part : Part) (calm : Bool) → part.rest ≤ config.rest_most → (rest_then config part calm).0 ≤ config.rest_most
rest_within config part false h = omega arith
rest_within config part true h = pick (nat_eq part.left 0) where
  pick : (b : Bool) → (cond {A = ℕ × ℕ} b (longer part.rest config.rest_most, longer part.rest config.rest_most) (part.rest, part.left - 1)).0 ≤ config.rest_most
  pick true = omega arith
  pick false = h

pub rests_within : RestsWithin
rests_within config part [] h = h
rests_within config part (finds changes own ∷ xs) h =
    rest_within config (turned config part xs) (is_calm (turned config part xs) changes own) (rests_within config part xs h)
rests_within config part (wakes ∷ xs) h = omega arith

pub changes_end_rests : ChangesEndRests
changes_end_rests config part changes own h =
    let not_calm : is_calm part changes own ≡ false = lt-leb _ _ h in
    ap (λ b. (rest_then config part b).0) not_calm

by_one : (n : ℕ) → n % 1 ≡ 0
by_one n = omega arith

pub all_are_sampled : AllAreSampled
all_are_sampled part look number e = eq-eqb _ _ (ap (λ r. (look + number) % (r + 1)) e ∙ by_one (look + number))

pub each_is_glanced_at : EachIsGlancedAt
each_is_glanced_at config part p look number i =
    let s = each_is_sampled part look number in
    (s.0, (s.1.0, (s.1.1, idle_is_glanced_at config part p (look + s.0) number i s.1.1)))
