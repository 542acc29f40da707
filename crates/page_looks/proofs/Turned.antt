-- Each page has its turn.
use Rattle.std.proofs.Common.{◌≡◌, ◌∙◌, ℕ, zero, suc, ◌+◌, ◌-◌, ◌*◌, ◌/◌, ◌%◌, ◌<◌, ◌≤◌, Bool, true, false, cond, refl, ap, arith}
use Rattle.std.specs.Prelude.{max, nat_eq}
use Rattle.std.proofs.lemmas.Bool.{eq-eqb}
use Rattle.std.proofs.Math.Nat.{add-mul, add-mul-mod_self_right, mod-eq_of_lt, mod-lt, mod-eq-sub-div-mul, div-mul-le_self}
use Rattle.page_looks.specs.declared.idle.look.LookConfig.{LookConfig}
use Rattle.page_looks.specs.declared.idle.look.PageLooks.{PageLooks}
use Rattle.page_looks.specs.declared.parts.part.Part.{Part}
use Rattle.page_looks.specs.declared.idle.look.TheConstants.{WHOLE_TURNS, TOGETHER}
use Rattle.page_looks.specs.Idle.{is_again}
use Rattle.page_looks.specs.Turns.{power, turns_of, idle_apart, looks_apart, turn_at, EachHasItsTurn}

-- from a number on, one of so many is divided by it
whole : (q a : ℕ) → 1 ≤ a → (q * a + a) % a ≡ 0
whole q a h =
    let is : q * a + a ≡ 0 + (q + 1) * a = omega (arith, add-mul q 1 a) in
    ap (λ n. n % a) is ∙ add-mul-mod_self_right 0 (q + 1) a ∙ mod-eq_of_lt {n = 0} {m = a} (omega (arith, h))

pub found : (at a : ℕ) → 1 ≤ a → (k : ℕ) × ((k < a) × ((at + k) % a ≡ 0))
found at a h = pick (at % a) refl where
  pick : (r : ℕ) → at % a ≡ r → (k : ℕ) × ((k < a) × ((at + k) % a ≡ 0))
  pick zero e = (0, (omega (arith, h), ap (λ n. n % a) (add-zero at) ∙ e)) where
    add-zero : (n : ℕ) → n + 0 ≡ n
    add-zero n = omega arith
  pick (suc r) e =
      let below : at % a < a = mod-lt at {m = a} (omega (arith, h)) in
      let rest : at % a ≡ at - at / a * a = mod-eq-sub-div-mul at a in
      let under : at / a * a ≤ at = div-mul-le_self at a in
      let sum : at + (a - suc r) ≡ at / a * a + a = omega (arith, below, rest, under, e) in
      (a - suc r, (omega (arith, h), ap (λ n. n % a) sum ∙ whole (at / a) a h))

pub idle_some : (config : LookConfig) (part : Part) → 1 ≤ idle_apart config part
idle_some config part = pick part.whole where
  pick : (w : Bool) → 1 ≤ max (cond w (turns_of config * WHOLE_TURNS) (turns_of config)) (part.rest + 1)
  pick true = omega arith
  pick false = omega arith

power_some : (asks : ℕ) → 1 ≤ power asks
power_some asks = pick (nat_eq asks 0) (nat_eq asks 1) (nat_eq asks 2) where
  pick : (a b c : Bool) → 1 ≤ cond a 1 (cond b 2 (cond c 4 8))
  pick true b c = omega arith
  pick false true c = omega arith
  pick false false true = omega arith
  pick false false false = omega arith

pub apart_some : (config : LookConfig) (part : Part) (p : PageLooks) → 1 ≤ looks_apart config part p
apart_some config part p = pick (nat_eq p.looks 0) (is_again p) where
  pick : (b c : Bool) → 1 ≤ cond b 1 (cond c (idle_apart config part) (power p.asks))
  pick true c = omega arith
  pick false true = idle_some config part
  pick false false = power_some p.asks

pub later : (look k row : ℕ) → look + k + row ≡ look + row + k
later look k row = omega arith

pub each_has_its_turn : EachHasItsTurn
each_has_its_turn config part p look number =
    let a : ℕ = looks_apart config part p in
    let f = found (turn_at look number) a (apart_some config part p) in
    (f.0, (f.1.0, eq-eqb _ _ (ap (λ n. n % a) (later look f.0 (number / TOGETHER)) ∙ f.1.1)))
