-- What a look leaves out.
use Rattle.std.proofs.Common.{◌≡◌, ◌∙◌, ℕ, zero, suc, ◌+◌, ◌%◌, Bool, true, false, cond, not, ◌&&◌, refl, ap, arith}
use Rattle.std.specs.Prelude.{◌||◌, nat_eq, nat_le}
use Rattle.std.proofs.lemmas.Bool.{eq-eqb, ne_eqb}
use Rattle.page_looks.specs.declared.idle.look.LookConfig.{LookConfig}
use Rattle.page_looks.specs.declared.idle.look.PageLooks.{PageLooks}
use Rattle.page_looks.specs.declared.parts.part.Part.{Part}
use Rattle.page_looks.specs.declared.idle.look.TheConstants.{STILL, ASKS_MOST}
use Rattle.page_looks.specs.Idle.{is_idle, is_again}
use Rattle.page_looks.specs.Turns.{power, idle_apart, looks_apart, turn_at, is_turn_of_idle}
use Rattle.page_looks.specs.Samples.{is_in_sample, LeftOutHasNoTurn, EachIsSampled}
use Rattle.page_looks.proofs.Turned.{found, later}

-- a page that is idle was looked at
pub idle_is_not_new : (n : ℕ) → nat_le 3 n ≡ true → nat_eq n 0 ≡ false
idle_is_not_new zero e = cc
idle_is_not_new (suc n) e = ne_eqb (suc n) 0 (λ f. absurd (omega (arith, f)))

pub again_is_idle : (p : PageLooks) → is_again p ≡ true → is_idle p ≡ true
again_is_idle p e = pick (nat_le STILL p.looks) (nat_le ASKS_MOST p.asks) e where
  pick : (a b : Bool) → (a && b) ≡ true → a ≡ true
  pick true b f = refl
  pick false b f = f

-- such a page has the turns of idle ones
pub again_apart : (config : LookConfig) (part : Part) (p : PageLooks) → is_again p ≡ true → looks_apart config part p ≡ idle_apart config part
again_apart config part p e =
    ap (λ b. cond b 1 (cond (is_again p) (idle_apart config part) (power p.asks))) (idle_is_not_new p.looks (again_is_idle p e))
    ∙ ap (λ b. cond b (idle_apart config part) (power p.asks)) e

-- what it takes to be left out
left_by : (turn again sample : Bool) → not (turn || not again || sample) ≡ true → (turn ≡ false) × (again ≡ true)
left_by true again sample e = cc
left_by false true sample e = (refl, refl)
left_by false false sample e = cc

pub left_out_has_no_turn : LeftOutHasNoTurn
left_out_has_no_turn config part p look number e =
    let by = left_by (is_turn_of_idle config part look number) (is_again p) (is_in_sample part look number) e in
    (again_is_idle p by.1, ap (λ a. nat_eq (turn_at look number % a) 0) (again_apart config part p by.1) ∙ by.0)

pub each_is_sampled : EachIsSampled
each_is_sampled part look number =
    let f = found (look + number) (part.rest + 1) (omega arith) in
    (f.0, (f.1.0, eq-eqb _ _ (ap (λ n. n % (part.rest + 1)) (later look f.0 number) ∙ f.1.1)))
