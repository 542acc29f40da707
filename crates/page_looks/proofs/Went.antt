-- What a look does with a page.
use Rattle.std.proofs.Common.{◌≡◌, ◌∙◌, ℕ, ◌+◌, ◌-◌, ◌*◌, ◌/◌, ◌%◌, ◌≤◌, Bool, true, false, cond, not, ◌&&◌, refl, ap, sym, arith}
use Rattle.std.specs.Prelude.{nat_eq, nat_lt}
use Rattle.std.proofs.lemmas.Bool.{eq-eqb}
use Rattle.std.proofs.Math.Nat.{mul-mod_left, mul-div_left, mod-eq-sub-div-mul, div-mul-le_self, mul_assoc, mul_comm, mul-le-mul}
use Rattle.page_looks.specs.declared.idle.look.Act.{Act}
use Rattle.page_looks.specs.declared.idle.look.Act.TheVariants.{Pass, Meet, Keep, Read}
use Rattle.page_looks.specs.declared.idle.look.PageLooks.{PageLooks}
use Rattle.page_looks.specs.declared.parts.part.Part.{Part}
use Rattle.page_looks.specs.declared.idle.look.TheConstants.{PASSING_EACH, READ_EACH_OVER, TOGETHER}
use Rattle.page_looks.specs.Idle.{is_again}
use Rattle.page_looks.specs.Turns.{turn_at, looks_apart, has_turn, EachIsNoted}
use Rattle.page_looks.specs.Ways.{read_each, is_kept, turn_of, act_of, glances, way, ChangesAreMet, IdleIsGlancedAt, GlancesBeforeReads, OverIsNeverMet, KeptIsIdle, NewIsMet, EachIsRead}
use Rattle.page_looks.proofs.Sampled.{idle_is_not_new, again_is_idle}
use Rattle.page_looks.proofs.Turned.{found, apart_some, later}

pub changes_are_met : ChangesAreMet
changes_are_met w e = ap (λ b. cond (b && true) Meet w.act) e

-- what comes of a look, by what it depends on
abbrev pub acts : Bool → Bool → Bool → Act
acts fresh turn kept = cond fresh Meet (cond (not turn) Pass (cond kept Keep Read))

pub idle_is_glanced_at : IdleIsGlancedAt
idle_is_glanced_at config part p look number i s =
    let old : (nat_eq p.looks 0 && true) ≡ false = ap (λ b. b && true) (idle_is_not_new p.looks i) in
    pick (nat_eq p.looks 0 && true) (has_turn config part p look number) (is_kept part p false (turn_of config part p look number)) old where
      pick : (fresh turn kept : Bool) → fresh ≡ false → glances part p (acts fresh turn kept) look number ≡ true
      pick true turn kept e = cc
      pick false false kept e = i
      pick false true true e = s
      pick false true false e = refl

reads_glance : (part : Part) (p : PageLooks) (look number : ℕ) (a : Act) → a ≡ Read → glances part p a look number ≡ true
reads_glance part p look number Pass e = cc
reads_glance part p look number Meet e = cc
reads_glance part p look number Keep e = cc
reads_glance part p look number Read e = refl

pub glances_before_reads : GlancesBeforeReads
glances_before_reads config part p look number e = reads_glance part p look number (act_of config part p false look number) e

-- over a frame a page is never new
over_acts : (b turn kept : Bool) → acts (b && false) turn kept ≡ Meet → ⊥
over_acts true false kept e = cc
over_acts true true true e = cc
over_acts true true false e = cc
over_acts false false kept e = cc
over_acts false true true e = cc
over_acts false true false e = cc

pub over_is_never_met : OverIsNeverMet
over_is_never_met config part p look number same =
    (refl, λ e. over_acts (nat_eq p.looks 0) (has_turn config part p look number) (is_kept part p true (turn_of config part p look number)) e)

keeps_by : (fresh turn kept glance same : Bool) → cond (glance && not same) Meet (acts fresh turn kept) ≡ Keep → kept ≡ true
keeps_by fresh turn true glance same e = refl
keeps_by true turn false true true e = cc
keeps_by true turn false true false e = cc
keeps_by true turn false false same e = cc
keeps_by false true false true true e = cc
keeps_by false true false true false e = cc
keeps_by false true false false same e = cc
keeps_by false false false true true e = cc
keeps_by false false false true false e = cc
keeps_by false false false false same e = cc

and_left : (a b : Bool) → (a && b) ≡ true → a ≡ true
and_left true b e = refl
and_left false b e = e

pub kept_is_idle : KeptIsIdle
kept_is_idle config part p over look number same e =
    let kept = keeps_by (nat_eq p.looks 0 && not over) (has_turn config part p look number) (is_kept part p over (turn_of config part p look number)) (way config part p over look number).glances same e in
    again_is_idle p (and_left (is_again p) _ kept)

pub new_is_met : NewIsMet
new_is_met config part p look number same e =
    let fresh : (nat_eq p.looks 0 && true) ≡ true = ap (λ n. nat_eq n 0 && true) e in
    pick (nat_eq p.looks 0 && true) fresh where
      pick : (b : Bool) → b ≡ true →
          cond (glances part p (acts b (has_turn config part p look number) (is_kept part p false (turn_of config part p look number))) look number && not same) Meet
          (acts b (has_turn config part p look number) (is_kept part p false (turn_of config part p look number))) ≡ Meet
      pick true f = refl
      pick false f = cc

each_some : (part : Part) (over : Bool) → 1 ≤ read_each part over
each_some part false = omega arith
each_some part true = pick part.is_still where
  pick : (b : Bool) → 1 ≤ cond b READ_EACH_OVER 1
  pick true = omega arith
  pick false = omega arith

-- what a product divides, both of its factors divide, one after the other
in_turn : (n a e : ℕ) → 1 ≤ a → n % (a * e) ≡ 0 → (q : ℕ) × (n ≡ q * e * a)
in_turn n a e h z =
    let rest : n % (a * e) ≡ n - n / (a * e) * (a * e) = mod-eq-sub-div-mul n (a * e) in
    let under : n / (a * e) * (a * e) ≤ n = div-mul-le_self n (a * e) in
    let is : n ≡ n / (a * e) * (a * e) = omega (arith, rest, under, z) in
    (n / (a * e), is ∙ ap (λ m. n / (a * e) * m) (mul_comm a e) ∙ sym (mul_assoc (n / (a * e)) e a))

turn_is : (n a q e : ℕ) → 1 ≤ a → n ≡ q * e * a → n % a ≡ 0
turn_is n a q e h i = ap (λ m. m % a) i ∙ mul-mod_left (q * e) a

read_is : (n a q e : ℕ) → 1 ≤ a → n ≡ q * e * a → n / a % e ≡ 0
read_is n a q e h i = ap (λ m. m / a % e) i ∙ ap (λ m. m % e) (mul-div_left (q * e) {n = a} (omega (arith, h))) ∙ mul-mod_left q e

product_some : (a e : ℕ) → 1 ≤ a → 1 ≤ e → 1 ≤ a * e
product_some a e h k = mul-le-mul {n₁ = 1} {m₁ = 1} {n₂ = a} {m₂ = e} h k

pub each_is_read : EachIsRead
each_is_read config part p over look number old =
    let at : ℕ = turn_at look number in
    let a : ℕ = looks_apart config part p in
    let e : ℕ = read_each part over in
    let some : 1 ≤ a = apart_some config part p in
    let f = found at (a * e) (product_some a e some (each_some part over)) in
    let moved : turn_at (look + f.0) number ≡ at + f.0 = later look f.0 (number / TOGETHER) in
    let q = in_turn (at + f.0) a e some f.1.1 in
    let turn : has_turn config part p (look + f.0) number ≡ true = eq-eqb _ _ (ap (λ n. n % a) moved ∙ turn_is (at + f.0) a q.0 e some q.1) in
    let reads : nat_eq (turn_at (look + f.0) number / a % e) 0 ≡ true = eq-eqb _ _ (ap (λ n. n / a % e) moved ∙ read_is (at + f.0) a q.0 e some q.1) in
    let kept : is_kept part p over (turn_of config part p (look + f.0) number) ≡ false = ap (λ b. is_again p && not b) reads ∙ none (is_again p) in
    (f.0, (f.1.0, pick (nat_eq p.looks 0 && not over) (has_turn config part p (look + f.0) number) (is_kept part p over (turn_of config part p (look + f.0) number)) (way config part p over (look + f.0) number).glances old turn kept))
  where
    none : (b : Bool) → (b && false) ≡ false
    none true = refl
    none false = refl

    pick : (fresh turn kept glance : Bool) → fresh ≡ false → turn ≡ true → kept ≡ false → cond (glance && false) Meet (acts fresh turn kept) ≡ Read
    pick true turn kept glance f t k = cc
    pick false false kept glance f t k = cc
    pick false true true glance f t k = cc
    pick false true false true f t k = refl
    pick false true false false f t k = refl

pub each_is_noted : EachIsNoted
each_is_noted config part p look number =
    let at : ℕ = turn_at look number in
    let a : ℕ = looks_apart config part p in
    let some : 1 ≤ a = apart_some config part p in
    let f = found at (a * PASSING_EACH) (product_some a PASSING_EACH some (omega arith)) in
    let moved : turn_at (look + f.0) number ≡ at + f.0 = later look f.0 (number / TOGETHER) in
    let q = in_turn (at + f.0) a PASSING_EACH some f.1.1 in
    let turn : has_turn config part p (look + f.0) number ≡ true = eq-eqb _ _ (ap (λ n. n % a) moved ∙ turn_is (at + f.0) a q.0 PASSING_EACH some q.1) in
    let noted : nat_eq (turn_at (look + f.0) number / a % PASSING_EACH) 0 ≡ true = eq-eqb _ _ (ap (λ n. n / a % PASSING_EACH) moved ∙ read_is (at + f.0) a q.0 PASSING_EACH some q.1) in
    (f.0, (f.1.0, (turn, (ap (λ b. part.whole && nat_lt 0 p.asks && not b) noted ∙ off part.whole (nat_lt 0 p.asks)))))
  where
    off : (a b : Bool) → (a && b && false) ≡ false
    off true true = refl
    off true false = refl
    off false b = refl
