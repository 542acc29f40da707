-- How far looks are apart.
use Rattle.std.proofs.Common.{◌≡◌, ◌∙◌, ℕ, zero, suc, ◌+◌, ◌-◌, ◌*◌, ◌/◌, ◌<◌, ◌≤◌, Bool, true, false, cond, ◌&&◌, ◌||◌, List, [], ◌∷◌, refl, ap, arith}
use Rattle.std.specs.Prelude.{max, min, nat_le, nat_lt}
use Rattle.std.proofs.lemmas.Bool.{leb-true, le-leb, lt-leb, lt-ltb, ltb-true, ltb-false, and_parts}
use Rattle.look_tasks.specs.declared.times.LookFinds.{LookFinds}
use Rattle.look_tasks.specs.declared.times.LookTimes.{LookTimes}
use Rattle.look_tasks.specs.declared.times.TheConstants.{BUSY_PART, CALM_LOOKS, CALM_PART, EAGER_LOOKS, LONGER_PART, MUCH, MUCH_PART}
use Rattle.look_tasks.specs.Times.{is_calm_look, is_eager, is_much, calm_then, longer, next_ms, made_eager}
use Rattle.look_tasks.specs.TimeLaws.{Happened, news, finds, after, StaysInBounds, lending, many, EagerComesSooner, calmly, AllCalm, none, more, CalmComesLater}

-- ---- bounds ----

same_period : (period : ℕ) (xs : List Happened) → (after period xs).period_ms ≡ period
same_period period [] = refl
same_period period (news ∷ xs) = same_period period xs
same_period period (finds f may_lend ∷ xs) = same_period period xs

longer_most : (t : LookTimes) → t.now_ms ≤ 2 * t.period_ms + t.period_ms / 4 → longer t ≤ 2 * t.period_ms + t.period_ms / 4
longer_most t h = pick (nat_lt t.now_ms (t.period_ms * CALM_PART)) refl where
  pick : (b : Bool) → nat_lt t.now_ms (t.period_ms * CALM_PART) ≡ b → cond b (t.now_ms + t.period_ms / LONGER_PART) t.now_ms ≤ 2 * t.period_ms + t.period_ms / 4
  pick true e = let l : t.now_ms < t.period_ms * 2 = ltb-true t.now_ms (t.period_ms * CALM_PART) e in omega (arith, l)
  pick false e = h

next_most : (t : LookTimes) (f : LookFinds) (may_lend : Bool) → t.now_ms ≤ 2 * t.period_ms + t.period_ms / 4 → next_ms t f may_lend ≤ 2 * t.period_ms + t.period_ms / 4
next_most t f may_lend h = pick (longer_most t h) (is_eager t may_lend || is_much f) (nat_le CALM_LOOKS (calm_then t f)) where
  pick :
      longer t ≤ 2 * t.period_ms + t.period_ms / 4 → (b c : Bool) →
      cond b (t.period_ms / BUSY_PART) (cond c (longer t) t.period_ms) ≤ 2 * t.period_ms + t.period_ms / 4
  pick l true c = omega arith
  pick l false true = l
  pick l false false = omega arith

bounded : (period : ℕ) (xs : List Happened) → 1 ≤ period → (1 ≤ (after period xs).now_ms) × ((after period xs).now_ms ≤ 2 * period + period / 4)
bounded period [] h = (h, omega arith)
bounded period (news ∷ xs) h = bounded period xs h
bounded period (finds f may_lend ∷ xs) h =
    let p : (after period xs).period_ms ≡ period = same_period period xs in
    let b : (after period xs).now_ms ≤ 2 * period + period / 4 = (bounded period xs h).1 in
    let n : next_ms (after period xs) f may_lend ≤ 2 * (after period xs).period_ms + (after period xs).period_ms / 4 =
    next_most (after period xs) f may_lend (omega (arith, b, p)) in
    (omega arith, omega (arith, n, p, h))

pub stays_in_bounds : StaysInBounds
stays_in_bounds = bounded

-- ---- after something new ----

one_less : (e : ℕ) → 1 ≤ e → cond (nat_lt 0 e) (e - 1) e ≡ e - 1
one_less e h = ap (λ b. cond b (e - 1) e) (lt-ltb 0 e h)

eager_left : (t : LookTimes) (fs : List LookFinds) → many fs ≤ EAGER_LOOKS → (lending (made_eager t) fs).eager + many fs ≡ EAGER_LOOKS
eager_left t [] h = refl
eager_left t (f ∷ fs) h =
    let left : (lending (made_eager t) fs).eager + many fs ≡ EAGER_LOOKS = eager_left t fs (omega (arith, h)) in
    let one = one_less (lending (made_eager t) fs).eager (omega (arith, h, left)) in
    omega (arith, h, left, one)

lending_period : (t : LookTimes) (fs : List LookFinds) → (lending t fs).period_ms ≡ t.period_ms
lending_period t [] = refl
lending_period t (f ∷ fs) = lending_period t fs

pub eager_comes_sooner : EagerComesSooner
eager_comes_sooner t f fs h =
    let at = lending (made_eager t) fs in
    let left : at.eager + many fs ≡ EAGER_LOOKS = eager_left t fs (omega (arith, h)) in
    let some : nat_lt 0 at.eager ≡ true = lt-ltb 0 at.eager (omega (arith, h, left)) in
    ap (λ b. max (cond (b || is_much f) (at.period_ms / BUSY_PART) (cond (nat_le CALM_LOOKS (calm_then at f)) (longer at) at.period_ms)) 1) some
    ∙ ap (λ p. max (p / BUSY_PART) 1) (lending_period (made_eager t) fs)

-- ---- calm ----

calm_is_not_much : (f : LookFinds) → is_calm_look f ≡ true → is_much f ≡ false
calm_is_not_much f e =
    let little : f.found ≤ 4 = leb-true f.found 4 (and_parts (nat_le f.found 4) (nat_le (f.asked - f.again) 32) e).0 in
    ap (λ b. b && nat_le (f.pages / MUCH_PART) f.found) (lt-leb MUCH f.found (omega (arith, little)))

calm_is : (t : LookTimes) (f : LookFinds) → is_calm_look f ≡ true → calm_then t f ≡ min (t.calm + 1) CALM_LOOKS
calm_is t f e = ap (λ b. cond b (min (t.calm + 1) CALM_LOOKS) 0) e

calm_grows : (may_lend : Bool) (t : LookTimes) (fs : List LookFinds) → AllCalm fs → min (many fs) 30 ≤ (calmly may_lend t fs).calm
calm_grows may_lend t [] none = omega arith
calm_grows may_lend t (f ∷ fs) (more e es) = omega (arith, calm_grows may_lend t fs es, calm_is (calmly may_lend t fs) f e)

-- where nothing is new, no look is eager
not_eager : (may_lend : Bool) (t : LookTimes) → t.eager ≡ 0 → is_eager t may_lend ≡ false
not_eager false t quiet = refl
not_eager true t quiet = ap (λ e. nat_lt 0 e) quiet

still_none : (may_lend : Bool) (t : LookTimes) (fs : List LookFinds) → t.eager ≡ 0 → (calmly may_lend t fs).eager ≡ 0
still_none may_lend t [] quiet = quiet
still_none may_lend t (f ∷ fs) quiet = pick (still_none may_lend t fs quiet) (is_eager (calmly may_lend t fs) may_lend) where
  pick : (calmly may_lend t fs).eager ≡ 0 → (b : Bool) → cond b ((calmly may_lend t fs).eager - 1) (calmly may_lend t fs).eager ≡ 0
  pick before true = omega (arith, before)
  pick before false = before

next_calm : (may_lend : Bool) (t : LookTimes) (f : LookFinds) → t.eager ≡ 0 → is_calm_look f ≡ true → 29 ≤ t.calm → next_ms t f may_lend ≡ longer t
next_calm may_lend t f quiet e h =
    ap (λ b. cond (b || is_much f) (t.period_ms / BUSY_PART) (cond (nat_le CALM_LOOKS (calm_then t f)) (longer t) t.period_ms)) (not_eager may_lend t quiet)
    ∙ ap (λ b. cond b (t.period_ms / BUSY_PART) (cond (nat_le CALM_LOOKS (calm_then t f)) (longer t) t.period_ms)) (calm_is_not_much f e)
    ∙ ap (λ b. cond b (longer t) t.period_ms) (le-leb CALM_LOOKS (calm_then t f) (omega (arith, calm_is t f e, h)))

longer_grows : (t : LookTimes) → min (2 * t.period_ms) (t.now_ms + t.period_ms / 4) ≤ longer t
longer_grows t = pick (nat_lt t.now_ms (t.period_ms * CALM_PART)) refl where
  pick : (b : Bool) → nat_lt t.now_ms (t.period_ms * CALM_PART) ≡ b → min (2 * t.period_ms) (t.now_ms + t.period_ms / 4) ≤ cond b (t.now_ms + t.period_ms / LONGER_PART) t.now_ms
  pick true e = omega arith
  pick false e = let l : t.period_ms * 2 ≤ t.now_ms = ltb-false t.now_ms (t.period_ms * CALM_PART) e in omega (arith, l)

calm_period : (may_lend : Bool) (t : LookTimes) (fs : List LookFinds) → (calmly may_lend t fs).period_ms ≡ t.period_ms
calm_period may_lend t [] = refl
calm_period may_lend t (f ∷ fs) = calm_period may_lend t fs

-- a quarter for each look from the 30th on
abbrev over : List LookFinds → ℕ → ℕ
over [] q = 0
over (f ∷ fs) q = cond (nat_le 29 (many fs)) (over fs q + q) 0

one_climb :
    (may_lend : Bool) (t : LookTimes) (f : LookFinds) (q n count : ℕ) → t.eager ≡ 0 → is_calm_look f ≡ true → t.period_ms / 4 ≡ q →
    min (2 * t.period_ms) n ≤ t.now_ms → min count 30 ≤ t.calm → (b : Bool) → nat_le 29 count ≡ b →
    min (2 * t.period_ms) (cond b (n + q) 0) ≤ next_ms t f may_lend
one_climb may_lend t f q n count quiet e is before calm false at = omega arith
one_climb may_lend t f q n count quiet e is before calm true at =
    let enough : 29 ≤ count = leb-true 29 count at in
    let next : next_ms t f may_lend ≡ longer t = next_calm may_lend t f quiet e (omega (arith, enough, calm)) in
    omega (arith, before, is, next, longer_grows t)

climbs :
    (may_lend : Bool) (t : LookTimes) (fs : List LookFinds) → t.eager ≡ 0 → AllCalm fs →
    min (2 * t.period_ms) (over fs (t.period_ms / 4)) ≤ (calmly may_lend t fs).now_ms
climbs may_lend t [] quiet none = omega arith
climbs may_lend t (f ∷ fs) quiet (more e es) =
    let at = calmly may_lend t fs in
    let p : at.period_ms ≡ t.period_ms = calm_period may_lend t fs in
    let before : min (2 * t.period_ms) (over fs (t.period_ms / 4)) ≤ at.now_ms = climbs may_lend t fs quiet es in
    let one =
    one_climb may_lend at f (t.period_ms / 4) (over fs (t.period_ms / 4)) (many fs) (still_none may_lend t fs quiet) e
    (ap (λ n. n / 4) p) (omega (arith, before, p)) (calm_grows may_lend t fs es) (nat_le 29 (many fs)) refl in
    omega (arith, one, p)

abbrev times : ℕ → ℕ → ℕ
times zero q = 0
times (suc k) q = times k q + q

over_grows : (k : ℕ) (fs : List LookFinds) (q : ℕ) → k + 29 ≤ many fs → times k q ≤ over fs q
over_grows zero fs q h = omega arith
over_grows (suc k) [] q h = absurd (omega (arith, h))
over_grows (suc k) (f ∷ fs) q h =
    let rest : times k q ≤ over fs q = over_grows k fs q (omega (arith, h)) in
    let is : cond (nat_le 29 (many fs)) (over fs q + q) 0 ≡ over fs q + q = ap (λ b. cond b (over fs q + q) 0) (le-leb 29 (many fs) (omega (arith, h))) in
    omega (arith, rest, is)

pub calm_comes_later : CalmComesLater
calm_comes_later may_lend t fs quiet four all h =
    let most : min (2 * t.period_ms) (over fs (t.period_ms / 4)) ≤ (calmly may_lend t fs).now_ms = climbs may_lend t fs quiet all in
    let fifteen : times 15 (t.period_ms / 4) ≤ over fs (t.period_ms / 4) = over_grows 15 fs (t.period_ms / 4) h in
    omega (arith, most, fifteen, four)
