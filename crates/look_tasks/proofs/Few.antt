-- A look comes back to few parts at a time.
use Rattle.std.proofs.Common.{◌≡◌, ℕ, ◌+◌, ◌-◌, ◌^◌, ◌<◌, ◌≤◌, Bool, true, false, cond, ◌&&◌, List, [], ◌∷◌, ◌++◌, length, refl, ap, sym, subst, arith}
use Rattle.std.specs.Prelude.{nat_le, nat_lt, Some, None}
use Rattle.std.proofs.lemmas.Bool.{ltb-true, lt-leb, and_parts}
use Rattle.std.proofs.lemmas.List.{length-append}
use Rattle.look_tasks.specs.declared.step.PartReturn.{PartReturn}
use Rattle.look_tasks.specs.declared.step.Step.TheVariants.{Look, Over}
use Rattle.look_tasks.specs.declared.step.TheConstants.{MANY_YOUNG, RETURNS_MOST}
use Rattle.look_tasks.specs.Steps.{Steps, begun, due_part, without_due, step_by, step_of, stepped, is_added, return_to, looked_then}
use Rattle.look_tasks.specs.StepLaws.{Move, asks, has_looked, run, came_back, returns_in, ReturnsAreFew, StandsAt, NoneComesAtOnce}

fewer : (rs : List PartReturn) (now : ℕ) → length (without_due rs now) ≤ length rs
fewer [] now = omega arith
fewer (r ∷ rs) now = pick (nat_le r.due_ns now) where
  pick : (b : Bool) → length (cond b rs (r ∷ rs)) ≤ length (r ∷ rs)
  pick true = omega arith
  pick false = omega arith

one_more : (s : Steps) (part now : ℕ) (rests : Bool) (young : ℕ) → length s.returns ≤ RETURNS_MOST → length (looked_then s part now rests young).returns ≤ RETURNS_MOST
one_more s part now rests young h = pick (is_added s rests young) refl where
  pick : (b : Bool) → is_added s rests young ≡ b → length (cond b (s.returns ++ return_to part now ∷ []) s.returns) ≤ RETURNS_MOST
  pick true e =
      let room : length s.returns < RETURNS_MOST = ltb-true (length s.returns) RETURNS_MOST (and_parts (rests && nat_le MANY_YOUNG young) (nat_lt (length s.returns) RETURNS_MOST) e).1 in
      omega (arith, room, length-append s.returns (return_to part now ∷ []))
  pick false e = h

few : (ms : List Move) (s : Steps) → length s.returns ≤ RETURNS_MOST → length (run s ms).returns ≤ RETURNS_MOST
few [] s h = h
few (asks now ∷ ms) s h = few ms (stepped s now) (omega (arith, h, fewer s.returns now))
few (has_looked part now rests young ∷ ms) s h = few ms (looked_then s part now rests young) (one_more s part now rests young h)

pub returns_are_few : ReturnsAreFew
returns_are_few parts ms = few ms (begun parts) (omega arith)

-- how many of the first are due
abbrev due_count : List PartReturn → ℕ → ℕ
due_count [] now = 0
due_count (r ∷ rs) now = cond (nat_le r.due_ns now) (due_count rs now + 1) 0

count_within : (rs : List PartReturn) (now : ℕ) → due_count rs now ≤ length rs
count_within [] now = omega arith
count_within (r ∷ rs) now =
    let rest : due_count rs now ≤ length rs = count_within rs now in
    pick (nat_le r.due_ns now) rest
  where
    pick : (b : Bool) → due_count rs now ≤ length rs → cond b (due_count rs now + 1) 0 ≤ length (r ∷ rs)
    pick true h = omega (arith, h)
    pick false h = omega arith

-- what is added now isn't due yet
count_same : (rs : List PartReturn) (x : PartReturn) (now : ℕ) → now < x.due_ns → due_count (rs ++ x ∷ []) now ≡ due_count rs now
count_same [] x now h = ap (λ b. cond b 1 0) (lt-leb x.due_ns now h)
count_same (r ∷ rs) x now h = ap (λ n. cond (nat_le r.due_ns now) (n + 1) 0) (count_same rs x now h)

count_added : (s : Steps) (part now : ℕ) (rests : Bool) (young : ℕ) → now < 2 ^ 64 - 1 → due_count (looked_then s part now rests young).returns now ≡ due_count s.returns now
count_added s part now rests young h = pick (is_added s rests young) where
  pick : (b : Bool) → due_count (cond b (s.returns ++ return_to part now ∷ []) s.returns) now ≡ due_count s.returns now
  pick true = count_same s.returns (return_to part now) now (omega (arith, h))
  pick false = refl

count_less : (s : Steps) (now : ℕ) → length (came_back (step_of s now)) + due_count (stepped s now).returns now ≤ due_count s.returns now
count_less s now = pick s.returns where
  none : (b : Bool) → length (came_back (cond b (Look s.next_part) Over)) ≡ 0
  none true = refl
  none false = refl

  pick : (rs : List PartReturn) → length (came_back (step_by (due_part rs now) s)) + due_count (without_due rs now) now ≤ due_count rs now
  pick [] = omega (arith, none (nat_lt s.next_part s.parts))
  pick (r ∷ rs) = or (nat_le r.due_ns now) refl where
    or : (b : Bool) → nat_le r.due_ns now ≡ b →
        length (came_back (step_by (cond b (Some r.part) None) s)) + due_count (cond b rs (r ∷ rs)) now ≤ cond b (due_count rs now + 1) 0
    or true e = omega arith
    or false e =
        let not_due : due_count (r ∷ rs) now ≡ 0 = ap (λ b. cond b (due_count rs now + 1) 0) e in
        omega (arith, not_due, none (nat_lt s.next_part s.parts))

came : (ms : List Move) (s : Steps) (now : ℕ) → now < 2 ^ 64 - 1 → StandsAt now ms → length (returns_in s ms) ≤ due_count s.returns now
came [] s now h t = omega arith
came (asks at ∷ ms) s now h t =
    let rest : length (returns_in (stepped s now) ms) ≤ due_count (stepped s now).returns now = came ms (stepped s now) now h t.1 in
    let all : length (returns_in s (asks now ∷ ms)) ≡ length (came_back (step_of s now)) + length (returns_in (stepped s now) ms) = length-append (came_back (step_of s now)) (returns_in (stepped s now) ms) in
    let asked : length (returns_in s (asks now ∷ ms)) ≤ due_count s.returns now = omega (arith, rest, all, count_less s now) in
    subst (λ n. length (returns_in s (asks n ∷ ms)) ≤ due_count s.returns now) (sym t.0) asked
came (has_looked part at rests young ∷ ms) s now h t =
    let rest : length (returns_in (looked_then s part now rests young) ms) ≤ due_count (looked_then s part now rests young).returns now = came ms (looked_then s part now rests young) now h t.1 in
    let found : length (returns_in s (has_looked part now rests young ∷ ms)) ≤ due_count s.returns now = omega (arith, rest, count_added s part now rests young h) in
    subst (λ n. length (returns_in s (has_looked part n rests young ∷ ms)) ≤ due_count s.returns now) (sym t.0) found

pub none_comes_at_once : NoneComesAtOnce
none_comes_at_once s ms now h t = omega (arith, came ms s now h t, count_within s.returns now)
