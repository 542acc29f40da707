-- Parts that are come back to are due in their order.
use Rattle.std.proofs.Common.{◌≡◌, ◌∙◌, ℕ, ◌+◌, ◌-◌, ◌^◌, ◌<◌, ◌≤◌, Bool, true, false, cond, ◌&&◌, List, [], ◌∷◌, ◌++◌, refl, ap, arith}
use Rattle.std.specs.Prelude.{min, nat_le, Some, None}
use Rattle.std.proofs.lemmas.Bool.{leb-false, lt-ltb}
use Rattle.look_tasks.specs.declared.step.PartReturn.{PartReturn}
use Rattle.look_tasks.specs.declared.step.TheConstants.{RETURN_NS}
use Rattle.look_tasks.specs.Steps.{Steps, begun, due_part, without_due, step_by, stepped, is_added, return_to, looked_then}
use Rattle.look_tasks.specs.StepLaws.{Move, asks, has_looked, run, came_back, GoesOn, none_due, ReturnsComeFirst}

-- when it is time, the clock's reading at first
abbrev due_at : ℕ → ℕ
due_at now = min (now + RETURN_NS) (2 ^ 64 - 1)

-- between two readings, each no earlier than the one before
abbrev Rises : ℕ → List PartReturn → ℕ → Type 0
Rises a [] b = a ≤ b
Rises a (r ∷ rs) b = (a ≤ r.due_ns) × Rises r.due_ns rs b

rises_from : (rs : List PartReturn) (a c b : ℕ) → c ≤ a → Rises a rs b → Rises c rs b
rises_from [] a c b h r = omega (arith, h, r)
rises_from (x ∷ rs) a c b h r = (omega (arith, h, r.0), r.1)

rises_to : (rs : List PartReturn) (a b c : ℕ) → b ≤ c → Rises a rs b → Rises a rs c
rises_to [] a b c h r = omega (arith, h, r)
rises_to (x ∷ rs) a b c h r = (r.0, rises_to rs x.due_ns b c h r.1)

rises_more : (rs : List PartReturn) (a b : ℕ) (x : PartReturn) → b ≤ x.due_ns → Rises a rs b → Rises a (rs ++ x ∷ []) x.due_ns
rises_more [] a b x h r = (omega (arith, h, r), omega arith)
rises_more (y ∷ rs) a b x h r = (r.0, rises_more rs y.due_ns b x h r.1)

rises_less : (rs : List PartReturn) (a b now : ℕ) → Rises a rs b → Rises a (without_due rs now) b
rises_less [] a b now r = r
rises_less (x ∷ rs) a b now r = pick (nat_le x.due_ns now) where
  pick : (t : Bool) → Rises a (cond t rs (x ∷ rs)) b
  pick true = rises_from rs x.due_ns a b r.0 r.1
  pick false = r

later : (a b : ℕ) → a ≤ b → due_at a ≤ due_at b
later a b h = omega (arith, h)

rises_added : (s : Steps) (part before now : ℕ) (rests : Bool) (young : ℕ) → before ≤ now → Rises 0 s.returns (due_at before) →
    Rises 0 (looked_then s part now rests young).returns (due_at now)
rises_added s part before now rests young h r = pick (is_added s rests young) where
  pick : (b : Bool) → Rises 0 (cond b (s.returns ++ return_to part now ∷ []) s.returns) (due_at now)
  pick true = rises_more s.returns 0 (due_at before) (return_to part now) (later before now h) r
  pick false = rises_to s.returns 0 (due_at before) (due_at now) (later before now h) r

rises_run : (ms : List Move) (s : Steps) (from to : ℕ) → GoesOn from ms to → Rises 0 s.returns (due_at from) → Rises 0 (run s ms).returns (due_at to)
rises_run [] s from to g r = rises_to s.returns 0 (due_at from) (due_at to) (later from to g) r
rises_run (asks now ∷ ms) s from to g r =
    rises_run ms (stepped s now) now to g.1
    (rises_less s.returns 0 (due_at now) now (rises_to s.returns 0 (due_at from) (due_at now) (later from now g.0) r))
rises_run (has_looked part now rests young ∷ ms) s from to g r =
    rises_run ms (looked_then s part now rests young) now to g.1 (rises_added s part from now rests young g.0 r)

none_after : (rs : List PartReturn) (a b now : ℕ) → now < a → Rises a rs b → none_due rs now ≡ true
none_after [] a b now h r = refl
none_after (x ∷ rs) a b now h r =
    let after : now < x.due_ns = omega (arith, h, r.0) in
    ap (λ c. c && none_due rs now) (lt-ltb now x.due_ns after) ∙ none_after rs x.due_ns b now after r.1

first_not : (s : Steps) (rs : List PartReturn) (b now : ℕ) → Rises 0 rs b → came_back (step_by (due_part rs now) s) ≡ [] → none_due rs now ≡ true
first_not s [] b now r e = refl
first_not s (x ∷ rs) b now r e = pick (nat_le x.due_ns now) refl e where
  pick : (t : Bool) → nat_le x.due_ns now ≡ t → came_back (step_by (cond t (Some x.part) None) s) ≡ [] → none_due (x ∷ rs) now ≡ true
  pick true t f = cc
  pick false t f =
      let after : now < x.due_ns = leb-false x.due_ns now t in
      none_after (x ∷ rs) x.due_ns b now after (omega arith, r.1)

pub returns_come_first : ReturnsComeFirst
returns_come_first parts ms from now g e =
    let r : Rises 0 (run (begun parts) ms).returns (due_at now) = rises_run ms (begun parts) from now g (omega arith) in
    first_not (run (begun parts) ms) (run (begun parts) ms).returns (due_at now) now r e
