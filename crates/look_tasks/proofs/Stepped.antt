-- Which parts come.
use Rattle.std.proofs.Common.{◌≡◌, ◌∙◌, ℕ, suc, ◌+◌, ◌-◌, ◌<◌, ◌≤◌, Bool, true, false, cond, List, [], ◌∷◌, ◌++◌, append_assoc, refl, ap, sym, subst, arith}
use Rattle.std.specs.Prelude.{nat_le, nat_lt, Option, Some, None}
use Rattle.std.proofs.lemmas.Bool.{ltb-true, ltb-false, leb-true, and_parts}
use Rattle.look_tasks.specs.declared.step.PartReturn.{PartReturn}
use Rattle.look_tasks.specs.declared.step.Step.TheVariants.{Look, Return, Over}
use Rattle.look_tasks.specs.Steps.{Steps, begun, due_part, without_due, step_by, next_by, step_of, stepped, is_added, return_to, looked_then}
use Rattle.look_tasks.specs.StepLaws.{Move, asks, has_looked, run, looked_at, came_back, looks_in, returns_in, added_in, parts_of, numbers_from, all_due, asked_for, EachComesOnce, OverIsAll, NoneIsLost, Due, ReturnsAreDue, AllComeBack}

-- what these moves do to the number of the next part
record Goes (s : Steps) (ms : List Move) : Type 0 where
  parts : (run s ms).parts ≡ s.parts
  from : s.next_part ≤ (run s ms).next_part
  to : (run s ms).next_part ≤ s.parts
  looks : looks_in s ms ≡ numbers_from s.next_part ((run s ms).next_part - s.next_part)

numbers_more : (first last : ℕ) → first + 1 ≤ last → first ∷ numbers_from (first + 1) (last - (first + 1)) ≡ numbers_from first (last - first)
numbers_more first last h =
    let is : last - first ≡ suc (last - (first + 1)) = omega (arith, h) in
    sym (ap (λ n. numbers_from first n) is)

-- the next part comes, or all have come
part_goes : (s : Steps) (rs : List PartReturn) (ms : List Move) → s.next_part ≤ s.parts →
    ((next : ℕ) → next ≤ s.parts → Goes (record { parts = s.parts; next_part = next; returns = rs }) ms) → (b : Bool) → nat_lt s.next_part s.parts ≡ b →
    (t : Steps) → t ≡ record { parts = s.parts; next_part = cond b (s.next_part + 1) s.next_part; returns = rs } →
    (((run t ms).parts ≡ s.parts) × ((s.next_part ≤ (run t ms).next_part) × ((run t ms).next_part ≤ s.parts))) ×
    (looked_at (cond b (Look s.next_part) Over) ++ looks_in t ms ≡ numbers_from s.next_part ((run t ms).next_part - s.next_part))
part_goes s rs ms h each true e t is =
    let below : s.next_part < s.parts = ltb-true s.next_part s.parts e in
    let g : Goes t ms = subst (λ (t : Steps). Goes t ms) (sym is) (each (s.next_part + 1) (omega (arith, below))) in
    let next : t.next_part ≡ s.next_part + 1 = ap (λ (t : Steps). t.next_part) is in
    let parts : t.parts ≡ s.parts = ap (λ (t : Steps). t.parts) is in (
      (g.parts ∙ parts, (omega (arith, g.from, next), omega (arith, g.to, parts))),
      ap (λ xs. s.next_part ∷ xs) (g.looks ∙ ap (λ n. numbers_from n ((run t ms).next_part - n)) next)
          ∙ numbers_more s.next_part (run t ms).next_part (omega (arith, g.from, next)),
    )
part_goes s rs ms h each false e t is =
    let g : Goes t ms = subst (λ (t : Steps). Goes t ms) (sym is) (each s.next_part h) in
    let next : t.next_part ≡ s.next_part = ap (λ (t : Steps). t.next_part) is in
    let parts : t.parts ≡ s.parts = ap (λ (t : Steps). t.parts) is in
    ((g.parts ∙ parts, (omega (arith, g.from, next), omega (arith, g.to, parts))), g.looks ∙ ap (λ n. numbers_from n ((run t ms).next_part - n)) next)

-- it is asked what comes next
step_goes : (s : Steps) (now : ℕ) (ms : List Move) → s.next_part ≤ s.parts → ((t : Steps) → t.next_part ≤ t.parts → Goes t ms) → Goes s (asks now ∷ ms)
step_goes s now ms h each = pick (due_part s.returns now) refl where
  pick : (o : Option ℕ) → due_part s.returns now ≡ o → Goes s (asks now ∷ ms)
  pick (Some part) e =
      let next : (stepped s now).next_part ≡ s.next_part = ap (λ o. next_by o s) e in
      let g : Goes (stepped s now) ms = each (stepped s now) (omega (arith, next, h)) in
      record {
        parts = g.parts;
        from = omega (arith, g.from, next);
        to = g.to;
        looks =
            ap (λ o. looked_at (step_by o s) ++ looks_in (stepped s now) ms) e ∙ g.looks
            ∙ ap (λ n. numbers_from n ((run (stepped s now) ms).next_part - n)) next;
      }
  pick None e =
      let all =
      part_goes s (without_due s.returns now) ms h
      (λ next k. each (record { parts = s.parts; next_part = next; returns = without_due s.returns now }) k) (nat_lt s.next_part s.parts) refl
      (stepped s now) (ap (λ o. record { parts = s.parts; next_part = next_by o s; returns = without_due s.returns now }) e) in
      record {
        parts = all.0.0;
        from = all.0.1.0;
        to = all.0.1.1;
        looks = ap (λ o. looked_at (step_by o s) ++ looks_in (stepped s now) ms) e ∙ all.1;
      }

goes : (ms : List Move) (s : Steps) → s.next_part ≤ s.parts → Goes s ms
goes [] s h =
    let none : s.next_part - s.next_part ≡ 0 = omega arith in
    record { parts = refl; from = omega arith; to = h; looks = sym (ap (λ n. numbers_from s.next_part n) none) }
goes (has_looked part now rests young ∷ ms) s h =
    let g : Goes (looked_then s part now rests young) ms = goes ms (looked_then s part now rests young) h in
    record { parts = g.parts; from = g.from; to = g.to; looks = g.looks }
goes (asks now ∷ ms) s h = step_goes s now ms h (λ t k. goes ms t k)

pub each_comes_once : EachComesOnce
each_comes_once parts ms =
    let g : Goes (begun parts) ms = goes ms (begun parts) (omega arith) in
    let all : (run (begun parts) ms).next_part - 0 ≡ (run (begun parts) ms).next_part = omega arith in
    g.looks ∙ ap (λ n. numbers_from 0 n) all

over_at : (s : Steps) (now : ℕ) → step_of s now ≡ Over → s.parts ≤ s.next_part
over_at s now e = pick (due_part s.returns now) (nat_lt s.next_part s.parts) refl e where
  pick : (o : Option ℕ) (b : Bool) → nat_lt s.next_part s.parts ≡ b → (step_by o s) ≡ Over → s.parts ≤ s.next_part
  pick (Some part) b f g = cc
  pick None true f g = cc (ap (λ c. cond c (Look s.next_part) Over) f)
  pick None false f g = ltb-false s.next_part s.parts f

pub over_is_all : OverIsAll
over_is_all parts ms now e =
    let g : Goes (begun parts) ms = goes ms (begun parts) (omega arith) in
    let all : (run (begun parts) ms).parts ≤ (run (begun parts) ms).next_part = over_at (run (begun parts) ms) now e in
    let is : (run (begun parts) ms).next_part ≡ parts = omega (arith, all, g.to, g.parts) in
    each_comes_once parts ms ∙ ap (λ n. numbers_from 0 n) is

-- ---- returns ----

-- a part that is come back to is the first of those
back_is : (s : Steps) (now : ℕ) → parts_of s.returns ≡ came_back (step_of s now) ++ parts_of (stepped s now).returns
back_is s now = pick s.returns where
  none : (b : Bool) → came_back (cond b (Look s.next_part) Over) ≡ []
  none true = refl
  none false = refl

  pick : (rs : List PartReturn) → parts_of rs ≡ came_back (step_by (due_part rs now) s) ++ parts_of (without_due rs now)
  pick [] = sym (ap (λ xs. xs ++ []) (none (nat_lt s.next_part s.parts)))
  pick (r ∷ rs) = or (nat_le r.due_ns now) where
    or : (b : Bool) → r.part ∷ parts_of rs ≡ came_back (step_by (cond b (Some r.part) None) s) ++ parts_of (cond b rs (r ∷ rs))
    or true = refl
    or false = sym (ap (λ xs. xs ++ (r.part ∷ parts_of rs)) (none (nat_lt s.next_part s.parts)))

parts_append : (rs : List PartReturn) (r : PartReturn) → parts_of (rs ++ r ∷ []) ≡ parts_of rs ++ r.part ∷ []
parts_append [] r = refl
parts_append (x ∷ rs) r = ap (λ xs. x.part ∷ xs) (parts_append rs r)

-- the parts that are come back to, before and after
kept : (ms : List Move) (s : Steps) → parts_of s.returns ++ added_in s ms ≡ returns_in s ms ++ parts_of (run s ms).returns
kept [] s = none (parts_of s.returns) where
  none : (xs : List ℕ) → xs ++ [] ≡ xs
  none [] = refl
  none (x ∷ xs) = ap (λ ys. x ∷ ys) (none xs)
kept (asks now ∷ ms) s =
    ap (λ xs. xs ++ added_in (stepped s now) ms) (back_is s now)
    ∙ append_assoc (came_back (step_of s now)) (parts_of (stepped s now).returns) (added_in (stepped s now) ms)
    ∙ ap (λ xs. came_back (step_of s now) ++ xs) (kept ms (stepped s now))
    ∙ sym (append_assoc (came_back (step_of s now)) (returns_in (stepped s now) ms) (parts_of (run (stepped s now) ms).returns))
kept (has_looked part now rests young ∷ ms) s = first (is_added s rests young) refl ∙ kept ms (looked_then s part now rests young) where
  rest : List ℕ
  rest = added_in (looked_then s part now rests young) ms

  or : (b : Bool) → parts_of s.returns ++ (cond b (part ∷ []) [] ++ rest) ≡ parts_of (cond b (s.returns ++ return_to part now ∷ []) s.returns) ++ rest
  or true = sym (append_assoc (parts_of s.returns) (part ∷ []) rest) ∙ sym (ap (λ xs. xs ++ rest) (parts_append s.returns (return_to part now)))
  or false = refl

  first : (b : Bool) → is_added s rests young ≡ b → parts_of s.returns ++ (cond (is_added s rests young) (part ∷ []) [] ++ rest) ≡ parts_of (looked_then s part now rests young).returns ++ rest
  first b e = or (is_added s rests young)

pub none_is_lost : NoneIsLost
none_is_lost parts ms = kept ms (begun parts)

pub returns_are_due : ReturnsAreDue
returns_are_due s now part e = pick s.returns refl e where
  none : (b : Bool) → cond b (Look s.next_part) Over ≡ Return part → ⊥
  none true f = cc
  none false f = cc

  pick : (rs : List PartReturn) → s.returns ≡ rs → step_by (due_part rs now) s ≡ Return part → Due s now part
  pick [] i f = absurd (none (nat_lt s.next_part s.parts) f)
  pick (r ∷ rs) i f = or (nat_le r.due_ns now) refl f where
    or : (b : Bool) → nat_le r.due_ns now ≡ b → step_by (cond b (Some r.part) None) s ≡ Return part → Due s now part
    or true t g = record { first = r; others = rs; is = i; its = cc; time = leb-true r.due_ns now t }
    or false t g = absurd (none (nat_lt s.next_part s.parts) g)

all_come : (rs : List PartReturn) (s : Steps) (now : ℕ) → s.returns ≡ rs → all_due rs now ≡ true → returns_in s (asked_for rs now) ≡ parts_of rs
all_come [] s now i a = refl
all_come (r ∷ rs) s now i a =
    let parts = and_parts (nat_le r.due_ns now) (all_due rs now) a in
    let due : due_part s.returns now ≡ Some r.part = ap (λ xs. due_part xs now) i ∙ ap (λ b. cond b (Some r.part) None) parts.0 in
    let left : (stepped s now).returns ≡ rs = ap (λ xs. without_due xs now) i ∙ ap (λ b. cond b rs (r ∷ rs)) parts.0 in
    ap (λ o. came_back (step_by o s) ++ returns_in (stepped s now) (asked_for rs now)) due
    ∙ ap (λ xs. r.part ∷ xs) (all_come rs (stepped s now) now left parts.1)

pub all_come_back : AllComeBack
all_come_back s now a = all_come s.returns s now refl a
