-- What a look comes to next.
use Rattle.std.specs.Prelude.{ℕ, ◌+◌, ◌-◌, ◌^◌, min, Bool, ◌&&◌, nat_le, nat_lt, if◌then◌else◌, List, [], ◌∷◌, ◌++◌, length, take, Option, Some, None}
use Rattle.look_tasks.specs.declared.step.LookSteps.{LookSteps}
use Rattle.look_tasks.specs.declared.step.PartReturn.{PartReturn}
use Rattle.look_tasks.specs.declared.step.Step.{Step}
use Rattle.look_tasks.specs.declared.step.Step.TheVariants.{Look, Return, Over}
use Rattle.look_tasks.specs.declared.step.TheConstants.{MANY_YOUNG, RETURN_NS, RETURNS_MOST}

-- where a look is: how many parts there are, which one comes next, and which ones it comes back to
pub record Steps : Type 0 where
  pub parts : ℕ
  pub next_part : ℕ
  pub returns : List PartReturn

abbrev pub steps_of : LookSteps → Steps
steps_of s = record { parts = s.parts; next_part = s.next_part; returns = take s.count s.returns }

abbrev pub begun : ℕ → Steps
begun parts = record { parts = parts; next_part = 0; returns = [] }

-- the first part to come back to, if it is time to
abbrev pub due_part : List PartReturn → ℕ → Option ℕ
due_part [] now = None
due_part (r ∷ rs) now = if nat_le r.due_ns now then Some r.part else None

-- and the others
abbrev pub without_due : List PartReturn → ℕ → List PartReturn
without_due [] now = []
without_due (r ∷ rs) now = if nat_le r.due_ns now then rs else r ∷ rs

abbrev pub after_due : Steps → ℕ → Steps
after_due s now = record { parts = s.parts; next_part = s.next_part; returns = without_due s.returns now }

-- what comes next, and where the look is then, if this part is due, or none is
abbrev pub step_by : Option ℕ → Steps → Step
step_by None s = if nat_lt s.next_part s.parts then Look s.next_part else Over
step_by (Some part) s = Return part

abbrev pub next_by : Option ℕ → Steps → ℕ
next_by None s = if nat_lt s.next_part s.parts then s.next_part + 1 else s.next_part
next_by (Some part) s = s.next_part

abbrev pub step_of : Steps → ℕ → Step
step_of s now = step_by (due_part s.returns now) s

abbrev pub stepped : Steps → ℕ → Steps
stepped s now = record { parts = s.parts; next_part = next_by (due_part s.returns now) s; returns = without_due s.returns now }

-- the look comes back to a part that rests, if many of its pages may be idle soon, and while it comes back to few others
abbrev pub is_added : Steps → Bool → ℕ → Bool
is_added s rests young = rests && nat_le MANY_YOUNG young && nat_lt (length s.returns) RETURNS_MOST

abbrev pub return_to : ℕ → ℕ → PartReturn
return_to part now = record { part = part; due_ns = min (now + RETURN_NS) (2 ^ 64 - 1) }

abbrev pub added : Steps → ℕ → ℕ → Steps
added s part now = record s { returns = s.returns ++ return_to part now ∷ [] }

abbrev pub looked_then : Steps → ℕ → ℕ → Bool → ℕ → Steps
looked_then s part now rests young = record s { returns = if is_added s rests young then (added s part now).returns else s.returns }
