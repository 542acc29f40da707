-- That each part has its turn, once; and that a look comes back to each part of which it was to, when it is time, and to no other.
use Rattle.std.specs.Prelude.{◌≡◌, ℕ, zero, suc, ◌+◌, ◌-◌, ◌^◌, ◌<◌, ◌≤◌, Bool, true, ◌&&◌, nat_lt, nat_le, if◌then◌else◌, List, [], ◌∷◌, ◌++◌, length}
use Rattle.look_tasks.specs.declared.step.PartReturn.{PartReturn}
use Rattle.look_tasks.specs.declared.step.Step.{Step}
use Rattle.look_tasks.specs.declared.step.Step.TheVariants.{Look, Return, Over}
use Rattle.look_tasks.specs.declared.step.TheConstants.{RETURNS_MOST}
use Rattle.look_tasks.specs.Steps.{Steps, begun, step_of, stepped, is_added, looked_then}

-- It is asked what comes next, where the clock reads this. Or a part was looked at.
pub data Move : Type 0 where
  asks : ℕ → Move
  has_looked : (part now : ℕ) (rests : Bool) (young : ℕ) → Move

abbrev pub moved : Steps → Move → Steps
moved s (asks now) = stepped s now
moved s (has_looked part now rests young) = looked_then s part now rests young

-- where the look is after these, of which the earliest is the first
abbrev pub run : Steps → List Move → Steps
run s [] = s
run s (m ∷ ms) = run (moved s m) ms

-- the part that the look comes to, if it does
abbrev pub looked_at : Step → List ℕ
looked_at (Look part) = part ∷ []
looked_at (Return part) = []
looked_at Over = []

-- the part that it comes back to, if it does
abbrev pub came_back : Step → List ℕ
came_back (Look part) = []
came_back (Return part) = part ∷ []
came_back Over = []

-- all these parts, in order
abbrev pub looks_in : Steps → List Move → List ℕ
looks_in s [] = []
looks_in s (asks now ∷ ms) = looked_at (step_of s now) ++ looks_in (stepped s now) ms
looks_in s (has_looked part now rests young ∷ ms) = looks_in (looked_then s part now rests young) ms

abbrev pub returns_in : Steps → List Move → List ℕ
returns_in s [] = []
returns_in s (asks now ∷ ms) = came_back (step_of s now) ++ returns_in (stepped s now) ms
returns_in s (has_looked part now rests young ∷ ms) = returns_in (looked_then s part now rests young) ms

-- the parts that it was to come back to
abbrev pub added_in : Steps → List Move → List ℕ
added_in s [] = []
added_in s (asks now ∷ ms) = added_in (stepped s now) ms
added_in s (has_looked part now rests young ∷ ms) = (if is_added s rests young then part ∷ [] else []) ++ added_in (looked_then s part now rests young) ms

-- the parts that it comes back to still
abbrev pub parts_of : List PartReturn → List ℕ
parts_of [] = []
parts_of (r ∷ rs) = r.part ∷ parts_of rs

-- so many numbers in a row from this one on
abbrev pub numbers_from : ℕ → ℕ → List ℕ
numbers_from first zero = []
numbers_from first (suc n) = first ∷ numbers_from (first + 1) n

-- Whatever was asked and found: the parts that were looked at are those before the next one, each once and in order.
abbrev pub EachComesOnce : Type 0
EachComesOnce = (parts : ℕ) (ms : List Move) → looks_in (begun parts) ms ≡ numbers_from 0 (run (begun parts) ms).next_part

-- Once the look is over, these are all.
abbrev pub OverIsAll : Type 0
OverIsAll = (parts : ℕ) (ms : List Move) (now : ℕ) → step_of (run (begun parts) ms) now ≡ Over → looks_in (begun parts) ms ≡ numbers_from 0 parts

-- The parts that the look was to come back to, in order, are those that it came back to and those that it comes back to still.
abbrev pub NoneIsLost : Type 0
NoneIsLost = (parts : ℕ) (ms : List Move) → added_in (begun parts) ms ≡ returns_in (begun parts) ms ++ parts_of (run (begun parts) ms).returns

-- It comes back to the first of these, and not before it is time.
pub record Due (s : Steps) (now part : ℕ) : Type 0 where
  pub first : PartReturn
  pub others : List PartReturn
  pub is : s.returns ≡ first ∷ others
  pub its : first.part ≡ part
  pub time : first.due_ns ≤ now

abbrev pub ReturnsAreDue : Type 0
ReturnsAreDue = (s : Steps) (now part : ℕ) → step_of s now ≡ Return part → Due s now part

-- The clock never goes back, from one reading to another one.
abbrev pub GoesOn : ℕ → List Move → ℕ → Type 0
GoesOn from [] to = from ≤ to
GoesOn from (asks now ∷ ms) to = (from ≤ now) × GoesOn now ms to
GoesOn from (has_looked part now rests young ∷ ms) to = (from ≤ now) × GoesOn now ms to

-- it isn't time to come back to any of these parts
abbrev pub none_due : List PartReturn → ℕ → Bool
none_due [] now = true
none_due (r ∷ rs) now = nat_lt now r.due_ns && none_due rs now

-- With a clock that never goes back, whatever comes next but a return, it isn't time for any return.
abbrev pub ReturnsComeFirst : Type 0
ReturnsComeFirst =
    (parts : ℕ) (ms : List Move) (from now : ℕ) → GoesOn from ms now → came_back (step_of (run (begun parts) ms) now) ≡ [] →
    none_due (run (begun parts) ms).returns now ≡ true

-- it is time for all of them
abbrev pub all_due : List PartReturn → ℕ → Bool
all_due [] now = true
all_due (r ∷ rs) now = nat_le r.due_ns now && all_due rs now

-- it is asked what comes next once for each of these
abbrev pub asked_for : List PartReturn → ℕ → List Move
asked_for [] now = []
asked_for (r ∷ rs) now = asks now ∷ asked_for rs now

-- Once it is time for all returns, and it is asked as often, all of them have come.
abbrev pub AllComeBack : Type 0
AllComeBack = (s : Steps) (now : ℕ) → all_due s.returns now ≡ true → returns_in s (asked_for s.returns now) ≡ parts_of s.returns

-- So many parts it comes back to at most, at a time.
abbrev pub ReturnsAreFew : Type 0
ReturnsAreFew = (parts : ℕ) (ms : List Move) → length (run (begun parts) ms).returns ≤ RETURNS_MOST

-- the clock stands at this reading
abbrev pub StandsAt : ℕ → List Move → Type 0
StandsAt now [] = Unit {0}
StandsAt now (asks at ∷ ms) = (at ≡ now) × StandsAt now ms
StandsAt now (has_looked part at rests young ∷ ms) = (at ≡ now) × StandsAt now ms

-- While the clock stands, no more returns come than the look had before, whatever is found.
abbrev pub NoneComesAtOnce : Type 0
NoneComesAtOnce = (s : Steps) (ms : List Move) (now : ℕ) → now < 2 ^ 64 - 1 → StandsAt now ms → length (returns_in s ms) ≤ length s.returns
