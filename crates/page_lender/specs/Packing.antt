-- A belief as three numbers.
use Rattle.std.specs.Prelude.{ℕ, ◌+◌, ◌/◌, ◌%◌, ◌==◌, Bool, true, false, if◌then◌else◌, unwrap_or}
use Rattle.page_lender.specs.Decisions.{account, frame_of}
use Rattle.page_lender.specs.declared.belief.Belief.{Belief}
use Rattle.page_lender.specs.declared.belief.Belief.TheVariants.{Private, Chosen, Copied, Turning, Shown, Leaving}
use Rattle.page_lender.specs.declared.belief.Homing.{Homing}
use Rattle.page_lender.specs.declared.belief.Homing.TheVariants.{Off, InPlace, Elsewhere}
use Rattle.page_lender.specs.declared.belief.Stage.{Stage}
use Rattle.page_lender.specs.declared.belief.Stage.TheVariants.{Ready, Held, Equal, LettingGo}
use Rattle.page_lender.specs.declared.belief.Target.{Target}
use Rattle.page_lender.specs.declared.belief.Target.TheVariants.{Frame, Zeros}

-- the number of a stage, and what its target adds
abbrev pub stage_number : Stage → ℕ
stage_number Ready = 3
stage_number Held = 4
stage_number Equal = 5
stage_number LettingGo = 6

abbrev pub target_number : Target → ℕ
target_number (Frame slot n) = 0
target_number Zeros = 16

abbrev pub homing_number : Homing → ℕ
homing_number Off = 7
homing_number InPlace = 8
homing_number Elsewhere = 9

-- the number of a belief
abbrev pub number_of : Belief → ℕ
number_of Private = 0
number_of Chosen = 1
number_of Copied = 2
number_of (Turning stage target) = stage_number stage + target_number target
number_of (Shown slot n homing) = homing_number homing
number_of (Leaving slot) = 10

-- its slot, or 0
abbrev pub slot_in : Belief → ℕ
slot_in belief = unwrap_or (account belief) 0

-- its frame, or 0
abbrev pub frame_in : Belief → ℕ
frame_in belief = unwrap_or (frame_of belief) 0

-- the target of this number
abbrev pub target_if : Bool → ℕ → ℕ → Target
target_if true slot n = Zeros
target_if false slot n = Frame slot n

abbrev pub target_in : ℕ → ℕ → ℕ → Target
target_in number slot n = target_if (number / 16 == 1) slot n

-- the belief with the number of which this is so, and that of a private page if it is of none
abbrev pub belief_if : Bool → Bool → Bool → Bool → Bool → Bool → Bool → Bool → Bool → Bool → Target → ℕ → ℕ → Belief
belief_if is_1 is_2 is_3 is_4 is_5 is_6 is_7 is_8 is_9 is_10 target slot n =
    if is_1 then Chosen else (if is_2 then Copied else (if is_3 then Turning Ready target else (if is_4 then Turning Held target else (if is_5 then Turning Equal target else (if is_6 then Turning LettingGo target else (if is_7 then Shown slot n Off else (if is_8 then Shown slot n InPlace else (if is_9 then Shown slot n Elsewhere else (if is_10 then Leaving slot else Private)))))))))

-- the belief whose stage has this number
abbrev pub belief_at : ℕ → Target → ℕ → ℕ → Belief
belief_at k target slot n = belief_if (k == 1) (k == 2) (k == 3) (k == 4) (k == 5) (k == 6) (k == 7) (k == 8) (k == 9) (k == 10) target slot n

-- the belief of this number
abbrev pub belief_in : ℕ → ℕ → ℕ → Belief
belief_in number slot n = belief_at (number % 16) (target_in number slot n) slot n
