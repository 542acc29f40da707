-- Each step of a hold leaves fewer steps.
use Rattle.std.proofs.Common.{◌≡◌, ◌∙◌, ℕ, ◌<◌, Bool, true, false, ◌&&◌, Some, None, refl, ap, sym, subst, arith}
use Rattle.std.specs.Prelude.{if◌then◌else◌}
use Rattle.page_lender.specs.Decisions.{due, is_outcome, unshown, waiting}
use Rattle.page_lender.specs.Lender.{done_of}
use Rattle.page_lender.specs.declared.belief.Belief.{Belief}
use Rattle.page_lender.specs.declared.belief.Belief.TheVariants.{Private, Turning, Shown, Leaving}
use Rattle.page_lender.specs.declared.belief.Homing.TheVariants.{Off}
use Rattle.page_lender.specs.declared.belief.Stage.TheVariants.{Held, Equal, LettingGo}
use Rattle.page_lender.specs.declared.belief.Target.{Target}
use Rattle.page_lender.specs.declared.belief.Target.TheVariants.{Frame, Zeros}
use Rattle.page_lender.specs.declared.order.Outcome.{Outcome}
use Rattle.page_lender.specs.declared.order.Outcome.TheVariants.{Done, Refused as NotDone}
use Rattle.window_pages.specs.Bytes.{belief_of, known_of}
use Rattle.window_pages.specs.declared.counts.PartCounts.{PartCounts}
use Rattle.window_pages.specs.declared.page.WindowPage.{WindowPage}
use Rattle.page_holds.specs.Laws.{EachStepLeavesLess, goes_on, left_by}
use Rattle.page_holds.specs.Steps.{Took, is_taken, outcome_for, parted, place_after, said, step_of, zeros_parted}
use Rattle.page_holds.specs.declared.place.HeldPlace.{HeldPlace}
use Rattle.page_holds.specs.declared.place.HeldPlace.TheVariants.{Free, Guarded, Aside, Replaced}
use Rattle.page_holds.specs.declared.place.HoldStep.{HoldStep}
use Rattle.page_holds.proofs.Kept.{Holds, holds, is_equal, is_held_so, is_let_go, rests_so}

-- What comes of a step: its outcome leads on, or what is believed stays.
record Leads (b y : Belief) (step : HoldStep) (is_done : Bool) : Type 0 where
  pub turns : (its : Outcome) → outcome_for step b is_done ≡ Some its → y ≡ done_of b its
  pub stays : outcome_for step b is_done ≡ None → y ≡ b

abbrev Less : Belief → Belief → HeldPlace → HoldStep → Bool → Type 0
Less b y place step is_done = left_by (step_of y (place_after step place is_done)) < left_by step

-- the step after one that leads to this belief
less_as : (y z : Belief) (place : HeldPlace) (m : ℕ) → y ≡ z → left_by (step_of z place) < m → left_by (step_of y place) < m
less_as y z place m e l = subst (λ b. left_by (step_of b place) < m) (sym e) l

-- a page that isn't to be shown, and for which nobody waits
gone_less : (its : Target) (y : Belief) (m : ℕ) → y ≡ unshown its → 0 < m → left_by (step_of y Free) < m
gone_less (Frame slot n) y m e l = less_as y (Leaving slot) Free m e l
gone_less Zeros y m e l = less_as y Private Free m e l

few_parted : (place : HeldPlace) (m : ℕ) → 2 < m → left_by (parted place) < m
few_parted Free m l = omega (arith, l)
few_parted Guarded m l = omega (arith, l)
few_parted Aside m l = omega (arith, l)
few_parted Replaced m l = omega (arith, l)

-- a page that isn't held is let go
parted_less : (place : HeldPlace) (is_done : Bool) → goes_on (parted place) is_done ≡ true → left_by (parted (place_after (parted place) place is_done)) < left_by (parted place)
parted_less Free is_done g = cc
parted_less Guarded true g = omega arith
parted_less Guarded false g = cc
parted_less Aside true g = omega arith
parted_less Aside false g = cc
parted_less Replaced true g = omega arith
parted_less Replaced false g = cc

parted_quiet : (place : HeldPlace) (b : Belief) (is_done : Bool) → waiting b ≡ false → outcome_for (parted place) b is_done ≡ None
parted_quiet Free b is_done w = refl
parted_quiet Guarded b is_done w = ap (λ t. if t then Some (said is_done) else None) w
parted_quiet Aside b true w = refl
parted_quiet Aside b false w = ap (λ t. if t then Some NotDone else None) w
parted_quiet Replaced b is_done w = ap (λ t. if t then Some (said is_done) else None) w

quiet_less : (b y : Belief) (place : HeldPlace) (is_done : Bool) → waiting b ≡ false → ((at : HeldPlace) → step_of b at ≡ parted at) → Leads b y (parted place) is_done →
    goes_on (parted place) is_done ≡ true → Less b y place (parted place) is_done
quiet_less b y place is_done w p l g =
    let same : y ≡ b = l.stays (parted_quiet place b is_done w) in
    let next : step_of y (place_after (parted place) place is_done) ≡ parted (place_after (parted place) place is_done) =
    ap (λ z. step_of z (place_after (parted place) place is_done)) same ∙ p (place_after (parted place) place is_done) in
    subst (λ z. left_by z < left_by (parted place)) (sym next) (parted_less place is_done g)

resting_less : (b y : Belief) (place : HeldPlace) (is_done : Bool) → waiting b ≡ false → ((at : HeldPlace) → step_of b at ≡ parted at) → Leads b y (step_of b place) is_done →
    goes_on (step_of b place) is_done ≡ true → Less b y place (step_of b place) is_done
resting_less b y place is_done w p l g =
    subst (λ s. Less b y place s is_done) (sym (p place))
    (quiet_less b y place is_done w p (subst (λ s. Leads b y s is_done) (p place) l) (subst (λ s. goes_on s is_done ≡ true) (p place) g))

-- one that isn't to be shown
going_less : (its : Target) (y : Belief) (place : HeldPlace) (is_done : Bool) → Leads (Turning LettingGo its) y (parted place) is_done → goes_on (parted place) is_done ≡ true →
    Less (Turning LettingGo its) y place (parted place) is_done
going_less its y Free is_done l g = cc
going_less its y Guarded true l g = gone_less its y 1 (l.turns Done refl) (omega arith)
going_less its y Guarded false l g = cc
going_less its y Aside true l g = less_as y (Turning LettingGo its) Guarded 2 (l.stays refl) (omega arith)
going_less its y Aside false l g = cc
going_less its y Replaced true l g = gone_less its y 1 (l.turns Done refl) (omega arith)
going_less its y Replaced false l g = cc

-- one that was found to be zeros
zeros_less : (y : Belief) (place : HeldPlace) (is_done : Bool) → Leads (Turning Equal Zeros) y (zeros_parted place) is_done → goes_on (zeros_parted place) is_done ≡ true →
    Less (Turning Equal Zeros) y place (zeros_parted place) is_done
zeros_less y Free is_done l g = cc
zeros_less y Guarded true l g = less_as y (Turning Equal Zeros) Replaced 2 (l.stays refl) (omega arith)
zeros_less y Guarded false l g = less_as y (Turning LettingGo Zeros) Guarded 2 (l.turns NotDone refl) (omega arith)
zeros_less y Aside true l g = less_as y Private Free 1 (l.turns Done refl) (omega arith)
zeros_less y Aside false l g = cc
zeros_less y Replaced true l g = less_as y Private Free 1 (l.turns Done refl) (omega arith)
zeros_less y Replaced false l g = cc

zeros_few : (place : HeldPlace) → left_by (zeros_parted place) < 4
zeros_few Free = omega arith
zeros_few Guarded = omega arith
zeros_few Aside = omega arith
zeros_few Replaced = omega arith

less : (b y : Belief) (place : HeldPlace) (is_done : Bool) → Holds b → Leads b y (step_of b place) is_done → goes_on (step_of b place) is_done ≡ true →
    Less b y place (step_of b place) is_done
less b y place is_done (rests_so its w p) l g = resting_less its y place is_done w p l g
less b y place is_done (is_let_go its) l g = going_less its y place is_done l g
less b y place true (is_held_so (Frame slot n)) l g = less_as y (Turning Equal (Frame slot n)) place 4 (l.turns Done refl) (omega arith)
less b y place false (is_held_so (Frame slot n)) l g = less_as y (Turning LettingGo (Frame slot n)) place 4 (l.turns NotDone refl) (few_parted place 4 (omega arith))
less b y place true (is_held_so Zeros) l g = less_as y (Turning Equal Zeros) place 4 (l.turns Done refl) (zeros_few place)
less b y place false (is_held_so Zeros) l g = less_as y (Turning LettingGo Zeros) place 4 (l.turns NotDone refl) (few_parted place 4 (omega arith))
less b y place true (is_equal (Frame slot n)) l g = less_as y (Shown slot n Off) Replaced 3 (l.turns Done refl) (omega arith)
less b y place false (is_equal (Frame slot n)) l g = less_as y (Turning LettingGo (Frame slot n)) place 3 (l.turns NotDone refl) (few_parted place 3 (omega arith))
less b y place is_done (is_equal Zeros) l g = zeros_less y place is_done l g

said_fits : (b : Belief) (is_done : Bool) (its : Outcome) → is_outcome (due b) Done ≡ true → is_outcome (due b) NotDone ≡ true → Some (said is_done) ≡ Some its →
    is_outcome (due b) its ≡ true
said_fits b true its d r o = let is : its ≡ Done = cc in ap (λ z. is_outcome (due b) z) is ∙ d
said_fits b false its d r o = let is : its ≡ NotDone = cc in ap (λ z. is_outcome (due b) z) is ∙ r

quiet_fits : (b : Belief) (place : HeldPlace) (is_done : Bool) (its : Outcome) → waiting b ≡ false → outcome_for (parted place) b is_done ≡ Some its → ⊥
quiet_fits b place is_done its w o = let none : outcome_for (parted place) b is_done ≡ None = parted_quiet place b is_done w in cc

-- an outcome that a step has is one of the page's order, if that is open
going_fits : (its : Target) (place : HeldPlace) (is_done : Bool) (outcome : Outcome) → outcome_for (parted place) (Turning LettingGo its) is_done ≡ Some outcome →
    is_outcome (due (Turning LettingGo its)) outcome ≡ true
going_fits its Free is_done outcome o = cc
going_fits its Guarded is_done outcome o = said_fits (Turning LettingGo its) is_done outcome refl refl o
going_fits its Aside true outcome o = cc
going_fits its Aside false outcome o = said_fits (Turning LettingGo its) false outcome refl refl o
going_fits its Replaced is_done outcome o = said_fits (Turning LettingGo its) is_done outcome refl refl o

zeros_fits : (place : HeldPlace) (is_done : Bool) (outcome : Outcome) → outcome_for (zeros_parted place) (Turning Equal Zeros) is_done ≡ Some outcome →
    is_outcome (due (Turning Equal Zeros)) outcome ≡ true
zeros_fits Free is_done outcome o = cc
zeros_fits Guarded true outcome o = cc
zeros_fits Guarded false outcome o = said_fits (Turning Equal Zeros) false outcome refl refl o
zeros_fits Aside is_done outcome o = said_fits (Turning Equal Zeros) is_done outcome refl refl o
zeros_fits Replaced is_done outcome o = said_fits (Turning Equal Zeros) is_done outcome refl refl o

fits : (b : Belief) (place : HeldPlace) (is_done : Bool) (outcome : Outcome) → Holds b → outcome_for (step_of b place) b is_done ≡ Some outcome → (waiting b && is_outcome (due b) outcome) ≡ true
fits b place is_done outcome (rests_so its w p) o = absurd (quiet_fits its place is_done outcome w (ap (λ s. outcome_for s its is_done) (sym (p place)) ∙ o))
fits b place is_done outcome (is_let_go its) o = going_fits its place is_done outcome o
fits b place is_done outcome (is_held_so (Frame slot n)) o = said_fits (Turning Held (Frame slot n)) is_done outcome refl refl o
fits b place is_done outcome (is_held_so Zeros) o = said_fits (Turning Held Zeros) is_done outcome refl refl o
fits b place is_done outcome (is_equal (Frame slot n)) o = said_fits (Turning Equal (Frame slot n)) is_done outcome refl refl o
fits b place is_done outcome (is_equal Zeros) o = zeros_fits place is_done outcome o

first_so : (a b : Bool) → (a && b) ≡ true → a ≡ true
first_so true b e = refl
first_so false b e = cc

second_so : (a b : Bool) → (a && b) ≡ true → b ≡ true
second_so true b e = e
second_so false b e = cc

both_so : (a b : Bool) → a ≡ true → b ≡ true → (a && b) ≡ true
both_so true true a b = refl
both_so true false a b = cc
both_so false b a e = cc

turns_by : (old new : WindowPage) (part after : PartCounts) (place : HeldPlace) (is_done : Bool) → (waiting (belief_of old) ≡ true → (known_of old).ordered ≡ true) →
    Took (outcome_for (step_of (belief_of old) place) (belief_of old) is_done) old new part after → (its : Outcome) →
    outcome_for (step_of (belief_of old) place) (belief_of old) is_done ≡ Some its → belief_of new ≡ done_of (belief_of old) its
turns_by old new part after place is_done w t its o =
    let f : (waiting (belief_of old) && is_outcome (due (belief_of old)) its) ≡ true = fits (belief_of old) place is_done its (holds (belief_of old)) o in
    let open_order : (known_of old).ordered ≡ true = w (first_so (waiting (belief_of old)) (is_outcome (due (belief_of old)) its) f) in
    let is : is_outcome (due (belief_of old)) its ≡ true = second_so (waiting (belief_of old)) (is_outcome (due (belief_of old)) its) f in
    (t.done its o (both_so (known_of old).ordered (is_outcome (due (belief_of old)) its) open_order is)).lender.belief

pub each_step_leaves_less : EachStepLeavesLess
each_step_leaves_less old new part after place is_done w t g = less (belief_of old) (belief_of new) place is_done (holds (belief_of old)) leads g where
  leads : Leads (belief_of old) (belief_of new) (step_of (belief_of old) place) is_done
  leads = record {
    turns = λ its o. turns_by old new part after place is_done w t its o;
    stays = λ none. ap (λ z. belief_of z) (t.page (ap (λ z. is_taken z (known_of old)) none));
  }
